use Rattle.std.proofs.Common.{refl, arith}
use Rattle.queue.specs.Items.{items}
use Rattle.board.specs.States.{state_of}
use Rattle.run_sheet.proofs.Nexts.{long_enough, no_run, ready_now, kept_on, takes_run}
use Rattle.run_sheet.proofs.next.take_next.Goals as goal

pub returns-in_default-clause-answer : goal.returns-in_default-clause-answer
returns-in_default-clause-answer c =
    let b = c.args.board.now in
    let s = state_of b in (
      long_enough s _ _ (omega (arith, c.load_count.ensures, c.if-loads-load_count.false)) (omega (arith, c.horizon.ensures, c.if-legs-horizon.false)),
      no_run s b.roads.sound c.args.loads.now (omega (arith, c.load_count.ensures, c.if-loads-load_count.false)) c.requires c.in_default.ensures,
      refl,
      refl,
    )

pub take_off-requires-clause-ready : goal.take_off-requires-clause-ready
take_off-requires-clause-ready c =
    let b = c.args.board.now in
    ready_now (state_of b) b.roads.sound c.args.loads.now (omega (arith, c.load_count.ensures, c.if-loads-load_count.false)) c.requires c.in-Some.start c.follow-pallets.result (items c.follow-pallets.new.way) c.follow-pallets.ensures

pub returns-clause-answer : goal.returns-clause-answer
returns-clause-answer c =
    let b = c.args.board.now in
    let s = state_of b in (
      long_enough s _ _ (omega (arith, c.load_count.ensures, c.if-loads-load_count.false)) (omega (arith, c.horizon.ensures, c.if-legs-horizon.false)),
      takes_run s b.roads.sound c.args.loads.now (omega (arith, c.load_count.ensures, c.if-loads-load_count.false)) c.requires c.in-Some.start c.follow-pallets.result (items c.follow-pallets.new.way) c.follow-pallets.ensures c.take_off.new.loads c.args.legs.now c.take_off.new.legs c.take_off.result c.take_off.ensures c.take_off.auto.loads (omega (arith, c.horizon.ensures, c.if-legs-horizon.false)),
    )

pub returns-clause-kept : goal.returns-clause-kept
returns-clause-kept c =
    let b = c.args.board.now in
    kept_on (state_of b) b.roads.sound c.args.loads.now (omega (arith, c.load_count.ensures, c.if-loads-load_count.false)) c.requires c.in-Some.start c.follow-pallets.result (items c.follow-pallets.new.way) c.follow-pallets.ensures c.take_off.new.loads c.args.legs.now c.take_off.new.legs c.take_off.result c.take_off.ensures
