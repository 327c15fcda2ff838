use Rattle.std.proofs.Common.{◌∷◌, [], vec_items, arith, rules}
use Rattle.std.specs.Vec.Iter.{into_iter_items}
use Rattle.std.proofs.lemmas.List.{length-append, nil_from_length}
use Rattle.board_runs.specs.Asks.{asked, told}
use Rattle.board_runs.specs.Steps.{Step, moment_of}
use Rattle.board_runs.proofs.Replaying.{fewer, one_more, map_push, none_said, none_left, all_said}
use Rattle.board_runs.proofs.replay.make_all.Goals as goal

pub loop-call-init : goal.loop-call-init
loop-call-init g c = record {
  whole = c.into_iter-call-iterator.ensures.into_iter_gives.0;
  left = omega (arith, c.into_iter-call-iterator.ensures.into_iter_gives.1);
  answered = c.requires.fresh;
  room = search rules;
  spare = search rules;
  ran = none_said Step told (vec_items c.args.answers.now) (moment_of c.args.desk.now) (nil_from_length (vec_items c.args.answers.now) (omega (arith, c.requires.fresh, c.args.answers.now.ok.0)));
}

pub turn-requires : goal.turn-requires
turn-requires g c =
    let i = c.loop-call.invariant in
    let some = fewer c.loop-call.yielded (into_iter_items c.loop-call.call-iterator) _ (vec_items c.args.calls) c.in-Some.call i.whole c.in-Some.ensures.steps.0 in
    omega (arith, some, i.spare, c.args.calls.ok.0)

pub push_reserved-requires : goal.push_reserved-requires
push_reserved-requires g c =
    let i = c.loop-call.invariant in
    let some = fewer c.loop-call.yielded (into_iter_items c.loop-call.call-iterator) _ (vec_items c.args.calls) c.in-Some.call i.whole c.in-Some.ensures.steps.0 in
    omega (arith, some, i.answered, i.room, c.args.calls.ok.0)

pub loop-call-preserved : goal.loop-call-preserved
loop-call-preserved g c =
    let i = c.loop-call.invariant in
    let more = length-append c.loop-call.yielded (c.in-Some.call ∷ []) in
    record {
      whole = one_more c.loop-call.yielded (into_iter_items c.loop-call.call-iterator) _ (vec_items c.args.calls) c.in-Some.call i.whole c.in-Some.ensures.steps.0;
      left = omega (arith, more, i.left, c.in-Some.ensures.steps.1);
      answered = omega (arith, more, i.answered, c.push_reserved.ensures.len);
      room = omega (arith, i.room, c.push_reserved.ensures.capacity);
      spare = omega (arith, more, i.spare, c.turn.ensures.spare);
      ran = map_push Step (asked g.R.Ranking.meaning) told c.loop-call.yielded c.in-Some.call (vec_items c.loop-call.answers) _ c.turn.result _ _ _ i.ran c.turn.ensures.step c.push_reserved.ensures.items;
    }

pub returns : goal.returns
returns g c =
    let i = c.loop-call.invariant in
    let none = none_left c.loop-call.yielded (into_iter_items c.loop-call.call-iterator) (vec_items c.args.calls) i.whole (omega (arith, i.left, c.in-None.ensures.steps.0, c.args.calls.ok.0)) in
    all_said Step (asked g.R.Ranking.meaning) c.loop-call.yielded (into_iter_items c.loop-call.call-iterator) (vec_items c.args.calls) _ _ _ i.whole none i.ran
