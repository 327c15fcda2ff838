use Rattle.std.proofs.Common.{◌≡◌, ℕ, ◌+◌, List, length, take, ap, subst, vec_items, arith}
use Rattle.board.specs.Owing.{owed_with}
use Rattle.std.specs.Prelude.{slice_index}
use Rattle.slips.specs.Holds.{holds}
use Rattle.slips.specs.Owed.{owed_at, count_at}
use Rattle.board.proofs.Lists.{filled, owed_within}
use Rattle.board.proofs.owing.owed_with.Goals.{then-yard-depot, else-yard-depot}
use Rattle.board.proofs.owing.owed_with.Goals as goal

pub overflow_add-owed : goal.overflow_add-owed
overflow_add-owed c =
    let owed = c.owed.ensures.laws.most (slice_index c.depots-depot-items.result.now c.loop-order.order) 9999 c.args.slips.now c.requires.bounded in
    elim c.if-yard-depot.branch [
      | then-yard-depot w ↦ omega (arith, owed, c.owed.ensures.value, c.from.ensures, w.more-is, c.ranges.pallets.fits)
      | else-yard-depot w ↦ omega (arith, owed, c.owed.ensures.value, c.from.ensures, w.more-is)
    ]

pub returns-clause-list : goal.returns-clause-list
returns-clause-list c =
    let hs = holds c.args.slips.now in
    let items = c.depots-depot-items.result.now in
    let same = c.depots-depot-items.ensures in
    let few = c.args.roads.now.sound.few_depots in
    subst (λ (ds : List ℕ). take (length ds) c.loop-order.owed ≡ owed_with ds hs c.args.yard c.args.pallets) same
    (filled (λ y. owed_at y hs + count_at y c.args.yard c.args.pallets) items c.loop-order.owed
    (omega (arith, few, ap (λ (ds : List ℕ). length ds) same, c.loop-order.invariant.long))
    (λ i l. c.loop-order.invariant.listed i (omega (arith, l, c.loop-order-test.false))))

pub returns-clause-within : goal.returns-clause-within
returns-clause-within c = owed_within (vec_items c.args.roads.now.depots) (holds c.args.slips.now) c.args.yard c.args.pallets c.requires.bounded c.requires.fits
