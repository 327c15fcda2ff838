use Rattle.std.proofs.Common.{◌≡◌, ℕ, List, true, ◌∙◌, subst, vec_items, arith}
use Rattle.std.specs.List.{list_all}
use Rattle.expanded.specs.Made.{is_within}
use Rattle.slips.specs.Holds.{holds}
use Rattle.slips.proofs.Tables.{holds_most}
use Rattle.board.proofs.Lists.{owed_with_none}
use Rattle.board.proofs.owing.owed_now.Goals as goal

pub owed_with-requires-clause-fits : goal.owed_with-requires-clause-fits
owed_with-requires-clause-fits c = omega (arith, holds_most c.args.slips.now)

pub returns-clause-list : goal.returns-clause-list
returns-clause-list c = c.owed_with.ensures.list ∙ owed_with_none (vec_items c.args.roads.now.depots) (holds c.args.slips.now)

pub returns-clause-within : goal.returns-clause-within
returns-clause-within c =
    subst (λ (l : List ℕ). list_all is_within l ≡ true) (owed_with_none (vec_items c.args.roads.now.depots) (holds c.args.slips.now)) c.owed_with.ensures.within
