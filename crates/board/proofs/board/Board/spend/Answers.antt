use Rattle.std.proofs.Common.{◌≡◌, true, false, sym, ◌∙◌, rules}
use Rattle.std.specs.Prelude.{is_ok}
use Rattle.slips.specs.declared.moves.Act.TheVariants.{Release}
use Rattle.roads.specs.Grids.{grid_of}
use Rattle.board.specs.Planned.{plan_in}
use Rattle.board.proofs.Finding.{is_found}
use Rattle.board.proofs.Kept.{kept_on}
use Rattle.board.proofs.Slips.{spent_bounded, spent_kept, still_found, still_kept}
use Rattle.board.proofs.board.Board.spend.Goals as goal

pub find_again-requires : goal.find_again-requires
find_again-requires c = spent_bounded c.args.self.now.slips _ c.args.slip c.args.act _ c.spend-spent.ensures.answer c.args.self.now.bounded

pub invariant_of-self : goal.invariant_of-self
invariant_of-self c =
    let b = c.args.self.now in
    still_kept (grid_of b.roads) b.slips _ c.args.slip c.args.act _ c.spend-spent.ensures.answer b.loads _ _ c.find_again.ensures (kept_on b)

pub unwrap-requires : goal.unwrap-requires
unwrap-requires c =
    let b = c.args.self.now in
    is_found _ (still_found (grid_of b.roads) b.slips _ c.args.slip c.args.act _ c.spend-spent.ensures.answer b.loads _ _ c.find_again.ensures (kept_on b))

pub invariant_of-self-else-eq : goal.invariant_of-self-else-eq
invariant_of-self-else-eq c =
    let b = c.args.self.now in
    let other : c.args.act ≡ Release → ⊥ = search rules in
    spent_kept (grid_of b.roads) (plan_in b.loads) b.slips _ c.args.slip c.args.act _ c.spend-spent.ensures.answer (λ ok. other) (kept_on b)

pub invariant_of-self-else-is_ok : goal.invariant_of-self-else-is_ok
invariant_of-self-else-is_ok c =
    let b = c.args.self.now in
    let refused : is_ok c.spend-spent.result ≡ false = sym c.is_ok.ensures.value ∙ c.if-is_ok.false in
    spent_kept (grid_of b.roads) (plan_in b.loads) b.slips _ c.args.slip c.args.act _ c.spend-spent.ensures.answer (λ ok. let z : true ≡ false = sym ok ∙ refused in cc) (kept_on b)
