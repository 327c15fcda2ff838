use Rattle.std.proofs.Common.{◌≡◌, ℕ, List, true, sym, ◌∙◌, subst}
use Rattle.std.specs.List.{list_all}
use Rattle.expanded.specs.Made.{is_within}
use Rattle.roads.specs.Grids.{grid_of}
use Rattle.slips.specs.Holds.{holds}
use Rattle.board.proofs.Lists.{front}
use Rattle.board.proofs.Quoting.{quote_short}
use Rattle.board.proofs.Finding.{delivers_servable}
use Rattle.board.proofs.board.Board.quote.Goals as goal

pub returns-then-is_err-clause-answer : goal.returns-then-is_err-clause-answer
returns-then-is_err-clause-answer g c =
    let b = c.args.self.now in
    let owing = front _ _ _ _ c.depots-depots.ensures c.owed_now-owed.ensures.list in
    let within = subst (λ (l : List ℕ). list_all is_within l ≡ true) (sym owing) c.owed_now-owed.ensures.within in
    quote_short c.schedule.result (grid_of b.roads) (holds b.slips) c.schedule.ensures _ owing within (delivers_servable b.feasible b.delivers)
    (g.R.Ranking.meaning c.args.ranking) c.args.figures.now _ c.args.marks.now _ _ c.quote-told.ensures (sym c.is_err.ensures.value ∙ c.if-is_err.true)
