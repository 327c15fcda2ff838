-- What is invariant on a board, of its roads, its holds and its plan.
use Rattle.std.proofs.Common.{◌≡◌, ℕ, ◌≤◌, false, List, [], sym, refl, subst, arith}
use Rattle.std.specs.Prelude.{slice_index}
use Rattle.std.specs.List.{All}
use Rattle.timetable.specs.Plans.{Feasible, Delivers, is_depot}
use Rattle.roads.specs.Grids.{Grid, grid_of, timetable, opened}
use Rattle.slips.specs.declared.table.Entry.{Entry}
use Rattle.slips.specs.Holds.{holds}
use Rattle.slips.specs.Owed.{owed_at}
use Rattle.board.specs.Owing.{owed_by}
use Rattle.board.specs.Planned.{plan_in}
use Rattle.board.specs.declared.board.Board.{Board}

-- no hold has more than 9,999 pallets
abbrev pub Bounded : List Entry → Type 0
Bounded hs = All (λ e. e.pallets ≤ 9999) hs

-- The plan stands, and nothing is owed at a yard that is no depot.
abbrev pub Kept : Grid → List Entry → (ℕ → ℕ → ℕ) → Type 0
Kept g hs p = record {
  feasible : Feasible (timetable g) p;
  delivers : Delivers (timetable g) (slice_index (owed_by g.depots hs)) p;
  bounded : Bounded hs;
  promised : (y : ℕ) → is_depot (timetable g) y ≡ false → owed_at y hs ≡ 0;
}

-- what a board in memory keeps
pub kept_on : (b : Board) → Kept (grid_of b.roads) (holds b.slips) (plan_in b.loads)
kept_on b = record { feasible = b.feasible; delivers = b.delivers; bounded = b.bounded; promised = b.promised }

-- with the same roads and the same plan
pub kept_same : (g g' : Grid) (hs : List Entry) (p p' : ℕ → ℕ → ℕ) → g' ≡ g → p' ≡ p → Kept g hs p → Kept g' hs p'
kept_same g g' hs p p' roads plan k = subst (λ (h : Grid). Kept h hs p') (sym roads) (subst (λ (q : ℕ → ℕ → ℕ). Kept g hs q) (sym plan) k)

-- a board that was just opened
pub kept_fresh : (horizon origin : ℕ) (p : ℕ → ℕ → ℕ) → Kept (opened horizon origin) [] p
kept_fresh horizon origin p = record {
  feasible = record { fits = λ l t lt e. omega (arith, lt); passes = λ y u le ne no. refl; keeps = λ y u le e. cc };
  delivers = λ d lt. omega (arith, lt);
  bounded = λ i d lt. omega (arith, lt);
  promised = λ y e. refl;
}
