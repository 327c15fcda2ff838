-- What a cut sheet tells, and when it is turned away.
use Rattle.std.specs.Prelude.{◌≡◌, ℕ, suc, ◌+◌, ◌*◌, ◌<◌, ◌≤◌, Bool, true, false, List, [], ◌∷◌, length, nat_lt, slice_index, if◌then◌else◌, Some, None, Ok, Err, Result}
use Rattle.flow.specs.Network.{total}
use Rattle.refusals.specs.declared.Refusal.{Refusal}
use Rattle.refusals.specs.declared.Refusal.TheVariants.{BadHorizon, BadYard, ListTooShort}
use Rattle.refusals.specs.Refusals.{Rule, rule, Decides}
use Rattle.roads.specs.Rules.{Outside}
use Rattle.cut_sheet.specs.declared.sheet.Inside.{Inside}

-- A period of a yard lies inside the cut of k when the mark of the place is above k: a mark counts the k whose cut holds the place.
abbrev pub lies_inside : ℕ → List ℕ → ℕ → ℕ → ℕ → Bool
lies_inside horizon marks yard k t = nat_lt k (slice_index marks (yard * suc horizon + t))

-- The periods from 0 to the horizon that pass a test are counted, and the first of them is told: the one after the horizon where
-- none passes.
pub record Tells (horizon : ℕ) (passes : ℕ → Bool) (told : Inside) : Type 0 where
  pub count : told.count ≡ total (suc horizon) (λ t. if passes t then 1 else 0)
  pub before : (t : ℕ) → t < told.first → passes t ≡ false
  pub at_first : told.first ≤ horizon → passes told.first ≡ true
  pub last : told.first ≤ suc horizon

-- there are 32 yards, and the horizon is at most 47
abbrev pub sheet_rules : ℕ → List ℕ → ℕ → List Rule
sheet_rules horizon marks yard =
    rule BadHorizon (Outside 1 47 horizon) ∷ rule BadYard (31 < yard) ∷ rule ListTooShort (length marks < 32 * suc horizon) ∷ []

abbrev pub Answers : ℕ → List ℕ → ℕ → ℕ → Result Inside Refusal → Type 0
Answers horizon marks yard k (Ok told) = Decides (sheet_rules horizon marks yard) None × Tells horizon (lies_inside horizon marks yard k) told
Answers horizon marks yard k (Err why) = Decides (sheet_rules horizon marks yard) (Some why)
