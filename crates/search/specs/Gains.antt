-- What is gained by sending more.
use Rattle.std.specs.Prelude.{◌≡◌, ℕ, ◌+◌, ◌<◌, ◌≤◌, Bool, true, false, ◌≢◌, List}
use Rattle.flow.specs.Network.{Network, Flow, Settled, arriving, leaving, below, brought}
use Rattle.search.specs.Visits.{Open, reached}
use Rattle.search.specs.declared.visit.Visit.{Visit}

-- no node of no rank below k keeps anything
abbrev pub Idle : Network → ℕ → List ℕ → Type 0
Idle N k f = (v : ℕ) → v < N.nodes → v ≢ N.source → below N k v ≡ false → arriving N f v ≤ leaving N f v

-- From the flow f to the flow g just d more is brought to the ranks below k; only these keep anything, and each set settled
-- under f stays settled.
pub record Gained (N : Network) (k : ℕ) (f g : List ℕ) (d : ℕ) : Type 0 where
  pub flow : Flow N g
  pub idle : Idle N k g
  pub more : brought N k g ≡ brought N k f + d
  pub kept : (j : ℕ) (R : ℕ → Bool) → Settled N j f R → Settled N j g R

-- The loads are as they were, and, where each node was reached along arcs that may be crossed, none of the nodes from m and
-- below n that is reached has a rank below k.
pub record Unserved (N : Network) (k : ℕ) (f g : List ℕ) (visits : List Visit) (m n : ℕ) : Type 0 where
  pub same : g ≡ f
  pub away : Open N f visits → (v : ℕ) → m ≤ v → v < n → below N k v ≡ true → reached visits v ≡ false
