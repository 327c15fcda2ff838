-- The theorems: flows and cuts bound one another, a settled set is a proof that a flow is greatest, and one flow is greatest for every k at once.
use Rattle.std.specs.Prelude.{◌≡◌, ℕ, ◌<◌, ◌≤◌, Bool, List}
use Rattle.flow.specs.Network.{Network, Sound, Flow, brought, Cut, width, Settled, Inside, granted}

-- No flow brings more to the ranks below k than a cut for k is wide.
abbrev pub WeakDuality : Type 0
WeakDuality = (N : Network) → Sound N → (k : ℕ) (f : List ℕ) (X : ℕ → Bool) → Flow N f → Cut N k X → brought N k f ≤ width N X

-- f brings the most that any flow brings to the ranks below k
abbrev pub Greatest : Network → ℕ → List ℕ → Type 0
Greatest N k f = (g : List ℕ) → Flow N g → brought N k g ≤ brought N k f

-- X is a cut for k, and none is narrower
abbrev pub Narrowest : Network → ℕ → (ℕ → Bool) → Type 0
Narrowest N k X = Cut N k X × ((Y : ℕ → Bool) → Cut N k Y → width N X ≤ width N Y)

-- R is the smallest of the sets that are settled under f
abbrev pub Smallest : Network → ℕ → List ℕ → (ℕ → Bool) → Type 0
Smallest N k f R = Settled N k f R × ((S : ℕ → Bool) → Settled N k f S → Inside N R S)

-- A settled set that is a cut shows that f is greatest, and is itself narrowest.
pub record Certified (N : Network) (k : ℕ) (f : List ℕ) (R : ℕ → Bool) : Type 0 where
  pub tight : brought N k f ≡ width N R
  pub greatest : Greatest N k f
  pub narrowest : Narrowest N k R

abbrev pub Certificate : Type 0
Certificate = (N : Network) → Sound N → (k : ℕ) (f : List ℕ) (R : ℕ → Bool) → Flow N f → Cut N k R → Settled N k f R → Certified N k f R

-- The smallest settled set lies in every cut that is as wide as what f brings, so in every narrowest cut.
abbrev pub SmallestCut : Type 0
SmallestCut = (N : Network) → Sound N → (k : ℕ) (f : List ℕ) (R X : ℕ → Bool) → Flow N f → Smallest N k f R → Cut N k X → width N X ≡ brought N k f → Inside N R X

-- The smallest settled set of a greatest flow is the same for every greatest flow.
abbrev pub OneBottleneck : Type 0
OneBottleneck = (N : Network) → Sound N → (k : ℕ) (f g : List ℕ) (R S : ℕ → Bool) → Flow N f → Flow N g → Smallest N k f R → Cut N k R → Smallest N k g S → Cut N k S → Inside N R S × Inside N S R

-- The smallest settled sets shrink as k grows.
abbrev pub Nested : Type 0
Nested = (N : Network) (f : List ℕ) (j k : ℕ) (R S : ℕ → Bool) → j ≤ k → Settled N j f S → Smallest N k f R → Inside N R S

-- A flow with a settled cut for each k up to K is greatest for all of them at once.
abbrev pub AllGreatest : Type 0
AllGreatest = (N : Network) → Sound N → (K : ℕ) (f : List ℕ) (R : ℕ → ℕ → Bool) → Flow N f → ((k : ℕ) → k ≤ K → Cut N k (R k) × Settled N k f (R k)) → (k : ℕ) → k ≤ K → Greatest N k f

-- f serves the ranks below K in their order: a flow that grants as much to each rank before r grants no more to r
abbrev pub First : Network → ℕ → List ℕ → Type 0
First N K f = (g : List ℕ) → Flow N g → (r : ℕ) → r < K → ((j : ℕ) → j < r → granted N j g ≡ granted N j f) → granted N r g ≤ granted N r f

abbrev pub Lexicographic : Type 0
Lexicographic = (N : Network) (K : ℕ) (f : List ℕ) → ((k : ℕ) → k ≤ K → Greatest N k f) → First N K f

-- a narrowest cut for k that is as wide as what f brings, and lies in each other narrowest cut
pub record Bottleneck (N : Network) (k : ℕ) (f : List ℕ) : Type 0 where
  pub set : ℕ → Bool
  pub cut : Cut N k set
  pub smallest : Smallest N k f set
  pub tight : brought N k f ≡ width N set

-- A flow that is greatest for k has a bottleneck (that a flow with a bottleneck is greatest is the certificate).
abbrev pub GreatestBottleneck : Type 0
GreatestBottleneck = (N : Network) → Sound N → (k : ℕ) (f : List ℕ) → Flow N f → Greatest N k f → Bottleneck N k f

-- One flow is greatest for every k up to K.
pub record Best (N : Network) (K : ℕ) : Type 0 where
  pub loads : List ℕ
  pub flow : Flow N loads
  pub greatest : (k : ℕ) → k ≤ K → Greatest N k loads

abbrev pub BestExists : Type 0
BestExists = (N : Network) → Sound N → (K : ℕ) → Best N K

-- To serve the ranks in their order is to be greatest for each k.
abbrev pub FirstGreatest : Type 0
FirstGreatest = (N : Network) → Sound N → (K : ℕ) (f : List ℕ) → Flow N f → First N K f → (k : ℕ) → k ≤ K → Greatest N k f

-- What each rank is granted does not depend on the flow.
abbrev pub FirstUnique : Type 0
FirstUnique = (N : Network) (K : ℕ) (f g : List ℕ) → Flow N f → Flow N g → First N K f → First N K g → (r : ℕ) → r < K → granted N r f ≡ granted N r g
