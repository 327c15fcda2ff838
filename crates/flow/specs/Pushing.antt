-- Pushing an amount along a residual walk: what it does to what arrives and leaves, and that it makes a flow of a flow.
use Rattle.std.specs.Prelude.{◌≡◌, ℕ, ◌+◌, ◌-◌, ◌<◌, ◌≤◌, Bool, true, cond, ◌≢◌, ◌⊎◌, List, [], ◌∷◌, length, replicate, ◌==◌, nat_eq, slice_index, slice_index_or, slice_set}
use Rattle.std.specs.List.{AllByRecursion}
use Rattle.flow.specs.Network.{Arc, Network, Sound, Along, arriving, leaving, ranked, below, brought, Flow, width}

abbrev pub no_arc : Arc
no_arc = record { tail = 0; head = 0; capacity = 0 }

-- a step goes along the arc of that number, or against it
pub record Step : Type 0 where
  pub arc : ℕ
  pub forth : Bool

abbrev pub arc_at : Network → ℕ → Arc
arc_at N i = slice_index_or N.arcs i no_arc

abbrev pub start_of : Network → Step → ℕ
start_of N p = cond p.forth (arc_at N p.arc).tail (arc_at N p.arc).head

abbrev pub stop_of : Network → Step → ℕ
stop_of N p = cond p.forth (arc_at N p.arc).head (arc_at N p.arc).tail

-- how much can be pushed: along an arc its room, against it its load
abbrev pub spare : Network → List ℕ → Step → ℕ
spare N f p = cond p.forth ((arc_at N p.arc).capacity - slice_index f p.arc) (slice_index f p.arc)

abbrev pub pushed : List ℕ → Step → ℕ → List ℕ
pushed f p d = slice_set f p.arc (cond p.forth (slice_index f p.arc + d) (slice_index f p.arc - d))

abbrev pub Fitting : Network → List ℕ → Type 0
Fitting N f = Along (λ a x. x ≤ a.capacity) N.arcs f

-- From f to g an amount d went from w to v: v has d more, w has d less, and every other node has what it had.
abbrev pub Carries : Network → List ℕ → List ℕ → ℕ → ℕ → ℕ → Type 0
Carries N f g d w v = (u : ℕ) → arriving N g u + leaving N f u + cond (w == u) d 0 ≡ arriving N f u + leaving N g u + cond (v == u) d 0

-- one step
abbrev pub PushCarries : Type 0
PushCarries = (N : Network) (f : List ℕ) (p : Step) (d : ℕ) → Fitting N f → p.arc < length N.arcs → d ≤ spare N f p → Fitting N (pushed f p d) × Carries N f (pushed f p d) d (start_of N p) (stop_of N p)

-- A walk back from t: with nothing pushed t is where it started, and each step moves the lack of d one node on.
abbrev pub CarriesOn : Type 0
CarriesOn = (N : Network) (f g h : List ℕ) (d t v w : ℕ) → Carries N f g d v t → Carries N g h d w v → Carries N f h d w t

-- The steps lead back from t to s, over no arc twice, and each has d to spare under f.
abbrev pub Walk : Network → List ℕ → ℕ → List Step → ℕ → ℕ → Type 0
Walk N f d [] s t = s ≡ t
Walk N f d (p ∷ ps) s t = (stop_of N p ≡ t) × (p.arc < length N.arcs) × (d ≤ spare N f p) × AllByRecursion (λ q. q.arc ≢ p.arc) ps × Walk N f d ps s (start_of N p)

abbrev pub push_all : List ℕ → List Step → ℕ → List ℕ
push_all f [] d = f
push_all f (p ∷ ps) d = push_all (pushed f p d) ps d

abbrev pub WalkCarries : Type 0
WalkCarries = (N : Network) (f : List ℕ) (d : ℕ) (ps : List Step) (s t : ℕ) → Fitting N f → Walk N f d ps s t → Fitting N (push_all f ps d) × Carries N f (push_all f ps d) d s t

-- s can give d: it is the source, or a ranked node at which f leaves as much
abbrev pub Gives : Network → List ℕ → ℕ → ℕ → Type 0
Gives N f d s = (s ≡ N.source) ⊎ ((ranked N s ≡ true) × (leaving N f s + d ≤ arriving N f s))

-- What was carried to a ranked node from one that can give it leaves a flow, and it counts for the ranks of the two nodes.
abbrev pub Augments : Type 0
Augments = (N : Network) → Sound N → (f g : List ℕ) (d s t : ℕ) → Flow N f → Fitting N g → s < N.nodes → t < N.nodes → ranked N t ≡ true → Gives N f d s → Carries N f g d s t → Flow N g × ((k : ℕ) → brought N k g + cond (below N k s) d 0 ≡ brought N k f + cond (below N k t) d 0)

-- Where pushing starts, and why it ends: nothing is a flow, and no flow brings more than the source's arcs carry.
abbrev pub NothingFlows : Type 0
NothingFlows = (N : Network) → Flow N (replicate (length N.arcs) 0)

abbrev pub Bounded : Type 0
Bounded = (N : Network) → Sound N → (k : ℕ) (f : List ℕ) → Flow N f → brought N k f ≤ width N (nat_eq N.source)
