-- A test that computes whether rows of an example hold, for a timetable given by rows of numbers. A quote is tested by a plan
-- and a split that reach the figures, and by an order of the places in which residual steps reach those that are marked.
use Rattle.std.specs.Prelude.{◌≡◌, ℕ, suc, ◌+◌, ◌-◌, ◌*◌, Bool, true, not, ◌&&◌, ◌||◌, List, [], ◌∷◌, length, ◌==◌, nat_le, nat_lt, slice_index, if◌then◌else◌}
use Rattle.flow.specs.Network.{total}
use Rattle.flow.specs.Checker.{each_below}
use Rattle.timetable.specs.Plans.{Lane, Timetable, some_below, lane, depot, is_depot, departs, arriving, leaving, delivered, Servable}
use Rattle.timetable.specs.Live.{is_live, live_departure}
use Rattle.timetable.specs.Quotes.{Ranking, further, width, all_owed, marked, Right}

-- rows of one number for each period: the number of the row i at the period t
abbrev pub entry : ℕ → List ℕ → ℕ → ℕ → ℕ
entry horizon numbers i t = slice_index numbers (i * suc horizon + t)

-- a timetable with a row of capacities for each lane
pub record Table : Type 0 where
  pub horizon : ℕ
  pub origin : ℕ
  pub lanes : List Lane
  pub capacities : List ℕ
  pub depots : List ℕ

abbrev pub timetable : Table → Timetable
timetable Z = record { horizon = Z.horizon; origin = Z.origin; lanes = Z.lanes; capacity = entry Z.horizon Z.capacities; depots = Z.depots }

-- Tests: at each period of each row below n, and each of a list.
abbrev pub each_entry : Timetable → ℕ → (ℕ → ℕ → Bool) → Bool
each_entry S n p = each_below n (λ i. each_below (suc S.horizon) (p i))

abbrev pub passes : List Bool → Bool
passes [] = true
passes (b ∷ bs) = b && passes bs

abbrev pub implies : Bool → Bool → Bool
implies a b = not a || b

abbrev pub sound_lane : Timetable → ℕ → List Bool
sound_lane S l =
    nat_lt (lane S l).from 32 ∷ nat_lt (lane S l).to 32 ∷ not ((lane S l).to == S.origin) ∷ not ((lane S l).to == (lane S l).from)
    ∷ nat_le 1 (lane S l).transit ∷ nat_le (lane S l).transit 47 ∷ []

abbrev pub sound_depot : Timetable → ℕ → List Bool
sound_depot S d =
    nat_lt (depot S d) 32 ∷ not (depot S d == S.origin) ∷ each_below (length S.depots) (λ e. implies (depot S d == depot S e) (d == e)) ∷ []

abbrev pub is_sound : Table → List Bool
is_sound Z =
    nat_le 1 Z.horizon ∷ nat_le Z.horizon 47 ∷ nat_lt Z.origin 32 ∷ nat_le (length Z.lanes) 96 ∷ each_below (length Z.lanes) (λ l. passes (sound_lane (timetable Z) l))
    ∷ each_below (length Z.capacities) (λ i. nat_le (slice_index Z.capacities i) 9999) ∷ nat_le (length Z.depots) 16 ∷ each_below (length Z.depots) (λ d. passes (sound_depot (timetable Z) d)) ∷ []

abbrev pub balances : Timetable → (ℕ → ℕ → ℕ) → ℕ → ℕ → Bool
balances S p y u = if is_depot S y then nat_le (leaving S p y u) (arriving S p y u) else y == S.origin || arriving S p y u == leaving S p y u

-- lanes and depots name yards below 32 only, so no other yard needs a test
abbrev pub is_feasible : Timetable → (ℕ → ℕ → ℕ) → List Bool
is_feasible S p =
    each_entry S (length S.lanes) (λ l t. implies (departs S l t) (nat_le (p l t) (S.capacity l t)))
    ∷ each_entry S 32 (balances S p) ∷ []

abbrev pub is_split : Timetable → (ℕ → ℕ) → (ℕ → ℕ → ℕ) → (ℕ → ℕ → ℕ) → List Bool
is_split S owed p q =
    each_entry S (length S.depots) (λ d u. nat_le (q d u) (delivered S p d u))
    ∷ each_below (length S.depots) (λ d. total (suc S.horizon) (q d) == owed d) ∷ []

-- X, which holds no place past the yard 31 or the horizon, is a cut for k
abbrev pub is_inside : Timetable → (ℕ → ℕ → Bool) → ℕ → ℕ → Bool
is_inside S X y t = implies (X y t) (is_live S y t)

abbrev pub is_cut : Timetable → Ranking → ℕ → (ℕ → ℕ → Bool) → List Bool
is_cut S R k X =
    each_entry S 32 (is_inside S X)
    ∷ each_below (suc S.horizon) (λ t. implies (is_live S S.origin t) (X S.origin t))
    ∷ each_entry S (length S.depots) (λ d t. implies (nat_lt (R.rank d t) k) (not (X (depot S d) t))) ∷ []

-- X holds a place that is earlier in the order than y@t
abbrev pub earlier : (ℕ → ℕ → Bool) → (ℕ → ℕ → ℕ) → ℕ → ℕ → ℕ → ℕ → Bool
earlier X order y t z u = X z u && nat_lt (order z u) (order y t)

-- y@t is reached: it is an origin place, or a departure with room leads to it from an earlier place, or a loaded departure
-- leads from it to an earlier place, or it is a depot place that has a surplus and no rank below k, or that gives a share
-- to what is owed at its depot, which an earlier place of the same depot could give.
abbrev pub by_room : Timetable → (ℕ → ℕ → ℕ) → (ℕ → ℕ → Bool) → (ℕ → ℕ → ℕ) → ℕ → ℕ → ℕ → List Bool
by_room S p X order y t l =
    ((lane S l).to == y) ∷ nat_le (lane S l).transit t ∷ live_departure S l (t - (lane S l).transit)
    ∷ nat_lt (p l (t - (lane S l).transit)) (S.capacity l (t - (lane S l).transit)) ∷ earlier X order y t (lane S l).from (t - (lane S l).transit) ∷ []

abbrev pub by_load : Timetable → (ℕ → ℕ → ℕ) → (ℕ → ℕ → Bool) → (ℕ → ℕ → ℕ) → ℕ → ℕ → ℕ → List Bool
by_load S p X order y t l =
    ((lane S l).from == y) ∷ live_departure S l t ∷ nat_lt 0 (p l t) ∷ earlier X order y t (lane S l).to (t + (lane S l).transit) ∷ []

abbrev pub by_surplus : Timetable → Ranking → ℕ → (ℕ → ℕ → ℕ) → (ℕ → ℕ → ℕ) → ℕ → ℕ → ℕ → List Bool
by_surplus S R k p q y t d = (depot S d == y) ∷ nat_le k (R.rank d t) ∷ nat_lt (q d t) (delivered S p d t) ∷ []

abbrev pub by_share : Timetable → (ℕ → ℕ → ℕ) → (ℕ → ℕ → Bool) → (ℕ → ℕ → ℕ) → ℕ → ℕ → ℕ → List Bool
by_share S q X order y t d = (depot S d == y) ∷ nat_lt 0 (q d t) ∷ some_below (suc S.horizon) (λ u. earlier X order y t y u) ∷ []

abbrev pub is_reached : Timetable → Ranking → ℕ → (ℕ → ℕ → ℕ) → (ℕ → ℕ → ℕ) → (ℕ → ℕ → Bool) → (ℕ → ℕ → ℕ) → ℕ → ℕ → Bool
is_reached S R k p q X order y t =
    (y == S.origin)
    || (some_below (length S.lanes) (λ l. passes (by_room S p X order y t l))
    || (some_below (length S.lanes) (λ l. passes (by_load S p X order y t l))
    || (some_below (length S.depots) (λ d. passes (by_surplus S R k p q y t d))
    || some_below (length S.depots) (λ d. passes (by_share S q X order y t d)))))

abbrev pub is_kept : Timetable → Ranking → ℕ → (ℕ → ℕ → ℕ) → (ℕ → ℕ → ℕ) → (ℕ → ℕ → Bool) → (ℕ → ℕ → ℕ) → ℕ → ℕ → Bool
is_kept S R k p q X order y t = implies (X y t) (is_reached S R k p q X order y t)

-- X is a cut for k of the width w, and each of its places is reached
abbrev pub is_full : Timetable → (ℕ → ℕ) → Ranking → ℕ → (ℕ → ℕ → ℕ) → (ℕ → ℕ → ℕ) → ℕ → (ℕ → ℕ → Bool) → (ℕ → ℕ → ℕ) → List Bool
is_full S owed R k p q w X order =
    passes (is_cut S R k X) ∷ each_entry S 32 (is_kept S R k p q X order) ∷ (width S owed X == w) ∷ []

-- a row of loads for each lane, a row of shares for each depot, and a row of the order for each yard
pub record Certificate : Type 0 where
  pub loads : List ℕ
  pub shares : List ℕ
  pub order : List ℕ

-- all owed can be delivered, by these loads and shares
abbrev pub is_served : Table → List ℕ → Certificate → List Bool
is_served Z owed c =
    let S : Timetable = timetable Z in
    let p : ℕ → ℕ → ℕ = entry Z.horizon c.loads in
    passes (is_sound Z) ∷ passes (is_feasible S p) ∷ passes (is_split S (slice_index owed) p (entry Z.horizon c.shares)) ∷ []

-- and they reach the figures, and the marks are for each k a full cut, and none is above K + 1
abbrev pub is_quoted : Table → List ℕ → Ranking → List ℕ → List ℕ → Certificate → List Bool
is_quoted Z owed R figures marks c =
    let S : Timetable = timetable Z in
    let due : ℕ → ℕ = slice_index owed in
    let p : ℕ → ℕ → ℕ = entry Z.horizon c.loads in
    let q : ℕ → ℕ → ℕ = entry Z.horizon c.shares in
    passes (is_served Z owed c)
    ∷ each_below R.ranks (λ r. further S R p q r == slice_index figures r)
    ∷ each_below (suc R.ranks) (λ k. passes (is_full S due R k p q (all_owed S due + total k (slice_index figures)) (marked S marks k) (entry Z.horizon c.order)))
    ∷ each_below (length marks) (λ i. nat_le (slice_index marks i) (suc R.ranks)) ∷ []

-- all owed cannot be delivered: the marked places are a cut that is not as wide
abbrev pub no_ranks : Ranking
no_ranks = record { ranks = 0; rank = λ d u. 0 }

abbrev pub is_refused : Table → List ℕ → List ℕ → List Bool
is_refused Z owed marks =
    let S : Timetable = timetable Z in
    passes (is_sound Z) ∷ passes (is_cut S no_ranks 0 (marked S marks 0)) ∷ nat_lt (width S (slice_index owed) (marked S marks 0)) (all_owed S (slice_index owed)) ∷ []

-- A row says, of a timetable and what is owed at each depot, what a right quote is, that all owed can be delivered, or that it
-- cannot. It ends with what shows it.
pub data Row : Type 0 where
  quoted : Table → List ℕ → Ranking → List ℕ → List ℕ → Certificate → Row
  served : Table → List ℕ → Certificate → Row
  refused : Table → List ℕ → List ℕ → Row

abbrev pub Holds : Row → Type 0
Holds (quoted Z owed R figures marks c) = Right (timetable Z) (slice_index owed) R figures marks
Holds (served Z owed c) = Servable (timetable Z) (slice_index owed)
Holds (refused Z owed marks) = Servable (timetable Z) (slice_index owed) → ⊥

abbrev pub certified : Row → Bool
certified (quoted Z owed R figures marks c) = passes (is_quoted Z owed R figures marks c)
certified (served Z owed c) = passes (is_served Z owed c)
certified (refused Z owed marks) = passes (is_refused Z owed marks)

-- a row that passes holds
abbrev pub CertifiedHolds : Type 0
CertifiedHolds = (r : Row) → certified r ≡ true → Holds r
