-- The lane network of a timetable as lists of arcs and ranks: they keep to the limits, and are the lane network.
use Rattle.std.proofs.Common.{◌≡◌, ℕ, ◌<◌, ◌≤◌, Bool, true, false, cond, List, length, get_or, Some, None, Option, refl, ◌∙◌, ap, ⊎_elim, arith}
use mathlib.Core.Path.{fun_ext}
use Rattle.std.specs.List.{list_all}
use Rattle.std.proofs.lemmas.Bool.{cases_Bool, and_from, eqb-true, le-leb, lt-ltb}
use Rattle.std.proofs.lemmas.List.{get_or_default}
use Rattle.std.proofs.lemmas.List.FromFn.{length-map-range_with_len, get_or-map-range_with_len}
use Rattle.std.proofs.lemmas.List.Sums.{list_all-from_AllPass}
use Rattle.flow.specs.declared.Arc.{Arc}
use Rattle.flow.specs.Network.{Network}
use Rattle.network.specs.Limits.{joins, fits, low_rank, written, Makes}
use Rattle.timetable.specs.Plans.{Timetable, Sound, lane, is_depot}
use Rattle.timetable.proofs.Sums.{some_below_at}
use Rattle.lane_network.specs.Lanes.{yard_count, lane_capacity, lane_arc, lane_arcs, yard_rank, lane_network}
use Rattle.lane_network.proofs.Smallest.{capacity_smallest}

capacity_low : (S : Timetable) → Sound S → (l : ℕ) → lane_capacity S l ≤ 9999
capacity_low S sound l =
    ⊎_elim (λ (t, d, e). omega (arith, sound.bounded l t)) (λ (d, e). omega arith) (capacity_smallest S l).taken

module _ (S : Timetable) (sound : Sound S) where
  -- what holds of each lane's arc holds of each arc
  each_arc : (p : Arc → Bool) → ((l : ℕ) → l < length S.lanes → p (lane_arc S l) ≡ true) → list_all p (lane_arcs S) ≡ true
  each_arc p h = list_all-from_AllPass p (lane_arcs S) (λ l a m.
      let in' : l < length S.lanes = omega (arith, length-map-range_with_len (lane_arc S) 0 (length S.lanes)) in
      rw (get_or-map-range_with_len (lane_arc S) 0 (length S.lanes) l l a in' (omega arith)) (h l in'))

  -- the origin is no depot
  origin_unranked : yard_rank S S.origin ≡ None
  origin_unranked = ⊎_elim (λ e. absurd (no_depot e)) (λ e. rw e refl) (cases_Bool (is_depot S S.origin))
    where
      no_depot : is_depot S S.origin ≡ true → ⊥
      no_depot e = let (d, l, here) = some_below_at (length S.depots) _ e in (sound.yards d l).1 (eqb-true _ _ here)

  rank_low : (b : Bool) → low_rank (cond b (Some 0) None) ≡ true
  rank_low true = refl
  rank_low false = refl

  module _ (ranks : List (Option ℕ)) (many : length ranks ≡ 32) (ranked : (y : ℕ) → get_or ranks y None ≡ yard_rank S y) where
    pub lanes_make : Makes S.origin (lane_arcs S) ranks
    lanes_make = (
      omega arith,
      omega (arith, length-map-range_with_len (lane_arc S) 0 (length S.lanes), sound.few_lanes),
      omega (arith, sound.origin),
      rw (ranked S.origin, origin_unranked) refl,
      each_arc (joins (length ranks)) (λ l m. and_from _ _ (lt-ltb (lane S l).from (length ranks) (omega (arith, (sound.ends l m).0))) (lt-ltb (lane S l).to (length ranks) (omega (arith, (sound.ends l m).1)))),
      each_arc fits (λ l m. le-leb (lane_capacity S l) 46075392 (omega (arith, capacity_low S sound l))),
      list_all-from_AllPass low_rank ranks (λ y o l. rw (get_or_default ranks y o None l, ranked y) (rank_low (is_depot S y))),
    )

    pub lanes_named : written S.origin (lane_arcs S) ranks ≡ lane_network S
    unfolding yard_count
    lanes_named = ap (λ (n : ℕ). with_nodes n) many ∙ ap (λ (r : ℕ → Option ℕ). with_ranks r) (fun_ext ranked)
      where
        with_nodes : ℕ → Network
        with_nodes n = record { nodes = n; source = S.origin; arcs = lane_arcs S; rank = λ v. get_or ranks v None }

        with_ranks : (ℕ → Option ℕ) → Network
        with_ranks r = record { nodes = yard_count; source = S.origin; arcs = lane_arcs S; rank = r }
