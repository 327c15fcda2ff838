-- What a layout lays out is a sound network.
use Rattle.std.proofs.Common.{◌≡◌, ℕ, ◌*◌, ◌<◌, ◌≤◌, Bool, true, false, cond, eqb, List, [], ◌∷◌, length, get_or, ap, arith}
use Rattle.std.proofs.Math.Path.{fun_ext}
use Rattle.std.specs.List.{AllByRecursion}
use Rattle.std.proofs.ByRecursion.{All-from_get_or}
use Rattle.flow.specs.declared.Arc.{Arc}
use Rattle.flow.specs.Network.{Network, Sound, crosses, is_ranked, wide, width}
use Rattle.flow.specs.Pushing.{no_arc}
use Rattle.search.specs.Entries.{first_at, next_at, rank_at}
use Rattle.search.specs.Links.{LinkedBy, key}
use Rattle.search.specs.declared.end.End.{End}
use Rattle.search.specs.Layouts.{copy_of, laid}
use Rattle.search.specs.declared.entry.NodeEntry.{NodeEntry}
use Rattle.search.specs.declared.layout.Layout.{Layout}

pub laid_sound : (m : Layout) → Sound (laid m)
laid_sound m = record {
  within = m.within;
  ends = All-from_get_or (λ a. (a.tail < length m.nodes.now) × (a.head < length m.nodes.now)) m.arcs.now no_arc (λ i l. ((m.proper i l).0, (m.proper i l).1));
  unranked = ap is_ranked m.bare;
}

-- no more leaves the source than fits a counter of 64 bits
wide_bound : (X : ℕ → Bool) (es : List Arc) → AllByRecursion (λ a. a.capacity ≤ 46075392) es → wide X es ≤ 46075392 * length es
wide_bound X [] low = omega arith
wide_bound X (a ∷ es) low = omega (arith, cond_le (crosses X a) a.capacity, wide_bound X es low.1, low.0)
  where
    cond_le : (b : Bool) (c : ℕ) → cond b c 0 ≤ c
    cond_le true c = omega arith
    cond_le false c = omega arith

pub source_width : (m : Layout) → width (laid m) (eqb (laid m).source) ≤ 1509798445056
source_width m =
    let low = All-from_get_or (λ a. a.capacity ≤ 46075392) m.arcs.now no_arc (λ i l. (m.proper i l).2) in
    omega (arith, wide_bound (eqb m.source) m.arcs.now low, m.few_arcs)

-- arcs and entries that are those of a network are that network
pub copy_is : (N : Network) (source : ℕ) (arcs : List Arc) (nodes : List NodeEntry) → source ≡ N.source → arcs ≡ N.arcs → length nodes ≡ N.nodes → ((v : ℕ) → rank_at nodes v ≡ N.rank v) → copy_of source arcs nodes ≡ N
copy_is N source arcs nodes starts same sized ranks = let rank : rank_at nodes ≡ N.rank = fun_ext ranks in λ i. record { nodes = sized i; source = starts i; arcs = same i; rank = rank i }

-- its arcs are linked
pub laid_linked : (m : Layout) (end : End) → LinkedBy (key end (laid m).arcs) (laid m).nodes (length (laid m).arcs) (first_at end m.nodes.now) (next_at end m.next_out.now m.next_in.now)
laid_linked m end = m.linked end
