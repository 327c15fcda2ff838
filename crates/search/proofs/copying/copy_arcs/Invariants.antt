use Rattle.std.proofs.Common.{◌≡◌, ℕ, ◌<◌, length, get_or}
use Rattle.flow.specs.Pushing.{no_arc}
use Rattle.search.specs.Entries.{first_at, next_at, rank_at}
use Rattle.search.specs.Links.{LinkedBy, key}
use Rattle.search.specs.declared.end.End.{End}
use Rattle.search.proofs.copying.copy_arcs.Given as goal

abbrev pub invariant-loop-e : goal.invariant-loop-e
invariant-loop-e g l =
    let N = g.N.Network.meaning l.net in
    record {
      copied : (k : ℕ) → k < l.e → get_or l.arcs k no_arc ≡ get_or N.arcs k no_arc;
      ranks : (v : ℕ) → rank_at l.nodes v ≡ rank_at l.initial.nodes v;
      linked : (end : End) → LinkedBy (key end N.arcs) (length l.nodes) l.e (first_at end l.nodes) (next_at end l.next_out l.next_in);
    }
