-- Lists that keep to the limits make a proper network. (A proof that a ghost member holds stands in specs/.)
use Rattle.std.specs.Prelude.{ℕ, ◌<◌, List, length, None, Option, IsTrue, slice_index_or}
use Rattle.std.specs.List.{list_all}
use Rattle.std.proofs.ByRecursion.{All-from_get_or}
use Rattle.std.proofs.lemmas.List.{get_or_past}
use Rattle.std.proofs.lemmas.List.Sums.{AllPass-from_list_all}
use Rattle.std.proofs.lemmas.Bool.{and_parts, ltb-true, leb-true}
use Rattle.flow.specs.declared.Arc.{Arc}
use Rattle.flow.specs.Pushing.{no_arc}
use Rattle.network.specs.Limits.{joins, fits, low_rank, written, Makes}
use Rattle.network.specs.Proper.{ArcsProper, Proper}

arcs_proper : (n : ℕ) (es : List Arc) → IsTrue (list_all (joins n) es) → IsTrue (list_all fits es) → ArcsProper n es
arcs_proper n es ends caps e l =
    let a = slice_index_or es e no_arc in
    let both = and_parts _ _ (AllPass-from_list_all (joins n) es ends e no_arc l) in
    (ltb-true _ _ both.0, ltb-true _ _ both.1, leb-true _ _ (AllPass-from_list_all fits es caps e no_arc l))

pub written_proper : (source : ℕ) (arcs : List Arc) (ranks : List (Option ℕ)) → Makes source arcs ranks → Proper (written source arcs ranks)
written_proper source arcs ranks makes =
    let (nodes, few, within, bare, ends, caps, low) = makes in
    let at = arcs_proper (length ranks) arcs ends caps in
    record {
      sound = record {
        within = within;
        ends = All-from_get_or (λ a. (a.tail < length ranks) × (a.head < length ranks)) arcs no_arc (λ i l. ((at i l).0, (at i l).1));
        unranked = bare;
      };
      few_nodes = nodes;
      few_arcs = few;
      arcs = at;
      low = λ v l. AllPass-from_list_all low_rank ranks low v None l;
      past = λ v l. get_or_past ranks v None l;
    }
