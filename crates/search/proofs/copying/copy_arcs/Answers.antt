use Rattle.std.proofs.Common.{◌≡◌, ℕ, ◌+◌, ◌<◌, length, get_or, set, sym, refl, ap, ◌∙◌, subst, arith, below_more}
use Rattle.std.proofs.lemmas.List.{get_or-set_same, get_or-set_other, get_or_default, same_lists}
use Rattle.flow.specs.Pushing.{no_arc}
use Rattle.search.specs.Ends.{end_of}
use Rattle.search.specs.Entries.{no_node_entry, first_at, next_at}
use Rattle.search.specs.Links.{LinkedBy, key}
use Rattle.search.proofs.Linking.{links_of, linked_at, relinked_at, same_ranks, link_arc}
use Rattle.search.specs.declared.end.End.TheVariants.{Tail, Head}
use Rattle.search.specs.declared.entry.Links.{Links}
use Rattle.search.specs.declared.entry.NodeEntry.{NodeEntry}
use Rattle.search.proofs.copying.copy_arcs.Goals as goal

pub loop-e-preserved : goal.loop-e-preserved
loop-e-preserved g c =
    let N = g.N.Network.meaning c.args.net.now in
    let a = c.arc-arc.result in
    let e = c.loop-e.e in
    let nodes = c.loop-e.nodes in
    let so = c.loop-e.invariant in
    let out = c.relink in
    let back = c.relink-in-loop-e in
    let one : NodeEntry = record { rank = (get_or nodes a.tail no_node_entry).rank; first = out.new.self } in
    let between : set nodes a.tail one ≡ relinked_at Tail nodes a.tail (e + 1) = ap (λ x. let y : NodeEntry = record { rank = (get_or nodes a.tail no_node_entry).rank; first = x } in set nodes a.tail y) out.ensures.has in
    let two : NodeEntry = record { rank = (get_or (set nodes a.tail one) a.head no_node_entry).rank; first = back.new.self } in
    let after : set (set nodes a.tail one) a.head two ≡ linked_at nodes a (e + 1) = ap (λ x. let y : NodeEntry = record { rank = (get_or (set nodes a.tail one) a.head no_node_entry).rank; first = x } in set (set nodes a.tail one) a.head y) back.ensures.has ∙ ap (λ ns. relinked_at Head ns a.head (e + 1)) between in
    let next_in : back.result ≡ first_at Head (relinked_at Tail nodes a.tail (e + 1)) a.head = back.ensures.had ∙ ap (λ ns. first_at Head ns a.head) between in
    let links : ◌≡◌ {A = Links} (record { out = out.result; back = back.result }) (links_of nodes a (e + 1)) = λ i. record { out = out.ensures.had i; back = next_in i } in
    let low = (g.N.Network.proper c.args.net.now).arcs e (omega (arith, c.requires.arcs)) in
    let tail : a.tail < length nodes = omega (arith, ap (λ x. x.tail) c.arc-arc.ensures, low.0, c.requires.nodes) in
    let head : a.head < length nodes = omega (arith, ap (λ x. x.head) c.arc-arc.ensures, low.1, c.requires.nodes) in
    let P : ℕ → Type 0 = λ k. get_or (set c.loop-e.arcs e a) k no_arc ≡ get_or N.arcs k no_arc in
    rw (after, ap (λ x. x.out) links, ap (λ x. x.back) links)
    (record {
      copied = below_more P e
          (λ k h. get_or-set_other c.loop-e.arcs e k a no_arc (λ q. omega arith) ∙ so.copied k h)
          (get_or-set_same c.loop-e.arcs e a no_arc (omega arith) ∙ c.arc-arc.ensures);
      ranks = λ v. same_ranks nodes a (e + 1) tail head v ∙ so.ranks v;
      linked = λ end. link_arc nodes a (e + 1) tail head end (key end N.arcs) c.loop-e.next_out c.loop-e.next_in e refl (ap (end_of end) (sym c.arc-arc.ensures)) (omega (arith, c.requires.arcs, c.requires.next_out)) (omega (arith, c.requires.arcs, c.requires.next_in)) (so.linked end);
    })

pub returns-clause-arcs : goal.returns-clause-arcs
returns-clause-arcs g c =
    let N = g.N.Network.meaning c.args.net.now in
    same_lists c.loop-e.arcs N.arcs (omega (arith, c.requires.arcs))
    (λ k d l. get_or_default c.loop-e.arcs k d no_arc l ∙ c.loop-e.invariant.copied k (omega arith) ∙ get_or_default N.arcs k no_arc d (omega (arith, c.requires.arcs)))

pub returns-clause-linked : goal.returns-clause-linked
returns-clause-linked g c end =
    let N = g.N.Network.meaning c.args.net.now in
    let all : c.loop-e.e ≡ length N.arcs = omega (arith, c.requires.arcs) in
    let same : c.loop-e.arcs ≡ N.arcs = returns-clause-arcs g c in
    rw same
    (subst (λ (n : ℕ). LinkedBy (key end N.arcs) (length c.loop-e.nodes) n (first_at end c.loop-e.nodes) (next_at end c.loop-e.next_out c.loop-e.next_in)) all (c.loop-e.invariant.linked end))
