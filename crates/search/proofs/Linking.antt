-- One arc more is linked at both of its ends.
use Rattle.std.proofs.Common.{◌≡◌, ℕ, ◌+◌, ◌<◌, ◌≢◌, List, length, get_or, set, sym, refl, ap, ◌∙◌, ⊎_elim, arith}
use Rattle.std.proofs.lemmas.List.{get_or-set_same, get_or-set_other, length-set}
use Rattle.std.proofs.lemmas.Bool.{cases_eq}
use Rattle.flow.specs.declared.Arc.{Arc}
use Rattle.search.specs.Ends.{end_of, other}
use Rattle.search.specs.Entries.{no_node_entry, link_at, links_at, first_at, next_at, rank_at, relinked}
use Rattle.search.specs.Links.{LinkedBy}
use Rattle.search.specs.declared.end.End.{End}
use Rattle.search.specs.declared.end.End.TheVariants.{Tail, Head}
use Rattle.search.specs.declared.entry.Links.{Links}
use Rattle.search.specs.declared.entry.NodeEntry.{NodeEntry}
use Rattle.search.proofs.Latest.{linked_more}

-- an entry linked anew
abbrev pub relinked_entry : End → NodeEntry → ℕ → NodeEntry
relinked_entry end x link = record { rank = x.rank; first = relinked end x.first link }

-- the entries with that of v linked anew
abbrev pub relinked_at : End → List NodeEntry → ℕ → ℕ → List NodeEntry
relinked_at end nodes v link = set nodes v (relinked_entry end (get_or nodes v no_node_entry) link)

module _ (nodes : List NodeEntry) (v link : ℕ) (within : v < length nodes) where
  here : (end : End) → get_or (relinked_at end nodes v link) v no_node_entry ≡ relinked_entry end (get_or nodes v no_node_entry) link
  here end = get_or-set_same nodes v (relinked_entry end (get_or nodes v no_node_entry) link) no_node_entry within

  elsewhere : (end : End) (w : ℕ) → w ≢ v → get_or (relinked_at end nodes v link) w no_node_entry ≡ get_or nodes w no_node_entry
  elsewhere end w d = get_or-set_other nodes v w (relinked_entry end (get_or nodes v no_node_entry) link) no_node_entry d

  link_there : (end : End) → first_at end (relinked_at end nodes v link) v ≡ link
  link_there Tail = ap (λ x. x.first.out) (here Tail)
  link_there Head = ap (λ x. x.first.back) (here Head)

  other_links : (end : End) (w : ℕ) → w ≢ v → first_at end (relinked_at end nodes v link) w ≡ first_at end nodes w
  other_links end w d = ap (λ x. link_at end x.first) (elsewhere end w d)

  across : (end : End) (w : ℕ) → first_at (other end) (relinked_at end nodes v link) w ≡ first_at (other end) nodes w
  across end w = ⊎_elim (λ e. rw e (at_v end)) (λ d. ap (λ x. link_at (other end) x.first) (elsewhere end w d)) (cases_eq w v)
    where
      at_v : (end : End) → first_at (other end) (relinked_at end nodes v link) v ≡ first_at (other end) nodes v
      at_v Tail = ap (λ x. x.first.back) (here Tail)
      at_v Head = ap (λ x. x.first.out) (here Head)

  pub same_rank : (end : End) (w : ℕ) → rank_at (relinked_at end nodes v link) w ≡ rank_at nodes w
  same_rank end w = ⊎_elim (λ e. rw e (at_v end)) (λ d. ap (λ x. x.rank) (elsewhere end w d)) (cases_eq w v)
    where
      at_v : (end : End) → rank_at (relinked_at end nodes v link) v ≡ rank_at nodes v
      at_v Tail = ap (λ x. x.rank) (here Tail)
      at_v Head = ap (λ x. x.rank) (here Head)

-- the entries of the nodes once an arc is linked at both of its ends
abbrev pub linked_at : List NodeEntry → Arc → ℕ → List NodeEntry
linked_at nodes a link = relinked_at Head (relinked_at Tail nodes a.tail link) a.head link

-- and the links of that arc
abbrev pub links_of : List NodeEntry → Arc → ℕ → Links
links_of nodes a link = record { out = first_at Tail nodes a.tail; back = first_at Head (relinked_at Tail nodes a.tail link) a.head }

-- the links of an arc, once they are written
module _ (next_out next_in : List ℕ) (e : ℕ) (x : Links) where
  links_here : e < length next_out → e < length next_in → links_at (set next_out e x.out) (set next_in e x.back) e ≡ x
  links_here o i = λ j. record { out = get_or-set_same next_out e x.out 0 o j; back = get_or-set_same next_in e x.back 0 i j }

  links_elsewhere : (k : ℕ) → k ≢ e → links_at (set next_out e x.out) (set next_in e x.back) k ≡ links_at next_out next_in k
  links_elsewhere k d = λ j. record { out = get_or-set_other next_out e k x.out 0 d j; back = get_or-set_other next_in e k x.back 0 d j }

module _ (nodes : List NodeEntry) (a : Arc) (link : ℕ) (tail : a.tail < length nodes) (head : a.head < length nodes) where
  abbrev between : List NodeEntry
  between = relinked_at Tail nodes a.tail link

  long : a.head < length between
  long = rw (length-set nodes a.tail (relinked_entry Tail (get_or nodes a.tail no_node_entry) link)) head

  pub same_ranks : (v : ℕ) → rank_at (linked_at nodes a link) v ≡ rank_at nodes v
  same_ranks v = same_rank between a.head link long Head v ∙ same_rank nodes a.tail link tail Tail v

  new_first : (end : End) → first_at end (linked_at nodes a link) (end_of end a) ≡ link
  new_first Tail = across between a.head link long Head a.tail ∙ link_there nodes a.tail link tail Tail
  new_first Head = link_there between a.head link long Head

  old_first : (end : End) (v : ℕ) → v ≢ end_of end a → first_at end (linked_at nodes a link) v ≡ first_at end nodes v
  old_first Tail v d = across between a.head link long Head v ∙ other_links nodes a.tail link tail Tail v d
  old_first Head v d = other_links between a.head link long Head v d ∙ across nodes a.tail link tail Tail v

  new_next : (end : End) → link_at end (links_of nodes a link) ≡ first_at end nodes (end_of end a)
  new_next Tail = refl
  new_next Head = across nodes a.tail link tail Tail a.head

  within_nodes : (end : End) → end_of end a < length nodes
  within_nodes Tail = tail
  within_nodes Head = head

  pub link_arc : (end : End) (at : ℕ → ℕ) (next_out next_in : List ℕ) (e : ℕ) → link ≡ e + 1 → at e ≡ end_of end a → e < length next_out → e < length next_in
      → LinkedBy at (length nodes) e (first_at end nodes) (next_at end next_out next_in)
      → LinkedBy at (length (linked_at nodes a link)) (e + 1) (first_at end (linked_at nodes a link)) (next_at end (set next_out e (links_of nodes a link).out) (set next_in e (links_of nodes a link).back))
  link_arc end at next_out next_in e is there in-out in-in so =
      let size : length (linked_at nodes a link) ≡ length nodes = length-set between a.head _ ∙ length-set nodes a.tail _ in
      rw size
      (linked_more at (length nodes) e (first_at end nodes) (next_at end next_out next_in) (first_at end (linked_at nodes a link)) (next_at end (set next_out e (links_of nodes a link).out) (set next_in e (links_of nodes a link).back)) so
      (rw there (within_nodes end))
      (ap (first_at end (linked_at nodes a link)) there ∙ new_first end ∙ is)
      (λ v d. old_first end v (λ q. d (q ∙ sym there)))
      (ap (link_at end) (links_here next_out next_in e (links_of nodes a link) in-out in-in) ∙ new_next end ∙ ap (first_at end nodes) (sym there))
      (λ k l. ap (link_at end) (links_elsewhere next_out next_in e (links_of nodes a link) k (λ q. omega arith))))
