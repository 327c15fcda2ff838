use Rattle.std.proofs.Common.{◌≡◌, ◌+◌, ◌<◌, length, get_or, sym, refl, ap, ◌∙◌, inl, arith}
use Rattle.queue.specs.Items.{items, slot_count}
use Rattle.std.proofs.lemmas.Bool.{both_ways}
use Rattle.search.specs.Ends.{end_of, other, usable_by}
use Rattle.search.specs.Entries.{first_at, next_at}
use Rattle.search.specs.Layouts.{laid}
use Rattle.search.specs.Links.{key}
use Rattle.search.specs.Visits.{level, count}
use Rattle.search.specs.declared.visit.Visit.{Visit}
use Rattle.search.proofs.Latest.{latest_last, link_to, link_linked}
use Rattle.search.proofs.Layouts.{laid_linked}
use Rattle.search.proofs.Turn.{key_within, level_within, reach_either, scan_start, scan_next}
use Rattle.search.proofs.flood.Residual.scan.Goals as goal
use Rattle.search.proofs.flood.Residual.scan.Goals.{then-may_cross, else-may_cross}

pub bounds-visits-node : goal.bounds-visits-node
bounds-visits-node c = level_within c.args.visits.now c.args.node (c.requires.so.visited c.args.node (inl refl))

pub loop-at-init : goal.loop-at-init
loop-at-init c =
    let m = c.args.self.now.map in
    let node = c.args.node in
    let within : node < length m.nodes.now = omega (arith, level_within c.args.visits.now node (c.requires.so.visited node (inl refl)), c.requires.so.tree.sized) in
    let at : link_to c.at-at.result ≡ first_at c.args.end m.nodes.now node = ap link_to c.at-at.ensures ∙ link_linked (first_at c.args.end m.nodes.now node) in
    (rw at (scan_start (laid m) c.args.self.now.loads.now c.args.end c.args.visits.now (items c.args.waiting.now) node (first_at c.args.end m.nodes.now) (next_at c.args.end m.next_out.now m.next_in.now) (laid_linked m c.args.end) c.args.visits.now (items c.args.waiting.now) c.requires.so within), refl)

pub loop-at-smaller : goal.loop-at-smaller
loop-at-smaller c =
    let m = c.args.self.now.map in
    let e = c.in-Some.e in
    let in' : e < length (laid m).arcs = omega (arith, c.loop-at.invariant.0.bound, ap link_to c.in-Some.is) in
    let at = key c.args.end (laid m).arcs in
    let next : link_to c.next-at.result ≡ next_at c.args.end m.next_out.now m.next_in.now e = ap link_to c.next-at.ensures ∙ link_linked (next_at c.args.end m.next_out.now m.next_in.now e) in
    omega (arith, next, (laid_linked m c.args.end).1 e in', (latest_last at (at e) e).bound, ap link_to c.in-Some.is)

pub loop-at-preserved : goal.loop-at-preserved
loop-at-preserved c =
    let m = c.args.self.now.map in
    let N = laid m in
    let loads = c.args.self.now.loads.now in
    let e = c.in-Some.e in
    let inv = c.loop-at.invariant in
    let is : link_to c.loop-at.at ≡ e + 1 = ap link_to c.in-Some.is in
    let in' : e < length N.arcs = omega (arith, inv.0.bound) in
    let here = inv.0.here e is in
    let may = c.may_cross.ensures ∙ ap (λ a. usable_by c.args.end a (get_or loads e 0)) c.arc-arc.ensures in
    let moved : link_to c.next-at.result ≡ next_at c.args.end m.next_out.now m.next_in.now e = ap link_to c.next-at.ensures ∙ link_linked (next_at c.args.end m.next_out.now m.next_in.now e) in
    let next = scan_next N loads c.args.end c.args.visits.now (items c.args.waiting.now) c.args.node (first_at c.args.end m.nodes.now) (next_at c.args.end m.next_out.now m.next_in.now) (laid_linked m c.args.end) c.loop-at.visits c.if-may_cross.visits (items c.loop-at.waiting) (items c.if-may_cross.waiting) (link_to c.loop-at.at) e inv.0 is in
    let old : level c.loop-at.visits c.args.node ≡ level c.args.visits.now c.args.node = inv.0.keeps c.args.node (c.requires.so.visited c.args.node (inl refl)) in
    rw moved
    (elim c.if-may_cross.branch [
      | then-may_cross w ↦
          let target : w.of-target.result ≡ key (other c.args.end) N.arcs e = w.of-target.ensures ∙ ap (λ x. end_of x c.arc-arc.result) w.other.ensures ∙ ap (end_of (other c.args.end)) c.arc-arc.ensures in
          let low = key_within (other c.args.end) N.nodes N.arcs e m.proper in' in
          let v : Visit = record { level = level c.args.visits.now c.args.node + 1; arc = e; side = c.args.end } in
          let v' : Visit = record { level = level c.loop-at.visits c.args.node + 1; arc = e; side = c.args.end } in
          let v_is : v ≡ v' = ap (λ l. let k : Visit = record { level = l + 1; arc = e; side = c.args.end } in k) (sym old) in
          let both = reach_either N loads c.loop-at.visits c.if-may_cross.visits (items c.loop-at.waiting) (items c.if-may_cross.waiting) c.args.node w.of-target.result e c.args.end v
          inv.0.so in' here (sym may ∙ w.if-may_cross.true) target (omega (arith, target, low, inv.0.so.tree.sized)) v_is
          (w.visits-is ∙ w.reach.ensures.visits) (ap items w.waiting-is ∙ w.reach.ensures.waiting) in
          (next both.0 both.1 both.3 (λ _. both.2), ap slot_count w.waiting-is ∙ w.reach.ensures.slots ∙ inv.1)
      | else-may_cross w ↦
          (next (rw (w.visits-is, w.waiting-is) inv.0.so) (λ v l. ap (λ ms. level ms v) w.visits-is) (omega (arith, ap count w.visits-is, ap (λ q. length (items q)) w.waiting-is)) (λ us. absurd (both_ways c.may_cross.result w.if-may_cross.false (may ∙ us))), ap slot_count w.waiting-is ∙ inv.1)
    ])
