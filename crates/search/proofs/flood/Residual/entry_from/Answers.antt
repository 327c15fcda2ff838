use Rattle.std.proofs.Common.{◌≡◌, ◌<◌, length, ap, ◌∙◌, arith}
use Rattle.search.specs.Ends.{other}
use Rattle.search.specs.Entries.{first_at, next_at}
use Rattle.search.specs.Layouts.{laid}
use Rattle.search.specs.Links.{key}
use Rattle.search.proofs.Entering.{next_start, next_on}
use Rattle.search.proofs.Latest.{latest_last, link_to, link_linked}
use Rattle.search.proofs.Layouts.{laid_linked}
use Rattle.search.proofs.Turn.{level_within}
use Rattle.search.proofs.flood.Residual.entry_from.Goals as goal

pub loop-at-init : goal.loop-at-init
loop-at-init c =
    let m = c.args.self.now.map in
    let node = c.args.node in
    let within : node < length m.nodes.now = omega (arith, level_within c.args.visits.now node c.requires.reached, c.requires.tree.sized) in
    let end = other c.args.end in
    let at : link_to c.at-at.result ≡ first_at end m.nodes.now node = ap link_to c.at-at.ensures ∙ link_linked _ ∙ ap (λ x. first_at x m.nodes.now node) c.other.ensures in
    rw at (next_start (laid m) end node (first_at end m.nodes.now) (next_at end m.next_out.now m.next_in.now) (laid_linked m end) within)

pub loop-at-preserved : goal.loop-at-preserved
loop-at-preserved c =
    let m = c.args.self.now.map in
    let e = c.in-Some.e in
    let end = other c.args.end in
    let next : link_to c.next-at.result ≡ next_at end m.next_out.now m.next_in.now e = ap link_to c.next-at.ensures ∙ link_linked _ ∙ ap (λ x. next_at x m.next_out.now m.next_in.now e) c.other-in-Some.ensures in
    rw next (next_on (laid m) end c.args.node (first_at end m.nodes.now) (next_at end m.next_out.now m.next_in.now) (laid_linked m end) (link_to c.loop-at.at) e c.loop-at.invariant (ap link_to c.in-Some.is))

pub loop-at-smaller : goal.loop-at-smaller
loop-at-smaller c =
    let m = c.args.self.now.map in
    let e = c.in-Some.e in
    let end = other c.args.end in
    let in' : e < length (laid m).arcs = omega (arith, c.loop-at.invariant.bound, ap link_to c.in-Some.is) in
    let at = key end (laid m).arcs in
    let next : link_to c.next-at.result ≡ next_at end m.next_out.now m.next_in.now e = ap link_to c.next-at.ensures ∙ link_linked _ ∙ ap (λ x. next_at x m.next_out.now m.next_in.now e) c.other-in-Some.ensures in
    omega (arith, next, (laid_linked m end).1 e in', (latest_last at (at e) e).bound, ap link_to c.in-Some.is)
