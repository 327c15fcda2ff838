use Rattle.std.proofs.Common.{◌+◌, length, replicate, sym, ap, ◌∙◌, subst, arith}
use Rattle.flow.specs.Network.{Network}
use Rattle.search.specs.Layouts.{copy_of}
use Rattle.search.specs.Served.{Standing}
use Rattle.search.proofs.Layouts.{copy_is}
use Rattle.search.proofs.Phases.{standing_start, served_all}
use Rattle.search.proofs.serving.serve_exactly.Goals as goal

pub serve_ranks-requires-clause-start : goal.serve_ranks-requires-clause-start
serve_ranks-requires-clause-start g c =
    standing_start _ c.fill.new.self c.fill-2.new.self c.args.figures.now (length c.args.marks.now)
    (c.fill.ensures.after (λ y e. e) ∙ ap (λ n. replicate n 0) (c.requires.loads ∙ sym (ap length c.copy_arcs.ensures.arcs)))
    (c.fill-2.ensures.after (λ y e. e))

pub returns : goal.returns
returns g c =
    let N = g.N.Network.meaning c.args.net.now in
    let proper = g.N.Network.proper c.args.net.now in
    let arcs = c.copy_arcs.new.arcs in
    let nodes = c.copy_arcs.new.nodes in
    let same = copy_is N c.source.result arcs nodes c.source.ensures c.copy_arcs.ensures.arcs (omega (arith, c.copy_arcs.auto.nodes, c.copy_nodes.auto.nodes, c.requires.work.nodes)) (λ v. c.copy_arcs.ensures.ranks v ∙ c.copy_nodes.ensures.ranks v) in
    let standing : Standing (copy_of c.source.result arcs nodes) (c.args.ranks + 1) c.serve_ranks.new.loads c.serve_ranks.new.marks c.serve_ranks.new.figures = c.serve_ranks.ensures in
    served_all N proper.sound c.args.ranks c.serve_ranks.new.loads c.serve_ranks.new.marks c.serve_ranks.new.figures
    (subst (λ (M : Network). Standing M (c.args.ranks + 1) c.serve_ranks.new.loads c.serve_ranks.new.marks c.serve_ranks.new.figures) same standing)
