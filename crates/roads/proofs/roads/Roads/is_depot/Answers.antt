use Rattle.std.proofs.Common.{ap, ◌∙◌, vec_items, List, ℕ, ◌==◌}
use Rattle.std.specs.List.{list_any}
use Rattle.roads.proofs.Growing.{any_is_some}
use Rattle.roads.proofs.roads.Roads.is_depot.Goals as goal

pub returns : goal.returns
returns c =
    c.contains.ensures.value ∙ ap (λ (depots : List ℕ). list_any (λ depot. depot == c.args.yard) depots) c.deref.ensures.value
    ∙ any_is_some c.args.yard (vec_items c.args.self.now.depots)
