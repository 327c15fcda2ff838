use Rattle.std.proofs.Common.{◌≡◌, [], ◌∷◌, ◌++◌, refl, ap, ◌∙◌}
use Rattle.std.proofs.lemmas.Result.{IfOk-at_ok}
use Rattle.queue.specs.Items.{items}
use Rattle.search.specs.Layouts.{laid}
use Rattle.search.specs.declared.end.End.TheVariants.{Tail}
use Rattle.search.specs.declared.visit.Visit.{Visit}
use Rattle.search.proofs.Steps.{first_step, all_steps}
use Rattle.search.proofs.flood.Residual.explore.Goals as goal

pub flood-requires : goal.flood-requires
flood-requires c =
    let N = laid c.args.self.now.map in
    let made = c.new-waiting.ensures in
    let pushed = c.push.ensures in
    let queue : items c.push.new.self ≡ N.source ∷ [] = IfOk-at_ok (λ _. items c.push.new.self ≡ items c.new-waiting.result ++ (N.source ∷ [])) c.unwrap.ensures pushed.items ∙ ap (λ xs. xs ++ (N.source ∷ [])) made.items in
    let first : Visit = record { level = 1; arc = 0; side = Tail } in
    let start = first_step N c.args.self.now.loads.now c.clear.new.visits first (c.clear.auto.visits ∙ c.requires.visits) c.args.self.now.map.within c.clear.ensures refl in
    record { slots = pushed.capacity ∙ made.capacity ∙ c.requires.slots; so = rw queue start }

pub returns : goal.returns
returns c =
    record {
      reach = all_steps (laid c.args.self.now.map) c.args.self.now.loads.now c.flood.new.visits c.flood.ensures;
      tree = c.flood.ensures.tree;
      opened = c.flood.ensures.opened;
    }
