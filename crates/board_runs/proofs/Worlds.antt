-- Calls make one world, since rules leave no choice.
use Rattle.std.proofs.Common.{[], ◌∷◌, Option, refl, subst}
use Rattle.refusals.specs.declared.Refusal.{Refusal}
use Rattle.refusals.proofs.Decided.{decides_one}
use Rattle.board_runs.specs.Laws.{Makes, OneWorld}
use Rattle.board_runs.specs.Steps.{after, rules_of}

pub one_world : OneWorld
one_world w u v [] Makes.nothing Makes.nothing = refl
one_world w u v (c ∷ cs) (Makes.then o d p) (Makes.then o' d' q) =
    one_world (after w c o) u v cs p (subst (λ (x : Option Refusal). Makes (after w c x) cs v) (decides_one (rules_of w c) o' o d' d) q)
