-- The smallest of the narrowest cuts is the smallest settled set.
use Rattle.std.proofs.Common.{ℕ, Bool, List, sym, ◌∙◌}
use Rattle.flow.specs.Network.{Network, Sound, Flow}
use Rattle.flow.specs.Theory.{Smallest}
use Rattle.flow.proofs.Duality.{settled}
use Rattle.flow.proofs.Existence.{greatest_bottleneck}
use Rattle.search.specs.Served.{NarrowestCut}

pub smallest : (N : Network) → Sound N → (k : ℕ) (f : List ℕ) (R : ℕ → Bool) → Flow N f → NarrowestCut N k f R → Smallest N k f R
smallest N sound k f R flow narrow =
    let b = greatest_bottleneck N sound k f flow narrow.greatest in (
      settled N sound k f R flow narrow.cut (sym narrow.tight),
      λ S set v l e. b.smallest.1 S set v l (narrow.inside b.set b.cut (sym b.tight ∙ narrow.tight) v l e),
    )
