-- The example, by computing.
use Rattle.std.proofs.Common.{refl}
use Rattle.flow.specs.Example.{example, served, cuts, ExampleServed}
use Rattle.flow.proofs.Checked.{certified_most, certified_first}

pub example_served : ExampleServed
example_served = record {
  first = certified_most example 1 served (cuts 1) refl;
  second = certified_most example 2 served (cuts 2) refl;
  all = certified_most example 3 served (cuts 3) refl;
  in_order = certified_first example 3 served cuts refl;
  shares = (refl, refl, refl);
}
