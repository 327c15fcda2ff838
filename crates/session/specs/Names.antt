-- The names of yards as a list.
use Rattle.std.specs.Prelude.{ℕ, List, Option, map}
use Rattle.std.specs.Option.{option_copied}
use Rattle.session.specs.declared.names.Names.{Names}

abbrev pub names_of : Names → List (Option (List ℕ))
names_of ns = map option_copied ns.list
