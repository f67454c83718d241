-- A choice of the program, seen as one of the rules.
use Rattle.std.specs.Prelude.{◌<◌}
use Rattle.coordinator_rules.specs.Navigation as spec
use Rattle.nav_rules.specs.declared.choosing.Choice.{Choice}
use Rattle.nav_rules.specs.declared.choosing.Choice.TheVariants.{Existing, New, Nothing}
use Rattle.tree_log.specs.Tree.{Tree}

abbrev pub chosen : Choice → spec.Choice
chosen (Existing nav) = spec.Existing nav
chosen New = spec.New
chosen Nothing = spec.Nothing

-- the navigable that was chosen is there
abbrev pub IsThere : Tree → Choice → Type 0
IsThere t (Existing nav) = nav < t.navs
IsThere t New = Unit {0}
IsThere t Nothing = Unit {0}
