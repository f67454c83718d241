-- A decision of the program, seen as one of the definitions: there the newest entry stands first.
use Rattle.std.specs.Prelude.{List, [], ◌∷◌}
use Rattle.coordinator_rules.specs.Decision.{Decision}
use Rattle.request_decisions.specs.declared.decisions.Decided.{Decided}
use Rattle.request_decisions.specs.declared.decisions.Made.{Made}
use Rattle.request_decisions.specs.declared.decisions.Made.TheVariants.{Nothing, One, Two}
use Rattle.tree_log.specs.declared.entry.Entry.{Entry}

abbrev pub entries_of : Made → List Entry
entries_of Nothing = []
entries_of (One entry) = entry ∷ []
entries_of (Two first second) = second ∷ first ∷ []

abbrev pub decision_of : Decided → Decision
decision_of d = record { entries = entries_of d.entries; outcome = d.outcome }
