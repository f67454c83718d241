-- The bytes of a frame that is being written: there are zeros for the length, for `more` and for the count.
use Rattle.std.specs.Prelude.{ℕ, List, ◌∷◌, ◌++◌, false}
use Rattle.std.specs.List.{flat_map}
use Rattle.tree_log.specs.declared.entry.Entry.{Entry}
use Rattle.agent_terms.specs.declared.request.ReplyOutcome.{ReplyOutcome}
use Rattle.link_fields.specs.Basic.{u32, truth}
use Rattle.frame_grammar.specs.Entries.{entry}
use Rattle.frame_grammar.specs.Outcomes.{outcome_kind, outcome_body}
use Rattle.link_wire.specs.Frames.{version}

-- version, kind, no length yet, the outcome's fields and the place of the first entry
abbrev pub head : ReplyOutcome → ℕ → List ℕ
head outcome from = version ∷ outcome_kind outcome ∷ u32.spell 0 ++ (outcome_body outcome ++ u32.spell from)

-- neither `more` nor a count yet
abbrev pub cleared : List ℕ
cleared = truth.spell false ++ u32.spell 0

abbrev pub frame_so_far : ReplyOutcome → ℕ → List Entry → List ℕ
frame_so_far outcome from news = (head outcome from ++ cleared) ++ flat_map entry.spell news
