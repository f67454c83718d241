-- What frames can spell: entries and outcomes; and the logs that keep to it.
use Rattle.std.specs.Prelude.{◌≡◌, ◌<◌, ◌≤◌, ◌^◌, ℕ, List, Some, length}
use Rattle.std.specs.List.{AllByRecursion}
use Rattle.tree_log.specs.declared.entry.Entry.{Entry}
use Rattle.tree_log.specs.Admits.{AreAdmitted}
use Rattle.tree_log.specs.Tree.{tree_of, origin_of, domain_of}
use Rattle.agent_terms.specs.declared.request.ReplyOutcome.{ReplyOutcome}
use Rattle.coordinator_rules.specs.Decision.{Rules, is_address}
use Rattle.link_fields.specs.Origins.{host}
use Rattle.frame_grammar.specs.Entries.{entry}
use Rattle.frame_grammar.specs.Outcomes.{outcome_kind, outcome_row}

-- each entry is in range of frames
abbrev pub AreFit : List Entry → Type 0
AreFit log = AllByRecursion entry.Fits log

-- a domain that a document has set is a host in range, and an address where its origin's host is one
abbrev pub HasHostDomains : List Entry → Type 0
HasHostDomains log = (d : ℕ) (domain : List ℕ) → domain_of (tree_of log) d ≡ Some domain → (host (is_address (origin_of (tree_of log) d))).Fits domain

-- a log in range, to which a coordinator with these rules can append
pub record IsFitLog (rules : Rules) (log : List Entry) : Type 0 where
  pub admitted : AreAdmitted log
  pub fit : AreFit log
  pub domains : HasHostDomains log
  pub short : length log < 2 ^ 30
  -- it has a renderer, and few enough that each has a number in range
  pub some : 0 < rules.renderers
  pub few : rules.renderers ≤ 2 ^ 16

-- the outcome is in range of frames
abbrev pub IsFitOutcome : ReplyOutcome → Type 0
IsFitOutcome outcome = (outcome_row (outcome_kind outcome)).Fits outcome
