-- What contracts see of the tellings, and of a log with what was told of it.
use Rattle.std.specs.Prelude.{ℕ, suc, ◌+◌, ◌≡◌, ◌<◌, ◌≤◌, List, [], ◌∷◌, ◌++◌, length, get_or, Bool, true, false}
use Rattle.agent_terms.specs.Limits.{most_entries, most_renderers}
use Rattle.coordinator_rules.specs.Decision.{Rules}
use Rattle.exchange_laws.specs.Fit.{IsFitLog}
use Rattle.single_agent.specs.LegalRecord.{is_loss, is_lost_on}
use Rattle.tree_log.specs.Admits.{AreAdmitted}
use Rattle.tree_log.specs.Range.{AreInRange, HasAscendingKeys}
use Rattle.tree_log.specs.declared.entry.Entry.{Entry}
use Rattle.desk.specs.declared.item.Item.{Item}
use Rattle.desk.specs.declared.telling.Telling.{Telling}
use Rattle.desk.specs.History.{told_in, newest_at}

-- the tellings, newest first; for how many renderers; for how many more there is room
pub record TellingsValue : Type 0 where
  pub told : List Telling
  pub renderers : ℕ
  pub room : ℕ

-- the rules, the history, and for how many more entries and tellings there is room
pub record LedgerValue : Type 0 where
  pub rules : Rules
  pub history : List Item
  pub room : ℕ
  pub slots : ℕ

-- LOSSES

abbrev pub one_if : Bool → ℕ
one_if true = 1
one_if false = 0

abbrev pub count_true : List Bool → ℕ
count_true [] = 0
count_true (b ∷ bs) = one_if b + count_true bs

-- WHAT A LEDGER KEEPS

pub record IsKept (rules : Rules) (log : List Entry) (tellings : TellingsValue) (lost : List Bool) : Type 0 where
  pub some : 0 < rules.renderers
  pub not_many : rules.renderers ≤ most_renderers
  pub seats : tellings.renderers ≡ rules.renderers
  pub admitted : AreAdmitted log
  pub fit : IsFitLog rules log
  pub placed : newest_at tellings.told ≤ length log
  pub within : (r : ℕ) → told_in tellings.told r ≤ length log
  pub marks : length lost ≡ rules.renderers
  pub losses : (r : ℕ) → get_or lost r false ≡ is_lost_on r log
  pub few : length log ≤ most_entries + count_true lost

-- JOINING

-- an entry that a log takes: the keys of its data ascend, and no renderer is lost by it
pub record Joins (e : Entry) : Type 0 where
  pub keys : HasAscendingKeys e.what
  pub staying : (r : ℕ) → is_loss r e ≡ false

abbrev pub AllJoin : List Entry → Type 0
AllJoin [] = Unit {0}
AllJoin (e ∷ es) = Joins e × AllJoin es

-- there is room for them within the limit
abbrev pub HasRoomFor : List Entry → List Entry → Type 0
HasRoomFor [] log = Unit {0}
HasRoomFor (e ∷ es) log = suc (length es) + length log ≤ most_entries

-- entries, newest first, that may join a log
pub record MayJoin (es log : List Entry) : Type 0 where
  pub admitted : AreAdmitted (es ++ log)
  pub each : AllJoin es
  pub room : HasRoomFor es log

-- with these entries, newest first, the log stays in range of frames, so long as their origins and URLs are in range
pub record KeepsFit (rules : Rules) (es log : List Entry) : Type 0 where
  pub kept : IsFitLog rules log → AreInRange es → IsFitLog rules (es ++ log)
