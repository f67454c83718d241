-- Legal logs of a session. A log of all changes is this project's own: the standard has one agent that makes them at once.
use Rattle.std.specs.Prelude.{ℕ, ◌<◌, List, ◌∷◌, ◌++◌, None}
use Rattle.single_agent.specs.Names.{Session, Request, Entry, Lost}
use Rattle.single_agent.specs.Session.{starts_of}
use Rattle.coordinator_rules.specs.Decision.{rules_of, exchange}

-- the loss of a renderer
abbrev pub lost_entry : ℕ → Entry
lost_entry r = record { by = None; actor = None; what = Lost r }

-- a legal log begins with the start windows; then each exchange adds what the coordinator gives for it on the log before, and
-- each loss of a renderer its entry
pub data IsLegalLog (s : Session) : List Entry → Type 0 where
  Started : IsLegalLog s (starts_of s)
  Exchanged : (log : List Entry) (r : ℕ) (q : Request) → IsLegalLog s log → r < s.renderers → IsLegalLog s ((exchange (rules_of s) log r q).entries ++ log)
  Gave_up : (log : List Entry) (r : ℕ) → IsLegalLog s log → r < s.renderers → IsLegalLog s (lost_entry r ∷ log)
