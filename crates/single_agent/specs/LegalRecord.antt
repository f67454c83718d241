-- Legal records of a renderer against a log. The acts stand newest first. Records are this project's own: they say what
-- scripts observed.
use Rattle.std.specs.Prelude.{◌≡◌, ◌⊎◌, ℕ, ◌+◌, ◌≤◌, List, [], ◌∷◌, ◌++◌, length, filter, Bool, false, ◌==◌, ◌&&◌, ◌||◌, is_none, if◌then◌else◌}
use Rattle.std.specs.List.{list_any}
use Rattle.single_agent.specs.Names.{Session, Act, Entry, What, Lost}
use Rattle.tree_log.specs.Log.{prefix, is_by}
use Rattle.single_agent.specs.LegalLog.{lost_entry}
use Rattle.single_agent.specs.Lengths.{length_of, newest_length, has_stopped}
use Rattle.coordinator_rules.specs.Decision.{rules_of}
use Rattle.single_agent.specs.NextMove.{next_move, move_request}
use Rattle.single_agent.specs.NextAct.{IsActOn}
use Rattle.single_agent.specs.Heard.{heard_at, MayHear}
use Rattle.single_agent.specs.LostAct.{IsLostOn}

abbrev pub is_loss_of : ℕ → What → Bool
is_loss_of r (Lost x) = x == r
is_loss_of r _ = false

-- whether an entry is the loss of renderer r
abbrev pub is_loss : ℕ → Entry → Bool
is_loss r e = is_none e.by && is_loss_of r e.what

-- whether the log holds the loss of renderer r
unfoldable pub is_lost_on : ℕ → List Entry → Bool
is_lost_on r log = list_any (is_loss r) log

-- on the whole log as it stands, the next act is this one and makes these entries, but that where its reply was cut the renderer
-- may have heard more by the end of it
pub record IsMadeOn (s : Session) (r : ℕ) (log : List Entry) (older : List Act) (act : Act) (own : List Entry) : Type 0 where
  pub exact : Act
  pub is : IsActOn s r log older exact own
  pub same : act ≡ heard_at (length_of act) exact
  pub hears : MayHear (rules_of s) r log (newest_length older) (move_request (next_move s log older)) (length_of exact) (length_of act)

-- the act is the next one on some prefix of the log that holds all that the older acts had heard and no loss of the renderer, or
-- is lost there; its entries follow that prefix
pub record StandsIn (s : Session) (r : ℕ) (log : List Entry) (older : List Act) (act : Act) (own : List Entry) : Type 0 where
  pub before : ℕ
  pub later : newest_length older ≤ before
  pub not_lost : is_lost_on r (prefix before log) ≡ false
  pub made : IsMadeOn s r (prefix before log) older act own ⊎ IsLostOn s r (prefix before log) older act own
  pub within : before + length own ≤ length log
  pub follow : prefix (before + length own) log ≡ own ++ prefix before log
  pub never_falls : newest_length older ≤ length_of act
  pub no_longer : length_of act ≤ length log
  pub not_lost_then : is_lost_on r (prefix (length_of act) log) ≡ false

-- each act stands in the log, and together they made these entries
abbrev pub LegalActs : Session → ℕ → List Entry → List Act → List Entry → Type 0
LegalActs s r log [] mine = mine ≡ []
LegalActs s r log (act ∷ older) mine =
    (own : List Entry) × (rest : List Entry) × StandsIn s r log older act own × LegalActs s r log older rest × (mine ≡ own ++ rest)

-- the entries that renderer r made, and those of its loss
unfoldable pub about : ℕ → List Entry → List Entry
about r log = filter (λ (e : Entry). is_by r e || is_loss r e) log

-- once the newest act is lost, so is the renderer
abbrev pub and_lost : ℕ → List Act → List Entry → List Entry
and_lost r acts mine = if has_stopped acts then lost_entry r ∷ mine else mine

-- a legal record: each act is what the acts before it and the log allow; the log's entries of the renderer are those of its
-- acts, in order; and the log has one loss of the renderer after them where the newest act is lost, or else none
abbrev pub IsLegalRecord : Session → ℕ → List Entry → List Act → Type 0
IsLegalRecord s r log acts = (mine : List Entry) × LegalActs s r log acts mine × (about r log ≡ and_lost r acts mine)
