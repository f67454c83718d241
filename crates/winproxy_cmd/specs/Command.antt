-- What a command answers, and what it prints.
use Rattle.std.specs.Prelude.{◌≡◌, ◌⊎◌, ℕ, zero, suc, ◌<◌, ◌≤◌, List, [], ◌∷◌, length, Option, Some, None, IsSome, bytes_eq, if◌then◌else◌, codes, string_bytes, IfSome, Ok, Err}
use Rattle.std.specs.Io.KnownBytes.{Appends}
use Rattle.ports.specs.Causes.{Rose}
use Rattle.origin_core.specs.Flags.{◌◊◌}
use Rattle.trace_text.specs.LogText.{log_words}
use Rattle.agent_terms.specs.declared.session.Session.{Session}
use Rattle.agent_terms.specs.declared.act.Ending.{Ending}
use Rattle.agent_terms.specs.declared.act.Ending.TheVariants as ending
use Rattle.single_agent.specs.LegalLog.{IsLegalLog}
use Rattle.single_agent.specs.LegalRecord.{IsLegalRecord}
use Rattle.single_agent.specs.Turns.{Turned, log_of, record_of, ArePlayed, EndsBy}
use Rattle.trace_text.specs.RecordText.{record_words}
use Rattle.session_reading.specs.declared.error.SessionError.{SessionError}
use Rattle.session_reading.specs.PathText.{refusal_words}
use Rattle.session_text.specs.Session.{session_of}
use Rattle.session_text.specs.Range.{IsInRange}
use Rattle.session_text.specs.Summary.{summary_words}
use Rattle.trace_text.specs.declared.status.Status.{Status}
use Rattle.trace_text.specs.declared.status.Status.TheVariants as status
use Rattle.trace_text.specs.StatusText.{status_words}
use Rattle.winproxy_cmd.specs.declared.forms.Form.{Form}
use Rattle.winproxy_cmd.specs.declared.forms.Form.TheVariants as form
use Rattle.winproxy_cmd.specs.declared.forms.Input.{Input}
use Rattle.winproxy_cmd.specs.declared.forms.Input.TheVariants as input

-- WORDS AND INPUTS

abbrev pub IsPlayWord : List (List ℕ) → Type 0
IsPlayWord words = words ≡ codes "play" ∷ []

-- the form that a word names
unfoldable pub form_named : List ℕ → Option Form
form_named word = if bytes_eq word (codes "play") then Some form.Play else if bytes_eq word (codes "check") then Some form.Check else None

-- the form that the words ask for: that of the one word that they are
abbrev pub form_of : List (List ℕ) → Option Form
form_of (word ∷ []) = form_named word
form_of _ = None

-- how many bytes an input has at most: 8 MiB
abbrev pub most_bytes : ℕ
most_bytes = 8388608

-- the input is a session
abbrev pub IsSessionText : List ℕ → Session → Type 0
IsSessionText bytes session = (length bytes ≤ most_bytes) × (session_of bytes ≡ Ok session)

-- the input is refused, and this line says why
abbrev pub IsRefusedWith : List ℕ → List ℕ → Type 0
IsRefusedWith bytes text =
    ((most_bytes < length bytes) × (text ≡ codes "refused TooLarge\n"))
    ⊎ ((length bytes ≤ most_bytes) × (e : SessionError) × (session_of bytes ≡ Err e) × (text ≡ refusal_words e))

abbrev pub IsRefused : List ℕ → Type 0
IsRefused bytes = (text : List ℕ) × IsRefusedWith bytes text

-- what the bytes of a source are, told by its count of faults before and after
abbrev pub IsInput : Option (List ℕ) → ℕ → ℕ → Input → Type 0
IsInput bytes before now (input.Session session) = IfSome bytes (λ b. IsSessionText b session) × IsInRange session
IsInput bytes before now (input.Refused text) = IfSome bytes (λ b. IsRefusedWith b (string_bytes text))
IsInput bytes before now input.Unread = Rose before now

-- a session was read
abbrev pub HasSession : Input → Type 0
HasSession (input.Session session) = Unit {0}
HasSession _ = ⊥

-- KINDS OF STATUSES

-- the status of a run
abbrev pub IsRun : Status → Type 0
IsRun status.Done = Unit {0}
IsRun (status.LogFull n) = Unit {0}
IsRun (status.ActsFull r) = Unit {0}
IsRun _ = ⊥

abbrev pub IsRunOrMemory : Status → Type 0
IsRunOrMemory status.Memory = Unit {0}
IsRunOrMemory st = IsRun st

abbrev pub IsDoneOrMemory : Status → Type 0
IsDoneOrMemory status.Done = Unit {0}
IsDoneOrMemory status.Memory = Unit {0}
IsDoneOrMemory _ = ⊥

abbrev pub IsRefusalOrMemory : Status → Type 0
IsRefusalOrMemory status.Session = Unit {0}
IsRefusalOrMemory status.Memory = Unit {0}
IsRefusalOrMemory _ = ⊥

-- the form that has the status of a run: a limit is met in a play alone
abbrev pub IsAskedBy : Option Form → Status → Type 0
IsAskedBy asked status.Done = IsSome asked
IsAskedBy asked (status.LogFull n) = asked ≡ Some form.Play
IsAskedBy asked (status.ActsFull r) = asked ≡ Some form.Play
IsAskedBy asked _ = Unit {0}

-- TEXTS

abbrev pub usage_words : List ℕ
usage_words = codes "usage: winproxy play, race, alike, check or gen N\n"

-- the records of so many renderers, from number r on
abbrev pub records_words : List Turned → ℕ → ℕ → List ℕ
records_words turns r zero = []
records_words turns r (suc count) = record_words r (record_of r turns) ◊ records_words turns (suc r) count

-- what a run prints: its log, the record of each renderer, and its status
unfoldable pub run_words : Session → List Turned → Status → List ℕ
run_words s turns st = log_words (log_of s turns) ◊ records_words turns 0 s.renderers ◊ status_words st

-- RUNS

-- the status of a play that ended so, with a log of this length
abbrev pub status_of : Ending → ℕ → Status
status_of ending.Done entries = status.Done
status_of ending.LogFull entries = status.LogFull entries
status_of (ending.ActsFull r) entries = status.ActsFull r

-- the turns end as the status says
pub record EndsAs (s : Session) (turns : List Turned) (st : Status) : Type 0 where
  pub how : Ending
  pub is : EndsBy s turns how
  pub said : st ≡ status_of how (length (log_of s turns))

-- A run of the session: its turns, each of which does what the single agent allows on the log before it. They make a legal
-- log, and for each renderer a legal record against that log; the run ends as its status says; and the text is that of
-- the log, of the records and of the status.
pub record IsRunOf (s : Session) (st : Status) (text : List ℕ) : Type 0 where
  pub turns : List Turned
  pub played : ArePlayed s turns
  pub legal_log : IsLegalLog s (log_of s turns)
  pub legal_records : (r : ℕ) → IsLegalRecord s r (log_of s turns) (record_of r turns)
  pub ends : EndsAs s turns st
  pub words : text ≡ run_words s turns st

-- a run of the session that the input is
abbrev pub IsLegalRun : Option (List ℕ) → Status → List ℕ → Type 0
IsLegalRun input st text = (session : Session) × IfSome input (λ bytes. IsSessionText bytes session) × IsRunOf session st text

-- What the sink took is the text of a run of the session that the input is.
abbrev pub PrintsLegalRun : Option (List ℕ) → Status → Option (List ℕ) → Option (List ℕ) → Type 0
PrintsLegalRun input st before after = (text : List ℕ) × IsLegalRun input st text × Appends before after text

-- SUMMARIES

-- the line on the session that the input is, and the status
abbrev pub IsSummary : Option (List ℕ) → List ℕ → Type 0
IsSummary input text =
    (session : Session) × IfSome input (λ bytes. IsSessionText bytes session) × (text ≡ summary_words session ◊ status_words status.Done)

-- What the sink took is the line on the session that the input is, and the status.
abbrev pub PrintsSummary : Option (List ℕ) → Option (List ℕ) → Option (List ℕ) → Type 0
PrintsSummary input before after = (text : List ℕ) × IsSummary input text × Appends before after text

-- ANSWERS

-- the answer to an input that is no session
abbrev pub IsRefusal : Option (List ℕ) → List ℕ → Type 0
IsRefusal input text =
    (refusal : List ℕ) × IfSome input (λ bytes. IsRefusedWith bytes refusal) × (text ≡ refusal ◊ status_words status.Session)

-- what a play answers before anything is written, and why
abbrev pub PlayAnswers : Option (List ℕ) → ℕ → ℕ → Status → List ℕ → Type 0
PlayAnswers input before now status.Done text = IsLegalRun input status.Done text
PlayAnswers input before now (status.LogFull n) text = IsLegalRun input (status.LogFull n) text
PlayAnswers input before now (status.ActsFull r) text = IsLegalRun input (status.ActsFull r) text
PlayAnswers input before now status.Session text = IsRefusal input text
PlayAnswers input before now status.Read text = Rose before now × (text ≡ status_words status.Read)
PlayAnswers input before now _ text = ⊥

-- what a check answers before anything is written, and why
abbrev pub CheckAnswers : Option (List ℕ) → ℕ → ℕ → Status → List ℕ → Type 0
CheckAnswers input before now status.Done text = IsSummary input text
CheckAnswers input before now status.Session text = IsRefusal input text
CheckAnswers input before now status.Read text = Rose before now × (text ≡ status_words status.Read)
CheckAnswers input before now _ text = ⊥

-- what a command of that form answers before anything is written, and why; nothing is asked for but the forms
abbrev pub CommandAnswers : Option Form → Option (List ℕ) → ℕ → ℕ → Status → List ℕ → Type 0
CommandAnswers (Some form.Play) input before now st text = PlayAnswers input before now st text
CommandAnswers (Some form.Check) input before now st text = CheckAnswers input before now st text
CommandAnswers None input before now status.Usage text = text ≡ usage_words ◊ status_words status.Usage
CommandAnswers None input before now _ text = ⊥
