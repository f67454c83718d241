-- The entries of every exchange can follow the log.
use Rattle.std.proofs.Common.{◌≡◌, ℕ, ◌+◌, ◌<◌, ◌≤◌, ◌^◌, List, [], ◌∷◌, ◌++◌, length, Option, Some, None, Bool, true, false, refl, sym, subst, ◌∙◌, arith, inl, inr}
use Rattle.std.specs.Prelude.{◌⊎◌, ◌&&◌, ◌==◌, not, if◌then◌else◌}
use Rattle.std.specs.Option.{option_or}
use Rattle.tree_log.specs.declared.entry.Entry.{Entry}
use Rattle.tree_log.specs.declared.entry.Load.{Load}
use Rattle.tree_log.specs.declared.entry.Target.{Target}
use Rattle.tree_log.specs.declared.entry.Cause.{Cause}
use Rattle.tree_log.specs.declared.entry.Cause.TheVariants as causes
use Rattle.tree_log.specs.declared.entry.What.{What}
use Rattle.tree_log.specs.declared.entry.What.TheVariants.{Open, Frame, Begin, Commit, Post, Fire, Lapse, Closing, Gone, Lost}
use Rattle.tree_log.specs.Tree.{Tree, tree_of, home_of, origin_of, is_active, is_discarded}
use Rattle.tree_log.specs.Admits.{admits, AreAdmitted}
use Rattle.tree_log.proofs.Admitted.{few_of}
use Rattle.agent_terms.specs.declared.request.Request.{Request}
use Rattle.agent_terms.specs.declared.request.Request.TheVariants as ask
use Rattle.agent_terms.specs.declared.session.Session.{Session}
use Rattle.single_agent.specs.Session.{starts_of, started, start_entry}
use Rattle.coordinator_rules.specs.NextTask.{load_waits, load_task, is_for, delivery, is_over, task_of, first_task, next_task, task_entry}
use Rattle.single_agent.proofs.Admitted.{task_admitted, start_admitted, started_admitted}
use Rattle.single_agent.specs.LegalLog.{lost_entry, IsLegalLog, Started, Exchanged, Gave_up}
use Rattle.coordinator_rules.specs.Decision.{Rules, rules_of, Decision, exchange, asker_of, task_decision}
use Rattle.agent_laws.specs.Actors.{has_no_asker}
use Rattle.agent_laws.proofs.Logs.Exchanges.{without_asker, decided_or_none}
use Rattle.agent_laws.proofs.Groups.Well.{admitted_well}
use Rattle.agent_laws.proofs.Logs.Steps.{is_maker, IsFit, Quietly, Starts, AreSteps, Steps, lt_true, asking_of, decide-steps}

-- TASKS

pub either_is : (a b : Option What) (what : What) → option_or a b ≡ Some what → (a ≡ Some what) ⊎ (b ≡ Some what)
either_is (Some w) b what h = inl h
either_is None b what h = inr h

-- something that waits where a test passes
pub tested_is : (b : Bool) (w what : What) → (if b then Some w else None) ≡ Some what → (b ≡ true) × (w ≡ what)
tested_is false w what h = absurd cc
tested_is true w what h = (refl, cc)

-- what a task does
pub data IsTask : What → Type 0 where
  Commits : (nav doc begin : ℕ) → IsTask (Commit nav doc begin)
  Fires : (doc post : ℕ) → IsTask (Fire doc post)
  Lapses : (doc post : ℕ) (cause : Cause) → IsTask (Lapse doc post cause)
  Closes : (nav : ℕ) → IsTask (Gone nav)

load_task_is : (t : Tree) (r place nav : ℕ) (load : Option Load) (what : What) → load_task t r place nav load ≡ Some what → IsTask what
load_task_is t r place nav None what h = absurd cc
load_task_is t r place nav (Some load) what h = subst IsTask (tested_is (load_waits t r nav load) (Commit nav load.doc place) what h).1 (Commits nav load.doc place)

pub delivery_is : (t : Tree) (place to : ℕ) (target : Target) → IsTask (delivery t place to target)
delivery_is t place to target = by_tests (not (is_active t to)) (is_for target (origin_of t to))
  where
    by_tests : (a b : Bool) → IsTask (if a then Lapse to place causes.Inactive else if b then Fire to place else Lapse to place causes.Origin)
    by_tests true b = Lapses to place causes.Inactive
    by_tests false true = Fires to place
    by_tests false false = Lapses to place causes.Origin

task_of_is : (t : Tree) (over : ℕ → ℕ → Bool) (r place : ℕ) (w what : What) → task_of t over r place w ≡ Some what → IsTask what
task_of_is t over r place (Open nav _ _ _ _ _ _ _ _ load) what h = load_task_is t r place nav load what h
task_of_is t over r place (Frame nav _ _ _ _ _ load) what h = load_task_is t r place nav load what h
task_of_is t over r place (Begin nav load) what h = load_task_is t r place nav (Some load) what h
task_of_is t over r place (Post to _ _ target _) what h =
    subst IsTask (tested_is (home_of t to == r && not (over to place)) (delivery t place to target) what h).1 (delivery_is t place to target)
task_of_is t over r place (Closing nav) what h = subst IsTask (tested_is (home_of t (t.nav nav).active == r && not (is_discarded t nav)) (Gone nav) what h).1 (Closes nav)
task_of_is t over r place _ what h = absurd cc

first_is_task : (t : Tree) (over : ℕ → ℕ → Bool) (r : ℕ) (log : List Entry) (what : What) → first_task t over r log ≡ Some what → IsTask what
first_is_task t over r [] what h = absurd cc
first_is_task t over r (e ∷ older) what h =
    elim (either_is (first_task t over r older) (task_of t over r (length older) e.what) what h) [
      | inl p ↦ first_is_task t over r older what p
      | inr p ↦ task_of_is t over r (length older) e.what what p
    ]

-- a next task commits a document, fires or lapses a message, or closes a window
pub next_is_task : (log : List Entry) (r : ℕ) (what : What) → next_task log r ≡ Some what → IsTask what
unfolding next_task
next_is_task log r what h = first_is_task (tree_of log) (is_over log) r log what h

-- so it makes no navigable and no document
quiet_task : (what : What) → IsTask what → is_maker what ≡ false
unfolding is_maker
quiet_task what (Commits nav doc begin) = refl
quiet_task what (Fires doc post) = refl
quiet_task what (Lapses doc post cause) = refl
quiet_task what (Closes nav) = refl

task_is_quiet : (log : List Entry) (r : ℕ) (what : What) → next_task log r ≡ Some what → is_maker what ≡ false
task_is_quiet log r what h = quiet_task what (next_is_task log r what h)

-- THE START WINDOWS

-- each start window is one of the kinds of entries
pub start_fits : (rules : Rules) (log : List Entry) (url : List ℕ) → length log < 2 ^ 30 → IsFit rules (tree_of log) (start_entry rules (tree_of log) url)
start_fits rules log url short = (Starts url, start_admitted rules log url short)

pub started_length : (rules : Rules) (log : List Entry) (urls : List (List ℕ)) → length (started rules log urls) ≡ length log + length urls
started_length rules log [] = omega arith
started_length rules log (url ∷ urls) = started_length rules (start_entry rules (tree_of log) url ∷ log) urls ∙ (omega arith)

starts_admitted : (s : Session) → length (starts_of s) < 2 ^ 30 → AreAdmitted (starts_of s)
unfolding starts_of
starts_admitted s few = started_admitted (rules_of s) [] s.start tt (let e = started_length (rules_of s) [] s.start in omega arith)

-- LOSSES

lost_admitted : (log : List Entry) (r : ℕ) → length log < 2 ^ 30 → admits (tree_of log) (lost_entry r) ≡ true
unfolding admits
lost_admitted log r short = let len = (few_of log).len in rw (lt_true (tree_of log).len 4294967295 (omega arith)) refl

-- the loss of a renderer is one of the kinds of entries
pub lost_fits : (rules : Rules) (log : List Entry) (r : ℕ) → length log < 2 ^ 30 → IsFit rules (tree_of log) (lost_entry r)
unfolding is_maker
lost_fits rules log r short = (Quietly None None (Lost r) refl, lost_admitted log r short)

-- EXCHANGES

task_steps : (rules : Rules) (log : List Entry) (r place : ℕ) (o : Option What) → ((w : What) → o ≡ Some w → IsFit rules (tree_of log) (task_entry r w)) → Steps rules log (task_decision r place o)
task_steps rules log r place None h = tt
task_steps rules log r place (Some w) h = (h w refl, tt)

next_steps : (rules : Rules) (log : List Entry) (r : ℕ) → AreAdmitted log → length log < 2 ^ 30 → Steps rules log (exchange rules log r ask.Next)
unfolding exchange
next_steps rules log r all short = task_steps rules log r (length log) (next_task log r) (λ w next. (Quietly (Some r) None w (task_is_quiet log r w next), task_admitted log r w all short next))

AllSteps : Rules → List Entry → Decision → Type 0
AllSteps rules log d = Steps rules log d

request_steps : (rules : Rules) (log : List Entry) (r : ℕ) (q : Request) → has_no_asker q ≡ false → AreAdmitted log → length log < 2 ^ 30 → AllSteps rules log (exchange rules log r q)
unfolding AllSteps
request_steps rules log r q other all short =
    decided_or_none (AllSteps rules log) rules log r q other tt tt
    (λ been home active. decide-steps rules log _ r q all (omega arith) (asking_of log (asker_of q) all (omega arith) ((admitted_well log all).shown (asker_of q) been) active))

-- every entry of an exchange is of one of the kinds, and can follow the log
pub exchange-steps : (rules : Rules) (log : List Entry) (r : ℕ) (q : Request) → AreAdmitted log → length log < 2 ^ 30 → Steps rules log (exchange rules log r q)
unfolding AllSteps
exchange-steps rules log r q all short = by_kind (has_no_asker q) refl
  where
    by_kind : (b : Bool) → has_no_asker q ≡ b → Steps rules log (exchange rules log r q)
    by_kind true e = without_asker (Steps rules log) rules log r q e (next_steps rules log r all short) tt
    by_kind false e = request_steps rules log r q e all short

steps_admitted : (rules : Rules) (log es : List Entry) → AreAdmitted log → AreSteps rules log es → AreAdmitted (es ++ log)
steps_admitted rules log [] all steps = all
steps_admitted rules log (e ∷ es) all steps = (steps.0.1, steps_admitted rules log es all steps.1)

-- the entries of an exchange can follow the log
pub exchange_admitted : (rules : Rules) (log : List Entry) (r : ℕ) (q : Request) → AreAdmitted log → length log < 2 ^ 30 → AreAdmitted ((exchange rules log r q).entries ++ log)
exchange_admitted rules log r q all short = steps_admitted rules log (exchange rules log r q).entries all (exchange-steps rules log r q all short)

-- LEGAL LOGS

pub longer : (es log : List Entry) → length log ≤ length (es ++ log)
longer [] log = omega arith
longer (e ∷ es) log = omega (arith, longer es log)

pub legal_admitted : (s : Session) (log : List Entry) → IsLegalLog s log → length log < 2 ^ 30 → AreAdmitted log
legal_admitted s log Started few = starts_admitted s few
legal_admitted s log (Exchanged older r q legal there) few =
    let short : length older < 2 ^ 30 = omega (arith, longer (exchange (rules_of s) older r q).entries older) in
    exchange_admitted (rules_of s) older r q (legal_admitted s older legal short) short
legal_admitted s log (Gave_up older r legal there) few =
    let short : length older < 2 ^ 30 = omega arith in
    ((lost_fits (rules_of s) older r short).1, legal_admitted s older legal short)
