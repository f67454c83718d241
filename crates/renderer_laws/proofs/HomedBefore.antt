-- In a legal log that no initial document acts in, documents that were open to one another had one home at each of its lengths.
use Rattle.std.proofs.Common.{◌≡◌, ℕ, ◌+◌, ◌<◌, ◌^◌, List, [], ◌∷◌, ◌++◌, length, Bool, true, false, arith}
use Rattle.std.specs.Prelude.{nat_le, if◌then◌else◌}
use Rattle.tree_log.specs.declared.entry.Entry.{Entry}
use Rattle.tree_log.specs.Log.{prefix}
use Rattle.tree_log.specs.Tree.{tree_of, home_of}
use Rattle.tree_log.specs.Admits.{AreAdmitted}
use Rattle.tree_log.specs.Blanking.{is_open_to}
use Rattle.agent_terms.specs.declared.session.Session.{Session}
use Rattle.coordinator_rules.specs.Decision.{Rules, rules_of, exchange}
use Rattle.single_agent.specs.Session.{starts_of, started, start_entry}
use Rattle.single_agent.specs.LegalLog.{lost_entry, IsLegalLog, Started, Exchanged, Gave_up}
use Rattle.agent_laws.proofs.Logs.Steps.{AreSteps}
use Rattle.agent_laws.proofs.Logs.Admitted.{start_fits, started_length, lost_fits, exchange-steps, longer, legal_admitted}
use Rattle.log_laws.specs.Homes.{ActorsLoaded}
use Rattle.log_laws.proofs.Homes.Homed.{AreHomed}
use Rattle.log_laws.proofs.Homes.HomeLaw.{starts_homed, steps_homed, open_homed}

-- documents are homed by group and origin after each of the entries
abbrev AllHomed : Rules → List Entry → Type 0
AllHomed rules [] = AreHomed rules (tree_of [])
AllHomed rules (e ∷ older) = AreHomed rules (tree_of (e ∷ older)) × AllHomed rules older

homed_now : (rules : Rules) (log : List Entry) → AllHomed rules log → AreHomed rules (tree_of log)
homed_now rules [] homed = homed
homed_now rules (e ∷ older) homed = homed.0

prefix_homed : (k : ℕ) (rules : Rules) (log : List Entry) → AllHomed rules log → AreHomed rules (tree_of (prefix k log))
unfolding prefix
prefix_homed k rules [] homed = homed
prefix_homed k rules (e ∷ older) homed = either (nat_le k (length older)) (prefix_homed k rules older homed.1)
  where
    either : (b : Bool) → AreHomed rules (tree_of (prefix k older)) → AreHomed rules (tree_of (if b then prefix k older else e ∷ older))
    either true before = before
    either false before = homed.0

all_homed : (rules : Rules) (log es : List Entry) → AreAdmitted log → AreSteps rules log es → ActorsLoaded (es ++ log) → AllHomed rules log → AllHomed rules (es ++ log)
all_homed rules log [] all steps actors homed = homed
all_homed rules log (e ∷ es) all steps actors homed =
    ((steps_homed rules log (e ∷ es) all steps actors (homed_now rules log homed)).1, all_homed rules log es all steps.1 actors.1 homed)

-- the empty log is that of a session with no start windows
empty_homed : (s : Session) → AreHomed (rules_of s) (tree_of [])
unfolding starts_of
empty_homed s = starts_homed (record s { start = [] }) (omega arith)

started_homed : (rules : Rules) (log : List Entry) (urls : List (List ℕ)) → length log + length urls < 2 ^ 30 → AreAdmitted log → ActorsLoaded log → AllHomed rules log → AllHomed rules (started rules log urls)
started_homed rules log [] short all actors homed = homed
started_homed rules log (url ∷ urls) short all actors homed =
    let e : Entry = start_entry rules (tree_of log) url in
    let fit = start_fits rules log url (omega arith) in
    let more : ActorsLoaded (e ∷ log) = (λ a is. absurd cc, actors) in
    started_homed rules (e ∷ log) urls (omega arith) (fit.1, all) more (all_homed rules log (e ∷ []) all (fit, tt) more homed)

starts_all_homed : (s : Session) → length (starts_of s) < 2 ^ 30 → AllHomed (rules_of s) (starts_of s)
unfolding starts_of
starts_all_homed s short = started_homed (rules_of s) [] s.start (let e = started_length (rules_of s) [] s.start in omega arith) tt tt (empty_homed s)

older_actors : (es log : List Entry) → ActorsLoaded (es ++ log) → ActorsLoaded log
older_actors [] log actors = actors
older_actors (e ∷ es) log actors = older_actors es log actors.1

legal_all_homed : (s : Session) (log : List Entry) → IsLegalLog s log → length log < 2 ^ 30 → ActorsLoaded log → AllHomed (rules_of s) log
legal_all_homed s log Started short actors = starts_all_homed s short
legal_all_homed s log (Exchanged older r q legal there) short actors =
    let es : List Entry = (exchange (rules_of s) older r q).entries in
    let before : length older < 2 ^ 30 = omega (arith, longer es older) in
    let all : AreAdmitted older = legal_admitted s older legal before in
    all_homed (rules_of s) older es all (exchange-steps (rules_of s) older r q all before) actors (legal_all_homed s older legal before (older_actors es older actors))
legal_all_homed s log (Gave_up older r legal there) short actors =
    let before : length older < 2 ^ 30 = omega arith in
    all_homed (rules_of s) older (lost_entry r ∷ []) (legal_admitted s older legal before) (lost_fits (rules_of s) older r before, tt) actors (legal_all_homed s older legal before actors.1)

-- documents that were open to one another on a prefix had one home there
pub open_before : (s : Session) (log : List Entry) (k : ℕ) → IsLegalLog s log → length log < 2 ^ 30 → ActorsLoaded log → (x y : ℕ) → x < (tree_of (prefix k log)).docs → y < (tree_of (prefix k log)).docs
    → is_open_to (tree_of (prefix k log)) x y ≡ true → home_of (tree_of (prefix k log)) x ≡ home_of (tree_of (prefix k log)) y
open_before s log k legal short actors = open_homed (rules_of s) (tree_of (prefix k log)) (prefix_homed k (rules_of s) log (legal_all_homed s log legal short actors))
