-- In a legal log that no initial document acts in, documents that are open to one another have one home.
use Rattle.std.proofs.Common.{◌≡◌, ℕ, ◌+◌, ◌<◌, ◌^◌, List, [], ◌∷◌, ◌++◌, length, Option, Some, None, true, refl, ap, sym, subst, arith}
use Rattle.std.proofs.lemmas.Bool.{false≢true, eqb-true}
use Rattle.tree_log.specs.declared.entry.Entry.{Entry}
use Rattle.tree_log.specs.Tree.{Tree, tree_of, tree_after, tree_of_step, home_of, origin_of, nav_of, group_of, are_same, same_group, same_domain}
use Rattle.tree_log.specs.Admits.{AreAdmitted}
use Rattle.tree_log.specs.Blanking.{is_open_to}
use Rattle.tree_log.proofs.Admitted.{both}
use Rattle.agent_terms.specs.declared.session.Session.{Session}
use Rattle.single_agent.specs.Session.{starts_of, started, start_entry}
use Rattle.single_agent.specs.LegalLog.{lost_entry, IsLegalLog, Started, Exchanged, Gave_up}
use Rattle.coordinator_rules.specs.Decision.{Rules, rules_of, exchange}
use Rattle.log_laws.specs.Homes.{ActorsLoaded, is_loaded}
use Rattle.agent_laws.proofs.Groups.Well.{admitted_well}
use Rattle.agent_laws.proofs.Logs.Steps.{AreSteps, IsFit}
use Rattle.agent_laws.proofs.Logs.Admitted.{start_fits, started_length, lost_fits, exchange-steps, longer, legal_admitted}
use Rattle.log_laws.proofs.Homes.Homed.{AreHomed, one_home, homed_grown}
use Rattle.log_laws.proofs.Homes.Grown.{step_grown}

-- one more entry
step_homed : (rules : Rules) (log : List Entry) (e : Entry) → AreAdmitted log → IsFit rules (tree_of log) e → ((a : ℕ) → e.actor ≡ Some a → is_loaded (tree_of log) a ≡ true) → AreHomed rules (tree_of log)
    → AreHomed rules (tree_of (e ∷ log))
step_homed rules log e all fit actors homed =
    subst (AreHomed rules) (sym (tree_of_step e log)) (homed_grown rules (tree_of log) (tree_after (tree_of log) e) homed (step_grown rules (tree_of log) e (admitted_well log all) fit.0 fit.1 actors))

pub steps_homed : (rules : Rules) (log es : List Entry) → AreAdmitted log → AreSteps rules log es → ActorsLoaded (es ++ log) → AreHomed rules (tree_of log) → AreAdmitted (es ++ log) × AreHomed rules (tree_of (es ++ log))
steps_homed rules log [] all steps actors homed = (all, homed)
steps_homed rules log (e ∷ es) all steps actors homed =
    let later = steps_homed rules log es all steps.1 actors.1 homed in
    ((steps.0.1, later.0), step_homed rules (es ++ log) e later.0 steps.0 actors.0 later.1)

empty_homed : (rules : Rules) → AreHomed rules (tree_of [])
unfolding tree_of
empty_homed rules = record { below = tt; first = λ x l e. absurd (omega arith); initial = λ x l e. absurd (omega arith); own = λ x k l e. absurd (omega arith); hosts = λ x tuple l e. absurd (omega arith); unset = λ x l. refl; domains = λ x tuple domain l e. absurd (omega arith) }

started_homed : (rules : Rules) (log : List Entry) (urls : List (List ℕ)) → AreAdmitted log → length log + length urls < 2 ^ 30 → AreHomed rules (tree_of log) → AreHomed rules (tree_of (started rules log urls))
started_homed rules log [] all few homed = homed
started_homed rules log (url ∷ urls) all few homed =
    let fit = start_fits rules log url (omega arith) in
    started_homed rules (start_entry rules (tree_of log) url ∷ log) urls (fit.1, all) (omega arith) (step_homed rules log (start_entry rules (tree_of log) url) all fit (λ a e. absurd cc) homed)

pub starts_homed : (s : Session) → length (starts_of s) < 2 ^ 30 → AreHomed (rules_of s) (tree_of (starts_of s))
unfolding starts_of
starts_homed s few = started_homed (rules_of s) [] s.start tt (let e = started_length (rules_of s) [] s.start in omega arith) (empty_homed (rules_of s))

actors_older : (es log : List Entry) → ActorsLoaded (es ++ log) → ActorsLoaded log
actors_older [] log a = a
actors_older (e ∷ es) log a = actors_older es log a.1

pub legal_homed : (s : Session) (log : List Entry) → IsLegalLog s log → length log < 2 ^ 30 → ActorsLoaded log → AreHomed (rules_of s) (tree_of log)
legal_homed s log Started few actors = starts_homed s few
legal_homed s log (Exchanged older r q legal there) few actors =
    let es : List Entry = (exchange (rules_of s) older r q).entries in
    let short : length older < 2 ^ 30 = omega (arith, longer es older) in
    let all : AreAdmitted older = legal_admitted s older legal short in
    (steps_homed (rules_of s) older es all (exchange-steps (rules_of s) older r q all short) actors (legal_homed s older legal short (actors_older es older actors))).1
legal_homed s log (Gave_up older r legal there) few actors =
    let short : length older < 2 ^ 30 = omega arith in
    step_homed (rules_of s) older (lost_entry r) (legal_admitted s older legal short) (lost_fits (rules_of s) older r short) (λ a e. absurd cc) (legal_homed s older legal short actors.1)

same_is_equal : (a b : Option ℕ) → are_same a b ≡ true → a ≡ b
same_is_equal None b h = absurd (false≢true h)
same_is_equal (Some m) None h = absurd (false≢true h)
same_is_equal (Some m) (Some n) h = ap Some (sym (eqb-true n m h))

-- documents that are open to one another, where documents are homed
pub open_homed : (rules : Rules) (t : Tree) → AreHomed rules t → (x y : ℕ) → x < t.docs → y < t.docs → is_open_to t x y ≡ true → home_of t x ≡ home_of t y
open_homed rules t homed x y lx ly is_open =
    let parts = both (same_group t (nav_of t x) (nav_of t y)) (same_domain t x y) is_open in
    one_home rules t homed x y lx ly (same_is_equal (group_of t (nav_of t x)) (group_of t (nav_of t y)) parts.0) parts.1

pub open_documents : (s : Session) (log : List Entry) → IsLegalLog s log → length log < 2 ^ 30 → ActorsLoaded log → (x y : ℕ) → x < (tree_of log).docs → y < (tree_of log).docs → is_open_to (tree_of log) x y ≡ true
    → home_of (tree_of log) x ≡ home_of (tree_of log) y
open_documents s log legal few actors = open_homed (rules_of s) (tree_of log) (legal_homed s log legal few actors)
