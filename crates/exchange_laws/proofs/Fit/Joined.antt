-- The entries of an exchange are in range, where the log was.
use Rattle.std.proofs.Common.{◌≡◌, ℕ, ◌*◌, ◌<◌, ◌≤◌, ◌^◌, List, [], ◌∷◌, ◌++◌, length, Option, Some, None, Bool, true, false, refl, sym, subst, arith, length-append}
use Rattle.std.specs.List.{AllByRecursion}
use Rattle.std.proofs.lemmas.List.Elements.{recursion_from_All}
use Rattle.tree_log.specs.declared.entry.Entry.{Entry}
use Rattle.tree_log.specs.declared.entry.What.{What}
use Rattle.tree_log.specs.Admits.{AreAdmitted}
use Rattle.tree_log.specs.Range.{IsInRange, AreInRange}
use Rattle.tree_log.specs.Tree.{tree_of}
use Rattle.tree_log.specs.Urls.{url_of}
use Rattle.tree_log.proofs.Admitted.{few_of, what_admitted}
use Rattle.agent_terms.specs.declared.request.Request.{Request}
use Rattle.agent_terms.specs.declared.request.Request.TheVariants as ask
use Rattle.coordinator_rules.specs.NextTask.{next_task, task_entry}
use Rattle.coordinator_rules.specs.Decision.{Rules, Decision, exchange, asker_of, is_in_fragment, end_of, decide, task_decision}
use Rattle.agent_laws.specs.Actors.{has_no_asker}
use Rattle.agent_laws.proofs.Groups.Well.{admitted_well}
use Rattle.agent_laws.proofs.Logs.Exchanges.{not_yours, unloaded, rest_told, without_asker, decided_or_none}
use Rattle.agent_laws.proofs.Logs.Admitted.{next_is_task, exchange_admitted}
use Rattle.link_fields.specs.Basic.{u16, u32, optional}
use Rattle.link_wire.specs.Requests.{IsRequest}
use Rattle.exchange_laws.specs.Fit.{AreFit, HasHostDomains, IsFitLog}
use Rattle.exchange_laws.proofs.Made.{IsAsked, IsDecided, decide-made}
use Rattle.exchange_laws.proofs.Owned.{few_entries}
use Rattle.exchange_laws.proofs.Fit.Parts.{HasFitParts, fits_of, some_fits, none_fits}
use Rattle.exchange_laws.proofs.Fit.Named.{named, small_tree}
use Rattle.exchange_laws.proofs.Fit.Brought.{made_fits}
use Rattle.exchange_laws.proofs.Fit.Kept.{asked_keep, task_keeps}
use Rattle.exchange_laws.proofs.Fit.Tasks.{next_placed, task_fits}

-- what an exchange keeps, so long as there is room
pub record AreStillFit (log : List Entry) : Type 0 where
  pub fit : AreFit log
  pub domains : HasHostDomains log

abbrev InRange : Entry → Type 0
InRange e = IsInRange e.what

-- who asks, and what
record IsAsking (rules : Rules) (log : List Entry) (r : ℕ) (q : Request) : Type 0 where
  log_fits : IsFitLog rules log
  request : IsRequest q
  renderer : r < 2 ^ 16
  there : asker_of q < (tree_of log).docs

asked_fits : (rules : Rules) (log : List Entry) (r : ℕ) (q : Request) (es : List Entry) (e : Entry) → IsAsking rules log r q → length es ≤ 1 → AreAdmitted (e ∷ es ++ log) → InRange e → IsAsked rules (tree_of log) r q e → HasFitParts e
asked_fits rules log r q es e a short all range h =
    let t = tree_of (es ++ log) in
    let small = small_tree (es ++ log) (let len = length-append es log in let few : length log < 2 ^ 30 = a.log_fits.short in omega arith) in
    let docs : (tree_of log).docs ≤ 2 * length log = (few_of log).docs in
    let asker_few : asker_of q < 2 ^ 32 = let few : length log < 2 ^ 30 = a.log_fits.short in let lt : asker_of q < (tree_of log).docs = a.there in omega arith in
    record {
      by = subst (λ (o : Option ℕ). (optional u16).Fits o) (sym h.by) (some_fits u16 r a.renderer);
      actor = subst (λ (o : Option ℕ). (optional u32).Fits o) (sym h.actor) (some_fits u32 (asker_of q) asker_few);
      what = made_fits rules log t q e.what a.log_fits a.there a.request small (named t e.by e.actor e.what (what_admitted t e all.0)) range h.made;
    }

asked_fit : (rules : Rules) (log : List Entry) (r : ℕ) (q : Request) (es : List Entry) → IsAsking rules log r q → length es ≤ 2 → AreAdmitted (es ++ log) → AllByRecursion InRange es → AllByRecursion (IsAsked rules (tree_of log) r q) es → AreFit (es ++ log)
asked_fit rules log r q [] a short all range h = a.log_fits.fit
asked_fit rules log r q (e ∷ es) a short all range h =
    (fits_of e (asked_fits rules log r q es e a (omega arith) all range.0 h.0), asked_fit rules log r q es a (omega arith) all.1 range.1 h.1)

task_parts : (rules : Rules) (log : List Entry) (r : ℕ) (w : What) → IsFitLog rules log → r < 2 ^ 16 → AreAdmitted (task_entry r w ∷ log) → next_task log r ≡ Some w → HasFitParts (task_entry r w)
task_parts rules log r w f lt all e =
    let t = tree_of log in
    let small = small_tree log (let few : length log < 2 ^ 30 = f.short in omega arith) in
    record {
      by = some_fits u16 r lt;
      actor = none_fits u32;
      what = task_fits t (length log) w small f.short (named t (Some r) None w (what_admitted t (task_entry r w) all.0)) (next_placed log r w e) (next_is_task log r w e);
    }

task_fit : (rules : Rules) (log : List Entry) (r place : ℕ) (o : Option What) → IsFitLog rules log → r < 2 ^ 16 → next_task log r ≡ o → AreAdmitted ((task_decision r place o).entries ++ log)
    → AreStillFit ((task_decision r place o).entries ++ log)
task_fit rules log r place None f lt e all = record { fit = f.fit; domains = f.domains }
task_fit rules log r place (Some w) f lt e all = record {
  fit = (fits_of (task_entry r w) (task_parts rules log r w f lt all e), f.fit);
  domains = task_keeps log (task_entry r w) all f.domains (next_is_task log r w e);
}

-- a decision whose entries can follow and are in range, so that they fit
abbrev Joins : List Entry → Decision → Type 0
Joins log d = length d.entries ≤ 2 → AreAdmitted (d.entries ++ log) → AllByRecursion InRange d.entries → AreStillFit (d.entries ++ log)

Joined : List Entry → Decision → Type 0
Joined log d = Joins log d

next_joined : (rules : Rules) (log : List Entry) (r : ℕ) → IsFitLog rules log → r < 2 ^ 16 → Joins log (exchange rules log r ask.Next)
unfolding exchange
next_joined rules log r f lt few all range = task_fit rules log r (length log) (next_task log r) f lt refl all

exchange_joined : (rules : Rules) (log : List Entry) (r : ℕ) (q : Request) → IsFitLog rules log → IsRequest q → r < 2 ^ 16 → Joined log (exchange rules log r q)
unfolding Joined
exchange_joined rules log r q f is lt = by_kind (has_no_asker q) refl
  where
    none : (d : Decision) → d.entries ≡ [] → Joined log d
    none d e few all range = subst (λ (es : List Entry). AreStillFit (es ++ log)) (sym e) (record { fit = f.fit; domains = f.domains })

    decided : ((tree_of log).doc (asker_of q)).been_active ≡ true → (d : Decision) → IsDecided rules (tree_of log) r q d → Joined log d
    decided been d made few all range =
        let there = (admitted_well log f.admitted).shown (asker_of q) been in
        record {
          fit = asked_fit rules log r q d.entries (record { log_fits = f; request = is; renderer = lt; there = there }) few all range made.asked;
          domains = asked_keep rules log r q d.entries f there made.few all made.asked;
        }

    by_kind : (b : Bool) → has_no_asker q ≡ b → Joined log (exchange rules log r q)
    by_kind true e = without_asker (Joined log) rules log r q e (next_joined rules log r f lt) (none rest_told refl)
    by_kind false e =
        decided_or_none (Joined log) rules log r q e (none (not_yours (tree_of log) (asker_of q)) refl) (none (unloaded (end_of log (asker_of q))) refl)
        (λ been home active. decided been (decide rules (tree_of log) (is_in_fragment (tree_of log) (url_of log)) r q) (decide-made rules (tree_of log) (is_in_fragment (tree_of log) (url_of log)) r q))

pub entries_fit : (rules : Rules) (log : List Entry) (r : ℕ) (q : Request) → IsFitLog rules log → IsRequest q → r < 2 ^ 16 → AreInRange (exchange rules log r q).entries → AreStillFit ((exchange rules log r q).entries ++ log)
unfolding Joined
entries_fit rules log r q f is lt range =
    exchange_joined rules log r q f is lt (few_entries rules log r q) (exchange_admitted rules log r q f.admitted f.short) (recursion_from_All InRange (exchange rules log r q).entries range)

-- the log after an exchange
pub log_fits : (rules : Rules) (log : List Entry) (r : ℕ) (q : Request) → IsFitLog rules log → IsRequest q → r < 2 ^ 16 → AreInRange (exchange rules log r q).entries
    → length ((exchange rules log r q).entries ++ log) < 2 ^ 30 → IsFitLog rules ((exchange rules log r q).entries ++ log)
log_fits rules log r q f is lt range short =
    let now = entries_fit rules log r q f is lt range in
    record { admitted = exchange_admitted rules log r q f.admitted f.short; fit = now.fit; domains = now.domains; short = short; some = f.some; few = f.few }
