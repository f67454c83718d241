-- Rows that were those of a log are those of the log with one more entry, once it was taken in.
use Rattle.std.proofs.Common.{◌≡◌, ℕ, ◌<◌, List, ◌∷◌, length, Option, Some, None, Bool, true, false, refl, sym, ap, subst, ◌∙◌, arith, inl, inr}
use Rattle.std.specs.Prelude.{◌==◌, ◌&&◌, ◌||◌, not, if◌then◌else◌}
use Rattle.std.specs.Coded.{Coded-set, coded_bool, coded_ℕ, coded_option}
use Rattle.std.specs.Option.{option_or}
use Rattle.std.proofs.lemmas.Bool.{eqb-true}
use Rattle.std.proofs.lemmas.Bool.Decides.{eqb_tells}
use Rattle.tree_log.specs.declared.entry.Entry.{Entry}
use Rattle.tree_log.specs.declared.entry.Load.{Load}
use Rattle.tree_log.specs.declared.entry.What.{What}
use Rattle.tree_log.specs.declared.entry.What.TheVariants.{Open, Frame, Begin, Commit, Post, Closing}
use Rattle.tree_log.specs.Facts.{says_closing}
use Rattle.tree_log.specs.Log.{is, entry_at}
use Rattle.tree_log.specs.Tree.{Tree, tree_of, tree_of_step, home_of, is_discarded}
use Rattle.tree_log.specs.Admits.{AreAdmitted}
use Rattle.tree_log.proofs.Admitted.{both, what_admitted, TaskStands, tasks_stand}
use Rattle.tree_log.proofs.Places.{entry_below}
use Rattle.coordinator_rules.specs.NextTask.{load_waits, load_task, delivery, ends, is_over, task_of}
use Rattle.agent_laws.proofs.Groups.Well.{admitted_well, more_docs}
use Rattle.agent_laws.proofs.Logs.Admitted.{tested_is}
use Rattle.agent_laws.proofs.Logs.Entries.{commit_there}
use Rattle.agent_laws.proofs.Logs.Discarded.{seated_of}
use Rattle.web_message.proofs.FirstTask.{stands_at}
use Rattle.task_index.specs.declared.row.Row.{Row}
use Rattle.task_index.specs.declared.waiting.Waiting.{Waiting}
use Rattle.task_index.specs.Fed.{has, has_early, has_message, holds_message, is_message_to, over_at, closing_in, first_closing, Counts, IsFed, IsKept, Stands, DueLoad, Due, IsTaken}
use Rattle.task_index.proofs.FirstTasks.{closing_is}
use Rattle.task_index.proofs.Later.{MovedWindow, task_back}
use Rattle.task_index.proofs.Over.{later_ends, later_turns, new_turns, no_end, old_turns}

-- WHAT STANDS

module _ (e : Entry) (log : List Entry) (all : AreAdmitted (e ∷ log)) where
  stands_by : (by actor : Option ℕ) (w : What) → e ≡ record { by = by; actor = actor; what = w } → TaskStands (tree_of (e ∷ log)) w → Stands (tree_of (e ∷ log)) w
  stands_by by actor (Post to from origin target body) is s = s
  stands_by by actor (Closing nav) is s = s
  stands_by by actor (Commit nav doc begin) is s =
      let what = subst (λ (x : Entry). Rattle.tree_log.specs.Admits.admits_what (tree_of log) x.by x.actor x.what ≡ true) is (what_admitted (tree_of log) e all.0) in
      let there : doc < (tree_of log).docs = (commit_there (tree_of log) by actor nav doc begin what).1 in
      subst (λ (t : Tree). doc < t.docs) (sym (tree_of_step e log)) (omega (arith, more_docs (tree_of log) e))
  stands_by by actor w is s = tt

  pub entry_stands : Stands (tree_of (e ∷ log)) e.what
  entry_stands = stands_by e.by e.actor e.what refl (tasks_stand (e ∷ log) all).0

-- THE PLACE OF THE NEW ENTRY

load_due : (t : Tree) (rows : List Row) (r place nav : ℕ) (load : Option Load) (task : What) → DueLoad rows place load → load_task t r place nav load ≡ Some task → has rows r place ≡ true
load_due t rows r place nav None task due k = absurd cc
load_due t rows r place nav (Some load) task due k =
    let waits = (tested_is (load_waits t r nav load) _ task k).0 in
    let three = both _ (not (is_discarded t nav)) waits in
    let two = both _ (not (t.doc load.doc).been_active) three.0 in
    let one = both (load.home == r) (is (t.nav nav).last_load load.doc) two.0 in
    subst (λ (n : ℕ). has rows n place ≡ true) (eqb-true load.home r one.0) due

first_of_two : (o p : Option ℕ) (place : ℕ) → option_or o p ≡ Some place → ((q : ℕ) → o ≡ Some q → q ≡ place → ⊥) → o ≡ None
first_of_two None p place h earlier = refl
first_of_two (Some q) p place h earlier = absurd (let same : q ≡ place = cc in earlier q refl same)

module _ (t : Tree) (over : ℕ → ℕ → Bool) (log : List Entry) (e : Entry) (old new : Waiting) where
  here_due : (r : ℕ) (w task : What) → ((nav : ℕ) → closing_in old nav ≡ first_closing log nav) → e.what ≡ w → Counts (e ∷ log) (length log) w → Due t (length log) w old new → task_of t over r (length log) w ≡ Some task → has new.rows.items r (length log) ≡ true
  here_due r (Open nav _ _ _ _ _ _ _ _ load) task closings is counts due k = load_due t new.rows.items r (length log) nav load task due k
  here_due r (Frame nav _ _ _ _ _ load) task closings is counts due k = load_due t new.rows.items r (length log) nav load task due k
  here_due r (Begin nav load) task closings is counts due k = load_due t new.rows.items r (length log) nav (Some load) task due k
  here_due r (Post to _ _ target _) task closings is counts due k =
      let tested = (tested_is (home_of t to == r && not (over to (length log))) (delivery t (length log) to target) task k).0 in
      subst (λ (n : ℕ). has new.rows.items n (length log) ≡ true) (eqb-true (home_of t to) r (both (home_of t to == r) (not (over to (length log))) tested).0) due
  here_due r (Closing nav) task closings is counts due k =
      let tested = (tested_is (home_of t (t.nav nav).active == r && not (is_discarded t nav)) _ task k).0 in
      let none : first_closing log nav ≡ None = first_of_two (first_closing log nav) _ (length log) counts (λ q first same. earlier q first same) in
      subst (λ (n : ℕ). has new.rows.items n (length log) ≡ true) (eqb-true (home_of t (t.nav nav).active) r (both (home_of t (t.nav nav).active == r) (not (is_discarded t nav)) tested).0)
      (due (closings nav ∙ none))
    where
      earlier : (q : ℕ) → first_closing log nav ≡ Some q → q ≡ length log → ⊥
      earlier q first same = let c = closing_is log nav q first in let lt = entry_below log q c.entry c.there in absurd (omega arith)
  here_due r w task closings is counts due k = absurd cc

or_false : (b : Bool) → (b || false) ≡ b
or_false true = refl
or_false false = refl

-- OLDER PLACES

-- the first of two entries counts also in the shorter log
counts_older : (e : Entry) (log : List Entry) (place : ℕ) (w : What) → place < length log → Counts (e ∷ log) place w → Counts log place w
counts_older e log place (Closing nav) lt h = by_older (first_closing log nav) (if says_closing nav e.what then Some (length log) else None) h (by_says (says_closing nav e.what)) where
  by_says : (b : Bool) → (if b then Some (length log) else None) ≡ Some place → ⊥
  by_says true k = let same : length log ≡ place = cc in absurd (omega arith)
  by_says false k = absurd cc

  by_older : (o p : Option ℕ) → option_or o p ≡ Some place → (p ≡ Some place → ⊥) → o ≡ Some place
  by_older None p k other = absurd (other k)
  by_older (Some q) p k other = k
counts_older e log place w lt h = tt

module _ (e : Entry) (log : List Entry) (all : AreAdmitted (e ∷ log)) (old new : Waiting) (fed : IsFed old log) (taken : IsTaken log (tree_of (e ∷ log)) (length log) e.what old new) where
  moved_due : (r place : ℕ) (w : What) → Counts log place w → MovedWindow (tree_of (e ∷ log)) r e.what w → has new.rows.items r place ≡ true
  moved_due r place (Closing nav) counts moved =
      let due = subst (λ (v : What). Due (tree_of (e ∷ log)) (length log) v old new) moved.is taken.due in
      subst (λ (n : ℕ). has new.rows.items n place ≡ true) moved.home (due place (fed.closings nav ∙ counts))
  moved_due r place w counts moved = absurd moved

  older_due : (r place : ℕ) (x : Entry) (task : What) → entry_at log place ≡ Some x → Counts (e ∷ log) place x.what → task_of (tree_of (e ∷ log)) (is_over (e ∷ log)) r place x.what ≡ Some task → has new.rows.items r place ≡ true
  older_due r place x task at counts k =
      let counted = counts_older e log place x.what (entry_below log place x at) counts in
      let stands = stands_at (tree_of log) log place x (tasks_stand log all.1) at in
      let back = task_back (tree_of log) e all.0 (admitted_well log all.1) (seated_of log all.1) (is_over log) r place x.what task stands
      (subst (λ (t : Tree). task_of t (is_over (e ∷ log)) r place x.what ≡ Some task) (tree_of_step e log) k) in
      elim back as (λ _. has new.rows.items r place ≡ true) [
        | inl was ↦ taken.places.places r place ((fed.tasks r).all place x was.task at counted was.is)
        | inr moved ↦ moved_due r place x.what counted (subst (λ (t : Tree). MovedWindow t r e.what x.what) (sym (tree_of_step e log)) moved)
      ]

  all_due : (r place : ℕ) (x : Entry) (task : What) → entry_at (e ∷ log) place ≡ Some x → Counts (e ∷ log) place x.what → task_of (tree_of (e ∷ log)) (is_over (e ∷ log)) r place x.what ≡ Some task → has new.rows.items r place ≡ true
  unfolding entry_at
  all_due r place x task at counts k = elim (eqb_tells (length log) place) as (λ _. has new.rows.items r place ≡ true) [
    | inl p ↦
        let here : Some e ≡ Some x = rw p.0 at at in
        let same : x ≡ e = cc in
        let place_is : place ≡ length log = sym p.1 in
        newest_due r (subst (λ (y : Entry). Counts (e ∷ log) place y.what) same counts) (subst (λ (y : Entry). task_of (tree_of (e ∷ log)) (is_over (e ∷ log)) r place y.what ≡ Some task) same k) place place_is
    | inr p ↦ older_due r place x task (rw p.0 at at) counts k
  ]
    where
      newest_due : (r : ℕ) → Counts (e ∷ log) place e.what → task_of (tree_of (e ∷ log)) (is_over (e ∷ log)) r place e.what ≡ Some task → (n : ℕ) → place ≡ length log → has new.rows.items r place ≡ true
      newest_due r c j n is =
          subst (λ (q : ℕ). has new.rows.items r q ≡ true) (sym is)
          (here_due (tree_of (e ∷ log)) (is_over (e ∷ log)) log e old new r e.what task fed.closings refl
          (subst (λ (q : ℕ). Counts (e ∷ log) q e.what) is c) taken.due (subst (λ (q : ℕ). task_of (tree_of (e ∷ log)) (is_over (e ∷ log)) r q e.what ≡ Some task) is j))

  over_here : (to : ℕ) → is_message_to to e.what ≡ true → over_at new.over.items (length log) ≡ ends to (length log) e.what || is_over log to (length log)
  over_here to h =
      let n = length log in
      taken.over n
      ∙ ap (λ (b : Bool). b || over_at old.over.items n) (new_turns log n old e.what to h ∙ fed.early to n (omega arith))
      ∙ ap (λ (b : Bool). is_over log to n || b) (fed.unset n (omega arith))
      ∙ or_false (is_over log to n)
      ∙ sym (ap (λ (b : Bool). b || is_over log to n) (no_end e.what to n h))

  over_due : (to post : ℕ) → has_message (e ∷ log) to post ≡ true → over_at new.over.items post ≡ ends to post e.what || is_over log to post
  unfolding entry_at
  over_due to post h = elim (eqb_tells (length log) post) as (λ _. over_at new.over.items post ≡ ends to post e.what || is_over log to post) [
    | inl p ↦
        let here : is_message_to to e.what ≡ true = subst (λ (b : Bool). holds_message (if b then Some e else entry_at log post) to ≡ true) p.0 h in
        subst (λ (k : ℕ). over_at new.over.items k ≡ ends to k e.what || is_over log to k) p.1 (over_here to here)
    | inr p ↦
        let there : has_message log to post ≡ true = subst (λ (b : Bool). holds_message (if b then Some e else entry_at log post) to ≡ true) p.0 h in
        taken.over post
        ∙ ap (λ (b : Bool). b || over_at old.over.items post) (old_turns log (length log) old e.what to post there p.1)
        ∙ ap (λ (b : Bool). ends to post e.what || b) (fed.over to post there)
  ]

  early_due : (to post : ℕ) → length log < post → has_early new to post ≡ ends to post e.what || is_over log to post
  early_due to post lt =
      taken.early to post
      ∙ ap (λ (b : Bool). b || has_early old to post) (later_ends log e.what to post (omega arith))
      ∙ ap (λ (b : Bool). ends to post e.what || b) (fed.early to post (omega arith))

  unset_due : (post : ℕ) → length log < post → over_at new.over.items post ≡ false
  unset_due post lt = taken.over post ∙ ap (λ (b : Bool). b || over_at old.over.items post) (later_turns log old e.what post lt) ∙ fed.unset post (omega arith)

  pub fed_next : IsFed new (e ∷ log)
  fed_next = record {
    over = over_due;
    early = λ to post le. early_due to post (omega arith);
    unset = λ post le. unset_due post (omega arith);
    closings = λ nav. taken.closings nav ∙ ap (λ (o : Option ℕ). option_or o (if says_closing nav e.what then Some (length log) else None)) (fed.closings nav);
    order = taken.places.order fed.order;
    tasks = λ r. record { all = λ place x task at counts k. all_due r place x task at counts k };
  }

pub fed_same : (log : List Entry) (old new : Waiting) → IsFed old log → IsKept old new → IsFed new log
fed_same log old new fed kept = record {
  over = λ to post h. kept.over post ∙ fed.over to post h;
  early = λ to post le. kept.early to post ∙ fed.early to post le;
  unset = λ post le. kept.over post ∙ fed.unset post le;
  closings = λ nav. kept.closings nav ∙ fed.closings nav;
  order = kept.places.order fed.order;
  tasks = λ r. record { all = λ place x task at counts k. kept.places.places r place ((fed.tasks r).all place x task at counts k) };
}

-- any two proofs that rows are those of a log are equal
pub IsFed-prop : (waiting : Waiting) (log : List Entry) → IsProp (IsFed waiting log)
IsFed-prop waiting log = hlevel (Coded-set coded_bool, Coded-set (coded_option coded_ℕ))
