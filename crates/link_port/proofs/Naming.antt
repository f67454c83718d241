-- What the outcome of a step names is there on what its renderer is told of the log, and stays there.
use Rattle.std.proofs.Common.{◌≡◌, ℕ, ◌<◌, ◌≤◌, ◌^◌, List, [], ◌∷◌, ◌++◌, length, Option, Some, None, Bool, true, false, refl, sym, ap, subst, ◌∙◌, arith, inl, inr, not, if◌then◌else◌, eq-eqb}
use Rattle.std.specs.Prelude.{nat_le, nat_lt, ◌==◌, ◌&&◌}
use Rattle.std.proofs.lemmas.Bool.{false≢true}
use Rattle.std.proofs.lemmas.Bool.Decides.{nat_tests}
use Rattle.agent_laws.proofs.Logs.Admitted.{IsTask, Commits, Fires, Lapses, Closes as Gones, next_is_task}
use Rattle.agent_laws.proofs.Blanked.BlankedExchanges.{next_task-blanked}
use Rattle.agent_terms.specs.declared.request.ReplyOutcome.{ReplyOutcome}
use Rattle.agent_terms.specs.declared.request.ReplyOutcome.TheVariants as reply
use Rattle.coordinator_rules.specs.NextTask.{ends, is_over, next_task, task_entry}
use Rattle.coordinator_rules.specs.Told.{told_log}
use Rattle.exchange_laws.proofs.Fit.Named.{IsNamed, named}
use Rattle.link_wire.specs.Links.{is_post, is_posted, is_some_task, is_task_of, names_what_is_there}
use Rattle.log_laws.proofs.Homes.Told.{told-blanked}
use Rattle.log_laws.proofs.Messages.Endings.{is_ending}
use Rattle.log_laws.proofs.Messages.FirstTasks.{IsFirst, delivery_ends, delivery_of, entry_cases, first_is, newest_entry, none_stands, older_entry}
use Rattle.single_agent.proofs.Admitted.{task_admitted}
use Rattle.single_agent.proofs.Mine.{commit_mine}
use Rattle.tree_log.specs.declared.entry.Cause.{Cause}
use Rattle.tree_log.specs.declared.entry.Entry.{Entry}
use Rattle.tree_log.specs.declared.entry.What.{What}
use Rattle.tree_log.specs.declared.entry.What.TheVariants.{Commit, Fire, Lapse, Gone}
use Rattle.tree_log.specs.Admits.{admits, AreAdmitted}
use Rattle.tree_log.specs.Blanking.{blank, hidden, is_homed}
use Rattle.tree_log.specs.Facts.{Birth}
use Rattle.tree_log.specs.Log.{entry_at}
use Rattle.tree_log.specs.Tree.{Tree, tree_of, tree_after, tree_of_step, home_of}
use Rattle.tree_log.proofs.Admitted.{both, born_stays, docs_at_step, docs_grow, navs_at_step, navs_grow, what_admitted}
use Rattle.tree_log.proofs.Places.{entry_below}
use Rattle.link_port.proofs.Told.{told_admitted, told_length, told_tree}

-- THE DOCUMENT OF A TASK IS THERE

HasDocument : Tree → What → Type 0
HasDocument t (Commit nav doc begin) = doc < t.docs
HasDocument t (Fire doc post) = doc < t.docs
HasDocument t (Lapse doc post cause) = doc < t.docs
HasDocument t _ = Unit {0}

documents_more : (e : Entry) (log : List Entry) → (tree_of log).docs ≤ (tree_of (e ∷ log)).docs
documents_more e log = subst (λ (t : Tree). (tree_of log).docs ≤ t.docs) (sym (tree_of_step e log)) (subst (λ n. (tree_of log).docs ≤ n) (sym (docs_at_step (tree_of log) e)) (docs_grow e.what (tree_of log).docs))

document_later : (t u : Tree) (w : What) → t.docs ≤ u.docs → HasDocument t w → HasDocument u w
unfolding HasDocument
document_later t u (Commit nav doc begin) le h = omega (arith, h)
document_later t u (Fire doc post) le h = omega (arith, h)
document_later t u (Lapse doc post cause) le h = omega (arith, h)
document_later t u _ le h = tt

document_named : (t : Tree) (w : What) → IsNamed t w → HasDocument t w
unfolding HasDocument
document_named t (Commit nav doc begin) h = h.1
document_named t (Fire doc post) h = h
document_named t (Lapse doc post cause) h = h
document_named t _ h = tt

document_at : (log : List Entry) (place : ℕ) (x : Entry) → AreAdmitted log → entry_at log place ≡ Some x → HasDocument (tree_of log) x.what
document_at [] place x all at = absurd (none_stands place x at)
document_at (e ∷ older) place x all at = elim (entry_cases e older place x at) as (λ _. HasDocument (tree_of (e ∷ older)) x.what) [
  | inl here ↦
      document_later (tree_of older) (tree_of (e ∷ older)) x.what (documents_more e older)
      (subst (λ (y : Entry). HasDocument (tree_of older) y.what) here.1 (document_named (tree_of older) e.what (named (tree_of older) e.by e.actor e.what (what_admitted (tree_of older) e all.0))))
  | inr there ↦ document_later (tree_of older) (tree_of (e ∷ older)) x.what (documents_more e older) (document_at older place x all.1 there.1)
]

-- A TASK STAYS ONE

home_later : (e : Entry) (log : List Entry) (d : ℕ) → admits (tree_of log) e ≡ true → d < (tree_of log).docs → home_of (tree_of (e ∷ log)) d ≡ home_of (tree_of log) d
home_later e log d h lt = ap (λ (t : Tree). home_of t d) (tree_of_step e log) ∙ ap (λ (b : Birth). b.home) (born_stays (tree_of log) e d h lt)

same_home : (e : Entry) (log : List Entry) (r d : ℕ) → admits (tree_of log) e ≡ true → d < (tree_of log).docs → (home_of (tree_of log) d == r) ≡ true → (home_of (tree_of (e ∷ log)) d == r) ≡ true
same_home e log r d h lt is = ap (λ n. n == r) (home_later e log d h lt) ∙ is

post_later : (e : Entry) (log : List Entry) (post : ℕ) (o : Option Entry) → entry_at log post ≡ o → is_post o ≡ true → is_post (entry_at (e ∷ log) post) ≡ true
post_later e log post None at is = absurd (false≢true is)
post_later e log post (Some x) at is = ap is_post (older_entry e log post (entry_below log post x at) ∙ at) ∙ is

and_true : (a b : Bool) → a ≡ true → b ≡ true → (a && b) ≡ true
and_true true b h k = k
and_true false b h k = h

task_later : (r : ℕ) (e : Entry) (log : List Entry) (w : What) → admits (tree_of log) e ≡ true → HasDocument (tree_of log) w → is_task_of r log w ≡ true → is_task_of r (e ∷ log) w ≡ true
unfolding HasDocument
task_later r e log (Commit nav doc begin) h there is = same_home e log r doc h there is
task_later r e log (Fire doc post) h there is =
    let parts = both (home_of (tree_of log) doc == r) (is_post (entry_at log post)) is in
    and_true _ _ (same_home e log r doc h there parts.0) (post_later e log post (entry_at log post) refl parts.1)
task_later r e log (Lapse doc post cause) h there is = same_home e log r doc h there is
task_later r e log (Gone nav) h there is = refl
task_later r e log _ h there is = absurd (false≢true is)

some_task_later : (r : ℕ) (e : Entry) (log : List Entry) (place : ℕ) (o : Option Entry) → AreAdmitted (e ∷ log) → entry_at log place ≡ o → is_some_task r log o ≡ true
    → is_some_task r (e ∷ log) (entry_at (e ∷ log) place) ≡ true
some_task_later r e log place None all at is = absurd (false≢true is)
some_task_later r e log place (Some x) all at is =
    ap (is_some_task r (e ∷ log)) (older_entry e log place (entry_below log place x at) ∙ at) ∙ task_later r e log x.what all.0 (document_at log place x all.1 at) is

pub navs_more : (e : Entry) (log : List Entry) → (tree_of log).navs ≤ (tree_of (e ∷ log)).navs
navs_more e log = subst (λ (t : Tree). (tree_of log).navs ≤ t.navs) (sym (tree_of_step e log)) (subst (λ n. (tree_of log).navs ≤ n) (sym (navs_at_step (tree_of log) e)) (navs_grow e.what (tree_of log).navs))

lt_later : (n a b : ℕ) → a ≤ b → nat_lt n a ≡ true → nat_lt n b ≡ true
lt_later n a b le is = grind (arith, nat_tests)

names_next : (r : ℕ) (e : Entry) (log : List Entry) (older : ℕ) (o : ReplyOutcome) → AreAdmitted (e ∷ log) → names_what_is_there r log older o ≡ true → names_what_is_there r (e ∷ log) older o ≡ true
names_next r e log older (reply.Made nav) all is = lt_later nav (tree_of log).navs (tree_of (e ∷ log)).navs (navs_more e log) is
names_next r e log older (reply.Task place) all is =
    let parts = both (nat_le older place) (is_some_task r log (entry_at log place)) is in
    and_true _ _ parts.0 (some_task_later r e log place (entry_at log place) all refl parts.1)
names_next r e log older _ all is = refl

-- what an outcome names is there on a longer log too
pub names_later : (r : ℕ) (more log : List Entry) (older : ℕ) (o : ReplyOutcome) → AreAdmitted (more ++ log) → names_what_is_there r log older o ≡ true → names_what_is_there r (more ++ log) older o ≡ true
names_later r [] log older o all is = is
names_later r (e ∷ more) log older o all is = names_next r e (more ++ log) older o all (names_later r more log older o all.1 is)

-- THE NEXT TASK

-- it is told whole to the renderer where its document is homed
kept_or : (b : Bool) (e : Entry) → b ≡ true → (if not b then hidden else e) ≡ e
kept_or true e h = refl
kept_or false e h = absurd (false≢true h)

IsHomed : Tree → ℕ → What → Type 0
IsHomed t r (Commit nav doc begin) = (home_of t doc == r) ≡ true
IsHomed t r (Fire doc post) = (home_of t doc == r) ≡ true
IsHomed t r (Lapse doc post cause) = (home_of t doc == r) ≡ true
IsHomed t r _ = Unit {0}

told_whole : (t : Tree) (r : ℕ) (w : What) → IsTask w → IsHomed t r w → blank (is_homed t r) (task_entry r w) ≡ task_entry r w
unfolding IsHomed
told_whole t r w (Commits nav doc begin) h = refl
told_whole t r w (Fires doc post) h = kept_or (home_of t doc == r) (task_entry r (Fire doc post)) h
told_whole t r w (Lapses doc post cause) h = kept_or (home_of t doc == r) (task_entry r (Lapse doc post cause)) h
told_whole t r w (Gones nav) h = refl

-- the log that a task is taken on, and the task
module _ (r : ℕ) (log : List Entry) (all : AreAdmitted log) where
  first_of : (w : What) → next_task log r ≡ Some w → IsFirst (tree_of log) (is_over log) r log w
  unfolding next_task
  first_of w h = first_is (tree_of log) (is_over log) r log w h

  -- the message that a task ends was posted to a document of the renderer
  pub record Ends (doc post : ℕ) : Type 0 where
    pub home : home_of (tree_of log) doc ≡ r
    pub posted : is_post (entry_at log post) ≡ true

  ended : (w : What) (doc post : ℕ) → is_ending w ≡ true → ends doc post w ≡ true → next_task log r ≡ Some w → Ends doc post
  ended w doc post ending end h =
      let f = first_of w h in
      let it = delivery_of (tree_of log) (is_over log) r f.place f.entry.what w ending f.leaves in
      let own = delivery_ends (tree_of log) f.place it.to it.target doc post (subst (λ (x : What). ends doc post x ≡ true) (sym it.delivers) end) in
      record {
        home = ap (home_of (tree_of log)) (sym own.0) ∙ it.home;
        posted = ap (λ p. is_post (entry_at log p)) (sym own.1) ∙ ap is_post f.stands ∙ ap is_posted it.posted;
      }

  ends_itself : (doc post : ℕ) → (doc == doc && post == post) ≡ true
  ends_itself doc post = and_true _ _ (eq-eqb doc doc refl) (eq-eqb post post refl)

  fire_ends : (doc post : ℕ) → next_task log r ≡ Some (Fire doc post) → Ends doc post
  unfolding is_ending
  fire_ends doc post h = ended (Fire doc post) doc post refl (ends_itself doc post) h

  lapse_ends : (doc post : ℕ) (cause : Cause) → next_task log r ≡ Some (Lapse doc post cause) → Ends doc post
  unfolding is_ending
  lapse_ends doc post cause h = ended (Lapse doc post cause) doc post refl (ends_itself doc post) h

  module _ (short : length log < 2 ^ 30) (w : What) (next : next_task log r ≡ Some w) where
    entry_admitted : admits (tree_of log) (task_entry r w) ≡ true
    entry_admitted = task_admitted log r w all short next

    document_there : HasDocument (tree_of log) w
    document_there = document_named (tree_of log) w (named (tree_of log) (Some r) None w (what_admitted (tree_of log) (task_entry r w) entry_admitted))

    home_after : (doc : ℕ) → doc < (tree_of log).docs → home_of (tree_of log) doc ≡ r → (home_of (tree_of (task_entry r w ∷ log)) doc == r) ≡ true
    home_after doc there home = same_home (task_entry r w) log r doc entry_admitted there (eq-eqb (home_of (tree_of log) doc) r home)

  -- once the task is taken
  record IsTaken (w : What) : Type 0 where
    pub homed : IsHomed (tree_of (task_entry r w ∷ log)) r w
    pub task : is_task_of r (task_entry r w ∷ log) w ≡ true

  taken : length log < 2 ^ 30 → (w : What) → IsTask w → next_task log r ≡ Some w → IsTaken w
  unfolding HasDocument IsHomed
  taken short w (Commits nav doc begin) next =
      let home = eq-eqb (home_of (tree_of (task_entry r w ∷ log)) doc) r (commit_mine r log nav doc begin all next).home in
      record { homed = home; task = home }
  taken short w (Fires doc post) next =
      let e = fire_ends doc post next in
      let home = home_after short w next doc (document_there short w next) e.home in
      record { homed = home; task = and_true _ _ home (post_later (task_entry r w) log post (entry_at log post) refl e.posted) }
  taken short w (Lapses doc post cause) next =
      let e = lapse_ends doc post cause next in
      let home = home_after short w next doc (document_there short w next) e.home in
      record { homed = home; task = home }
  taken short w (Gones nav) next = record { homed = tt; task = refl }

-- what a renderer is told has the same next task
same_next : (r : ℕ) (log : List Entry) → AreAdmitted log → next_task (told_log r log) r ≡ next_task log r
same_next r log all = ap (λ (l : List Entry). next_task l r) (sym (told-blanked r log all)) ∙ next_task-blanked (is_homed (tree_of log) r) log r (λ d h. h)

-- a log that takes an entry, and what is told of it, have the same tree
same_tree : (r : ℕ) (e : Entry) (log : List Entry) → tree_of (e ∷ told_log r log) ≡ tree_of (e ∷ log)
same_tree r e log = tree_of_step e (told_log r log) ∙ ap (λ (t : Tree). tree_after t e) (told_tree r log) ∙ sym (tree_of_step e log)

-- the next task of the log is named where it stands
pub task_named : (r : ℕ) (log : List Entry) (told : ℕ) (w : What) → AreAdmitted log → length log < 2 ^ 30 → told ≤ length log → next_task log r ≡ Some w
    → names_what_is_there r (told_log r (task_entry r w ∷ log)) told (reply.Task (length log)) ≡ true
task_named r log told w all short le next =
    let heard : List Entry = told_log r log in
    let e : Entry = task_entry r w in
    let long : length heard ≡ length log = told_length r log in
    let is_task = next_is_task log r w next in
    let t = taken r heard (told_admitted r log all) (omega arith) w is_task (same_next r log all ∙ next) in
    let whole : told_log r (e ∷ log) ≡ e ∷ heard = ap (λ (x : Entry). x ∷ heard) (told_whole (tree_of (e ∷ log)) r w is_task (subst (λ (u : Tree). IsHomed u r w) (same_tree r e log) t.homed)) in
    let at : entry_at (e ∷ heard) (length log) ≡ Some e = ap (entry_at (e ∷ heard)) (sym long) ∙ newest_entry e heard in
    let here : nat_le told (length log) ≡ true = grind (arith, nat_tests) in
    let named_there : is_some_task r (e ∷ heard) (entry_at (e ∷ heard) (length log)) ≡ true = ap (is_some_task r (e ∷ heard)) at ∙ t.task in
    ap (λ (l : List Entry). names_what_is_there r l told (reply.Task (length log))) whole ∙ and_true _ _ here named_there
