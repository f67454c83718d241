-- What a renderer is told of the log as it grows, and of its own tasks: these it is told whole.
use Rattle.std.proofs.Common.{◌≡◌, ℕ, suc, ◌+◌, ◌<◌, ◌≤◌, List, [], ◌∷◌, ◌++◌, length, Option, Some, None, Bool, true, false, refl, sym, ap, subst, ◌∙◌, arith, inl, inr, length-append}
use Rattle.std.specs.Prelude.{◌==◌, ◌&&◌, not, if◌then◌else◌}
use Rattle.std.specs.Option.{option_map, option_map_or}
use Rattle.std.proofs.lemmas.Bool.{eqb-true, eq-eqb}
use Rattle.origin_core.specs.declared.origin.Origin.{Origin}
use Rattle.plain_data.specs.declared.data.Data.{Data}
use Rattle.window_props.specs.declared.value.Value.{Value}
use Rattle.tree_log.specs.declared.entry.Cause.TheVariants as causes
use Rattle.tree_log.specs.declared.entry.Entry.{Entry}
use Rattle.tree_log.specs.declared.entry.Load.{Load}
use Rattle.tree_log.specs.declared.entry.Target.{Target}
use Rattle.tree_log.specs.declared.entry.What.{What}
use Rattle.tree_log.specs.declared.entry.What.TheVariants.{Open, Frame, Begin, Commit, Post, Fire, Lapse, Closing, Gone}
use Rattle.tree_log.specs.Admits.{AreAdmitted}
use Rattle.tree_log.specs.Blanking.{blank, blank_what, blanked, hidden, is_hidden, is_homed}
use Rattle.tree_log.specs.Log.{entry_at, prefix}
use Rattle.tree_log.specs.Tree.{Tree, tree_of, home_of, origin_of, is_active, is_discarded}
use Rattle.tree_log.proofs.Admitted.{both, TaskStands, AllStand, tasks_stand}
use Rattle.tree_log.proofs.BlankLaws.{length-blanked}
use Rattle.tree_log.proofs.Places.{entry_below, entry_newest, prefix_more, prefix_whole}
use Rattle.coordinator_rules.specs.NextTask.{is_for, delivery, is_over, load_waits, load_task, task_of, next_task, task_entry}
use Rattle.coordinator_rules.specs.Told.{told_log}
use Rattle.object_access.specs.Registers.{message_written, task_written}
use Rattle.log_laws.proofs.Homes.Told.{told-blanked}
use Rattle.log_laws.proofs.Messages.FirstTasks.{older_entry, entry_cases, none_stands, IsFirst, first_is}

-- PLACES

pub told_length : (r : ℕ) (log : List Entry) → length (told_log r log) ≡ length log
told_length r [] = refl
told_length r (e ∷ older) = ap suc (told_length r older)

-- what was told before does not change when the log grows
pub told_more : (r : ℕ) (more log : List Entry) (k : ℕ) → k ≤ length log → prefix k (told_log r (more ++ log)) ≡ prefix k (told_log r log)
told_more r [] log k h = refl
told_more r (e ∷ more) log k h =
    let long : length (more ++ log) ≡ length more + length log = length-append more log in
    prefix_more (blank (is_homed (tree_of (e ∷ more ++ log)) r) e ∷ []) (told_log r (more ++ log)) k (omega (arith, told_length r (more ++ log)))
    ∙ told_more r more log k h

-- all that is told
pub told_whole : (r : ℕ) (log : List Entry) (k : ℕ) → length log ≤ k → prefix k (told_log r log) ≡ told_log r log
told_whole r log k h = prefix_whole (told_log r log) k (omega (arith, told_length r log))

-- the entry at a place is blanked there
blanked_at : (kept : ℕ → Bool) (log : List Entry) (k : ℕ) → entry_at (blanked kept log) k ≡ option_map (blank kept) (entry_at log k)
unfolding entry_at
blanked_at kept [] k = refl
blanked_at kept (e ∷ older) k =
    ap (λ n. if n == k then Some (blank kept e) else entry_at (blanked kept older) k) (length-blanked kept older)
    ∙ by_place (length older == k) (blanked_at kept older k)
  where
    by_place : (b : Bool) → entry_at (blanked kept older) k ≡ option_map (blank kept) (entry_at older k)
        → (if b then Some (blank kept e) else entry_at (blanked kept older) k) ≡ option_map (blank kept) (if b then Some e else entry_at older k)
    by_place true later = refl
    by_place false later = later

-- THE NEXT TASK

-- a message was posted to a document of the renderer
pub record IsPosted (r : ℕ) (log : List Entry) (doc post : ℕ) : Type 0 where
  pub message : Entry
  pub from : ℕ
  pub origin : Origin
  pub target : Target
  pub body : Data
  pub stands : entry_at log post ≡ Some message
  pub posted : message.what ≡ Post doc from origin target body
  pub home : home_of (tree_of log) doc ≡ r

stands_at : (t : Tree) (log : List Entry) → AllStand t log → (k : ℕ) (e : Entry) → entry_at log k ≡ Some e → TaskStands t e.what
stands_at t [] all k e at = absurd (none_stands k e at)
stands_at t (x ∷ older) all k e at = elim (entry_cases x older k e at) as (λ _. TaskStands t e.what) [
  | inl p ↦ subst (λ (y : Entry). TaskStands t y.what) p.1 all.0
  | inr p ↦ stands_at t older all.1 k e p.1
]

-- that document is there
pub message_there : (r : ℕ) (log : List Entry) (doc post : ℕ) → AreAdmitted log → IsPosted r log doc post → doc < (tree_of log).docs
message_there r log doc post all m = subst (TaskStands (tree_of log)) m.posted (stands_at (tree_of log) log (tasks_stand log all) post m.message m.stands)

-- a task commits a document, ends a message to a document of the renderer, or ends a window; a message fires where its document is active
abbrev pub IsTaken : ℕ → List Entry → What → Type 0
IsTaken r log (Commit nav doc begin) = Unit {0}
IsTaken r log (Fire doc post) = IsPosted r log doc post × (is_active (tree_of log) doc ≡ true)
IsTaken r log (Lapse doc post cause) = home_of (tree_of log) doc ≡ r
IsTaken r log (Gone nav) = Unit {0}
IsTaken r log _ = ⊥

module _ (r : ℕ) (log : List Entry) where
  load_taken : (place nav : ℕ) (load : Option Load) (what : What) → load_task (tree_of log) r place nav load ≡ Some what → IsTaken r log what
  load_taken place nav None what h = absurd cc
  load_taken place nav (Some load) what h = by_test (load_waits (tree_of log) r nav load) h
    where
      by_test : (b : Bool) → (if b then Some (Commit nav load.doc place) else None) ≡ Some what → IsTaken r log what
      by_test false e = absurd cc
      by_test true e = let same : Commit nav load.doc place ≡ what = cc in subst (IsTaken r log) same tt

  closing_taken : (nav : ℕ) (b : Bool) (what : What) → (if b then Some (Gone nav) else None) ≡ Some what → IsTaken r log what
  closing_taken nav false what h = absurd cc
  closing_taken nav true what h = let same : Gone nav ≡ what = cc in subst (IsTaken r log) same tt

  delivery_taken : (place to : ℕ) (target : Target) → IsPosted r log to place → IsTaken r log (delivery (tree_of log) place to target)
  delivery_taken place to target m = by_test (is_active (tree_of log) to) (is_for target (origin_of (tree_of log) to)) refl
    where
      by_test : (a b : Bool) → is_active (tree_of log) to ≡ a → IsTaken r log (if not a then Lapse to place causes.Inactive else if b then Fire to place else Lapse to place causes.Origin)
      by_test false b e = m.home
      by_test true true e = (m, e)
      by_test true false e = m.home

  message_taken : (over : ℕ → ℕ → Bool) (place to from : ℕ) (origin : Origin) (target : Target) (body : Data) (e : Entry) (what : What) → entry_at log place ≡ Some e → e.what ≡ Post to from origin target body
      → (b : Bool) → (home_of (tree_of log) to == r && not (over to place)) ≡ b → (if b then Some (delivery (tree_of log) place to target) else None) ≡ Some what → IsTaken r log what
  message_taken over place to from origin target body e what stands posted false is h = absurd cc
  message_taken over place to from origin target body e what stands posted true is h =
      let same : delivery (tree_of log) place to target ≡ what = cc in
      let home : home_of (tree_of log) to ≡ r = eqb-true (home_of (tree_of log) to) r (both (home_of (tree_of log) to == r) (not (over to place)) is).0 in
      subst (IsTaken r log) same
      (delivery_taken place to target (record { message = e; from = from; origin = origin; target = target; body = body; stands = stands; posted = posted; home = home }))

  -- what an entry leaves to be done
  task_taken : (over : ℕ → ℕ → Bool) (place : ℕ) (e : Entry) (what : What) → entry_at log place ≡ Some e → (w : What) → e.what ≡ w → task_of (tree_of log) over r place w ≡ Some what → IsTaken r log what
  task_taken over place e what stands (Open nav _ _ _ _ _ _ _ _ load) is h = load_taken place nav load what h
  task_taken over place e what stands (Frame nav _ _ _ _ _ load) is h = load_taken place nav load what h
  task_taken over place e what stands (Begin nav load) is h = load_taken place nav (Some load) what h
  task_taken over place e what stands (Post to from origin target body) is h =
      message_taken over place to from origin target body e what stands is (home_of (tree_of log) to == r && not (over to place)) refl h
  task_taken over place e what stands (Closing nav) is h = closing_taken nav (home_of (tree_of log) ((tree_of log).nav nav).active == r && not (is_discarded (tree_of log) nav)) what h
  task_taken over place e what stands w is h = absurd cc

  first_of : (what : What) → next_task log r ≡ Some what → IsFirst (tree_of log) (is_over log) r log what
  unfolding next_task
  first_of what h = first_is (tree_of log) (is_over log) r log what h

  pub next_taken : (what : What) → next_task log r ≡ Some what → IsTaken r log what
  next_taken what h = let f = first_of what h in task_taken (is_over log) f.place f.entry what f.stands f.entry.what refl f.leaves

-- ITS ENTRY

kept_or : (b : Bool) (e : Entry) → b ≡ true → (if not b then hidden else e) ≡ e
kept_or true e h = refl
kept_or false e h = absurd cc

-- the entry of a task is told whole
told_task : (r : ℕ) (log : List Entry) (what : What) → IsTaken r log what → blank (is_homed (tree_of (task_entry r what ∷ log)) r) (task_entry r what) ≡ task_entry r what
unfolding tree_of
told_task r log (Commit nav doc begin) taken = refl
told_task r log (Fire doc post) taken = kept_or (home_of (tree_of log) doc == r) (task_entry r (Fire doc post)) (eq-eqb (home_of (tree_of log) doc) r taken.0.home)
told_task r log (Lapse doc post cause) taken = kept_or (home_of (tree_of log) doc == r) (task_entry r (Lapse doc post cause)) (eq-eqb (home_of (tree_of log) doc) r taken)
told_task r log (Gone nav) taken = refl
told_task r log _ taken = absurd taken

-- where it stands in what is told
pub told_entry : (r : ℕ) (log : List Entry) (what : What) → IsTaken r log what → entry_at (told_log r (task_entry r what ∷ log)) (length log) ≡ Some (task_entry r what)
told_entry r log what taken =
    let first : Entry = blank (is_homed (tree_of (task_entry r what ∷ log)) r) (task_entry r what) in
    ap (entry_at (first ∷ told_log r log)) (sym (told_length r log)) ∙ entry_newest first (told_log r log) ∙ ap Some (told_task r log what taken)

-- a message to a kept document is told whole
message_kept : (kept : ℕ → Bool) (e : Entry) (doc from : ℕ) (origin : Origin) (target : Target) (body : Data) → kept doc ≡ true → e.what ≡ Post doc from origin target body → (blank kept e).what ≡ e.what
message_kept kept e doc from origin target body h is =
    ap (λ (w : What). (if is_hidden kept w then hidden else record { by = e.by; actor = e.actor; what = blank_what kept w }).what) is
    ∙ ap (λ (x : Entry). x.what) (kept_or (kept doc) (record { by = e.by; actor = e.actor; what = Post doc from origin target body }) h)
    ∙ sym is

-- the task writes the same by what is told as by the log
pub told_written : (r : ℕ) (log : List Entry) (what : What) (registers : ℕ → List ℕ → Value) → AreAdmitted log → IsTaken r log what
    → task_written (told_log r (task_entry r what ∷ log)) what registers ≡ task_written (task_entry r what ∷ log) what registers
told_written r log (Commit nav doc begin) registers all taken = refl
told_written r log (Fire doc post) registers all taken =
    let m = taken.0 in
    let e : Entry = task_entry r (Fire doc post) in
    let kept : ℕ → Bool = is_homed (tree_of log) r in
    let first : Entry = blank (is_homed (tree_of (e ∷ log)) r) e in
    let below : post < length log = entry_below log post m.message m.stands in
    let here : entry_at (e ∷ log) post ≡ Some m.message = older_entry e log post below ∙ m.stands in
    let there : entry_at (first ∷ told_log r log) post ≡ Some (blank kept m.message) =
    older_entry first (told_log r log) post (omega (arith, told_length r log)) ∙ ap (λ (l : List Entry). entry_at l post) (sym (told-blanked r log all)) ∙ blanked_at kept log post ∙ ap (option_map (blank kept)) m.stands in
    let same : (blank kept m.message).what ≡ m.message.what = message_kept kept m.message doc m.from m.origin m.target m.body (eq-eqb (home_of (tree_of log) doc) r m.home) m.posted in
    ap (λ (o : Option Entry). option_map_or (λ (x : Entry). message_written doc x.what registers) o registers) there
    ∙ ap (λ (w : What). message_written doc w registers) same
    ∙ ap (λ (o : Option Entry). option_map_or (λ (x : Entry). message_written doc x.what registers) o registers) (sym here)
told_written r log (Lapse doc post cause) registers all taken = refl
told_written r log (Gone nav) registers all taken = refl
told_written r log _ registers all taken = absurd taken
