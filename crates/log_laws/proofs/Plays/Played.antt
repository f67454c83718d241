-- In a played log only loaded documents act.
use Rattle.std.proofs.Common.{◌≡◌, ℕ, ◌+◌, ◌<◌, ◌^◌, List, [], ◌∷◌, ◌++◌, length, codes, Option, Some, None, Bool, true, false, refl, sym, subst, ap, ◌∙◌, ◌&&◌, not, if◌then◌else◌, arith, inl, inr}
use Rattle.std.specs.Prelude.{slice_get, option_and_then, find, All, bytes_eq, nat_le}
use Rattle.std.specs.Option.{option_map}
use Rattle.std.proofs.lemmas.Bool.{false≢true}
use Rattle.std.proofs.lemmas.List.Elements.{All-head, All-tail}
use Rattle.std.proofs.lemmas.Slice.Eq.{bytes_eq-Decides}
use Rattle.url.proofs.OnLiterals.{url_on_literals}
use Rattle.origin_core.specs.Flags.{has_scripts}
use Rattle.origin_core.specs.Page.{is_web_text, without_fragment}
use Rattle.tree_log.specs.declared.entry.Entry.{Entry}
use Rattle.tree_log.specs.declared.entry.What.{What}
use Rattle.tree_log.specs.declared.entry.What.TheVariants.{Commit, Fire}
use Rattle.tree_log.specs.Log.{entry_at, prefix}
use Rattle.tree_log.specs.Tree.{Tree, tree_of, tree_of_step, nav_of, is_active}
use Rattle.tree_log.specs.Urls.{url_of}
use Rattle.tree_log.specs.Admits.{admits, AreAdmitted}
use Rattle.agent_terms.specs.declared.session.Page.{Page}
use Rattle.agent_terms.specs.declared.session.Session.{Session}
use Rattle.agent_terms.specs.declared.step.OpName.{OpName}
use Rattle.agent_terms.specs.declared.step.Step.{Step}
use Rattle.agent_terms.specs.declared.request.Request.{Request}
use Rattle.agent_terms.specs.declared.request.Request.TheVariants as ask
use Rattle.agent_terms.specs.declared.act.Act.{Act}
use Rattle.agent_terms.specs.declared.act.Act.TheVariants.{Step as StepAct, Task, LostTask}
use Rattle.agent_terms.specs.declared.act.Move.TheVariants.{Stays}
use Rattle.agent_terms.specs.declared.act.Performed.{Performed}
use Rattle.agent_terms.specs.declared.act.Performed.TheVariants.{Answer, Ask}
use Rattle.agent_terms.specs.declared.act.Running.{Running}
use Rattle.agent_terms.specs.declared.act.Point.{Point}
use Rattle.agent_terms.specs.declared.act.Point.TheVariants.{Script, Handler}
use Rattle.single_agent.specs.LegalLog.{lost_entry}
use Rattle.single_agent.specs.Session.{starts_of, started, start_entry, steps_in, steps_at, steps_of, lose_of}
use Rattle.coordinator_rules.specs.NextTask.{next_task, task_entry}
use Rattle.coordinator_rules.specs.Decision.{Rules, rules_of, exchange, task_decision}
use Rattle.object_access.specs.StepAnswer.{Sight, perform}
use Rattle.single_agent.specs.Lengths.{newest_length, has_stopped}
use Rattle.single_agent.specs.Running.{starts, made_before, next_point, one_more, running, Left, left_at, left_on, step_left}
use Rattle.single_agent.specs.Sights.{sight}
use Rattle.single_agent.specs.NextMove.{op_of, move_by, move_of, next_move, move_request}
use Rattle.single_agent.specs.LostAct.{exchanged}
use Rattle.single_agent.specs.NextAct.{MovesTo, IsActOn}
use Rattle.single_agent.specs.Turns.{Turned, log_of, record_of, told_length, is_full, is_served, loses_next, Plays, ArePlayed}
use Rattle.single_agent.proofs.Admitted.{task_admitted}
use Rattle.single_agent.proofs.Played.{legal_log}
use Rattle.agent_laws.specs.Actors.{AreActedBy}
use Rattle.log_laws.specs.Homes.{ActorsLoaded, HasWebPages, is_loaded}
use Rattle.agent_laws.proofs.Logs.Fence.{fence}
use Rattle.agent_laws.proofs.Logs.Admitted.{start_fits, started_length, exchange_admitted, longer, legal_admitted}
use Rattle.log_laws.proofs.Plays.Commits.{WasLoaded, loaded_later, IsCommitLoaded, CommitsLoaded, commits_later, next_task_loaded, acted_commits_none, commits_before, commit_at}
use Rattle.agent_laws.proofs.Logs.Asked.{IsOf, IsAskedBy, asked_by}
use Rattle.log_laws.proofs.Plays.InitialUrls.{IsBlank, IsLoadedOrBlank, AllLoadedOrBlank, blank_before, legal_blank}

-- WHAT RUNS

-- a script runs in a document that was loaded
abbrev RunsAt : Tree → ℕ → Point → Type 0
RunsAt t d (Script made) = WasLoaded t d
RunsAt t d (Handler place made) = Unit {0}

abbrev IsRunning : Tree → Option Running → Type 0
IsRunning t None = Unit {0}
IsRunning t (Some run) = RunsAt t run.doc run.point

task_runs : (t : Tree) (place : ℕ) (w : What) → IsCommitLoaded t w → IsRunning t (starts place w)
task_runs t place (Commit nav doc begin) l = l
task_runs t place (Fire doc post) l = tt
task_runs t place w l = tt

found_runs : (t : Tree) (log : List Entry) (place : ℕ) → CommitsLoaded t log → (o : Option Entry) → entry_at log place ≡ o → IsRunning t (option_and_then (λ (e : Entry). starts place e.what) o)
found_runs t log place l None is = tt
found_runs t log place l (Some e) is = task_runs t place e.what (commit_at t log place e l is)

next_runs : (t : Tree) (d : ℕ) (point : Point) → RunsAt t d point → RunsAt t d (next_point point)
next_runs t d (Script made) l = l
next_runs t d (Handler place made) l = tt

one_more_runs : (t : Tree) (o : Option Running) → IsRunning t o → IsRunning t (option_map one_more o)
one_more_runs t None l = tt
one_more_runs t (Some run) l = next_runs t run.doc run.point l

running_loaded : (log : List Entry) (acts : List Act) → CommitsLoaded (tree_of log) log → IsRunning (tree_of log) (running log acts)
unfolding running
running_loaded log [] l = tt
running_loaded log (Task at kind place ∷ older) l = found_runs (tree_of log) (prefix at log) place (commits_before (tree_of log) at log l) (entry_at (prefix at log) place) refl
running_loaded log (StepAct at doc point op answer ∷ older) l = one_more_runs (tree_of log) (running log older) (running_loaded log older l)
running_loaded log (LostTask at ∷ older) l = tt

-- PAGES

blank_is_no_page : is_web_text (codes "about:blank") ≡ false
unfolding url_on_literals
blank_is_no_page = refl

abbrev IsWeb : Page → Type 0
IsWeb page = is_web_text page.url ≡ true

none_blank : (pages : List Page) → All IsWeb pages → find (λ (page : Page). bytes_eq page.url (codes "about:blank")) pages ≡ None
none_blank [] web = refl
none_blank (page ∷ pages) web = by_test (bytes_eq page.url (codes "about:blank")) refl (none_blank pages (All-tail IsWeb page pages web))
  where
    by_test : (b : Bool) → bytes_eq page.url (codes "about:blank") ≡ b → find (λ (p : Page). bytes_eq p.url (codes "about:blank")) pages ≡ None
        → (if b then Some page else find (λ (p : Page). bytes_eq p.url (codes "about:blank")) pages) ≡ None
    by_test true is rest = absurd (false≢true (sym blank_is_no_page ∙ ap is_web_text (sym ((bytes_eq-Decides page.url (codes "about:blank")).0 is)) ∙ All-head IsWeb page pages web))
    by_test false is rest = rest

none_in : (point : Point) → steps_in point None ≡ []
none_in (Script made) = refl
none_in (Handler place made) = refl

-- a document at `about:blank` has no steps
no_steps : (s : Session) (t : Tree) (urls : ℕ → List ℕ) (d : ℕ) (point : Point) → HasWebPages s → IsBlank (urls d) → steps_of s t urls d point ≡ []
unfolding steps_of steps_at
no_steps s t urls d point web blank = by_test (has_scripts (t.nav (nav_of t d)).made.flags)
  where
    no_page : find (λ (page : Page). bytes_eq page.url (without_fragment (urls d))) s.pages ≡ None
    no_page = ap (λ (url : List ℕ). find (λ (page : Page). bytes_eq page.url url) s.pages) blank ∙ none_blank s.pages web

    by_test : (b : Bool) → (if b then [] else steps_in point (find (λ (page : Page). bytes_eq page.url (without_fragment (urls d))) s.pages)) ≡ []
    by_test true = refl
    by_test false = ap (steps_in point) no_page ∙ none_in point

-- WHAT IS LEFT

abbrev IsLeft : Tree → Option Left → Type 0
IsLeft t None = Unit {0}
IsLeft t (Some left) = WasLoaded t left.doc

mapped_left : (t : Tree) (run : Running) → WasLoaded t run.doc → (o : Option Step) → IsLeft t (option_map (left_at run) o)
mapped_left t run l None = tt
mapped_left t run l (Some does) = l

active_left : (t : Tree) (run : Running) (b : Bool) (o : Option Step) → IsLeft t (option_map (left_at run) o) → IsLeft t (if b then option_map (left_at run) o else None)
active_left t run true o l = l
active_left t run false o l = tt

loaded_now : (k : ℕ) (log : List Entry) (d : ℕ) → AreAdmitted log → WasLoaded (tree_of (prefix k log)) d → WasLoaded (tree_of log) d
unfolding prefix
loaded_now k [] d all l = l
loaded_now k (e ∷ older) d all l = by_test (nat_le k (length older)) (loaded_now k older d all.1) l
  where
    by_test : (b : Bool) → (WasLoaded (tree_of (prefix k older)) d → WasLoaded (tree_of older) d) → WasLoaded (tree_of (if b then prefix k older else e ∷ older)) d → WasLoaded (tree_of (e ∷ older)) d
    by_test true later m = subst (λ (t : Tree). WasLoaded t d) (sym (tree_of_step e older)) (loaded_later (tree_of older) e d all.0 (later m))
    by_test false later m = m

-- a handler has a step only in a document that was loaded, since others are at `about:blank`
handler_left : (s : Session) (k : ℕ) (log : List Entry) (run : Running) → HasWebPages s → AreAdmitted log → IsLoadedOrBlank (tree_of (prefix k log)) (url_of (prefix k log)) run.doc
    → IsLeft (tree_of log) (option_map (left_at run) (slice_get (steps_of s (tree_of (prefix k log)) (url_of (prefix k log)) run.doc run.point) (made_before run.point)))
handler_left s k log run web all (inl l) = mapped_left (tree_of log) run (loaded_now k log run.doc all l) (slice_get (steps_of s (tree_of (prefix k log)) (url_of (prefix k log)) run.doc run.point) (made_before run.point))
handler_left s k log run web all (inr blank) =
    subst (λ (steps : List Step). IsLeft (tree_of log) (option_map (left_at run) (slice_get steps (made_before run.point)))) (sym (no_steps s (tree_of (prefix k log)) (url_of (prefix k log)) run.doc run.point web blank))
    (none_left (made_before run.point))
  where
    none_left : (n : ℕ) → IsLeft (tree_of log) (option_map (left_at run) (slice_get [] n))
    none_left n = tt

point_left : (s : Session) (k : ℕ) (log : List Entry) (run : Running) → HasWebPages s → AreAdmitted log → AllLoadedOrBlank log → (point : Point) → run.point ≡ point → RunsAt (tree_of log) run.doc point
    → IsLeft (tree_of log) (option_map (left_at run) (slice_get (steps_of s (tree_of (prefix k log)) (url_of (prefix k log)) run.doc run.point) (made_before run.point)))
point_left s k log run web all blank (Script made) is l = mapped_left (tree_of log) run l (slice_get (steps_of s (tree_of (prefix k log)) (url_of (prefix k log)) run.doc run.point) (made_before run.point))
point_left s k log run web all blank (Handler place made) is l = handler_left s k log run web all (blank_before k log blank run.doc)

run_left : (s : Session) (k : ℕ) (log : List Entry) → HasWebPages s → AreAdmitted log → AllLoadedOrBlank log → (o : Option Running) → IsRunning (tree_of log) o
    → IsLeft (tree_of log) (option_and_then (left_on s (tree_of (prefix k log)) (url_of (prefix k log))) o)
run_left s k log web all blank None l = tt
run_left s k log web all blank (Some run) l =
    active_left (tree_of log) run (is_active (tree_of (prefix k log)) run.doc) (slice_get (steps_of s (tree_of (prefix k log)) (url_of (prefix k log)) run.doc run.point) (made_before run.point))
    (point_left s k log run web all blank run.point refl l)

-- a step that is left is of a document that was loaded
step_loaded : (s : Session) (log : List Entry) (acts : List Act) → HasWebPages s → AreAdmitted log → AllLoadedOrBlank log → CommitsLoaded (tree_of log) log → IsLeft (tree_of log) (step_left s log acts)
unfolding step_left
step_loaded s log acts web all blank l = run_left s (newest_length acts) log web all blank (running log acts) (running_loaded log acts l)

-- WHAT A LOG KEEPS

pub record IsPlayed (log : List Entry) : Type 0 where
  pub all : AreAdmitted log
  pub commits : CommitsLoaded (tree_of log) log
  pub actors : ActorsLoaded log

-- one more entry
one_played : (log : List Entry) (e : Entry) → admits (tree_of log) e ≡ true → IsPlayed log → IsCommitLoaded (tree_of (e ∷ log)) e.what → ((a : ℕ) → e.actor ≡ Some a → is_loaded (tree_of log) a ≡ true) → IsPlayed (e ∷ log)
one_played log e h p commit actor = record {
  all = (h, p.all);
  commits = (commit, subst (λ (t : Tree). CommitsLoaded t log) (sym (tree_of_step e log)) (commits_later (tree_of log) e log h p.commits));
  actors = (actor, p.actors);
}

loaded_after : (log : List Entry) (e : Entry) (d : ℕ) → admits (tree_of log) e ≡ true → WasLoaded (tree_of log) d → WasLoaded (tree_of (e ∷ log)) d
loaded_after log e d h l = subst (λ (t : Tree). WasLoaded t d) (sym (tree_of_step e log)) (loaded_later (tree_of log) e d h l)

acted_by : (log : List Entry) (e : Entry) (asker : ℕ) → e.actor ≡ Some asker → WasLoaded (tree_of log) asker → (a : ℕ) → e.actor ≡ Some a → is_loaded (tree_of log) a ≡ true
acted_by log e asker is l a other = let one : Some asker ≡ Some a = sym is ∙ other in let same : asker ≡ a = cc in subst (λ (x : ℕ). is_loaded (tree_of log) x ≡ true) same l.was_loaded

acted_commit : (t s : Tree) (e : Entry) (asker : ℕ) → admits t e ≡ true → e.actor ≡ Some asker → IsCommitLoaded s e.what
acted_commit t s e asker h is = acted_commits_none t s e.by asker e.what (subst (λ (o : Option ℕ). admits t (record { by = e.by; actor = o; what = e.what }) ≡ true) is h)

-- entries that a loaded document acts in
entries_played : (log es : List Entry) (r asker : ℕ) → AreAdmitted (es ++ log) → AreActedBy r (Some asker) es → WasLoaded (tree_of log) asker → IsPlayed log → IsPlayed (es ++ log) × WasLoaded (tree_of (es ++ log)) asker
entries_played log [] r asker all acted l p = (p, l)
entries_played log (e ∷ es) r asker all acted l p =
    let older = entries_played log es r asker all.1 acted.1 l p in (
      one_played (es ++ log) e all.0 older.0 (acted_commit (tree_of (es ++ log)) (tree_of (e ∷ (es ++ log))) e asker all.0 acted.0.1) (acted_by (es ++ log) e asker acted.0.1 older.1),
      loaded_after (es ++ log) e asker all.0 older.1,
    )

-- an exchange that a loaded document asks for
exchange_played : (rules : Rules) (log : List Entry) (r d : ℕ) (q : Request) → length log < 2 ^ 30 → IsOf d q → WasLoaded (tree_of log) d → IsPlayed log → IsPlayed ((exchange rules log r q).entries ++ log)
exchange_played rules log r d q short of l p =
    elim (fence rules log r q of.other) as (λ _. IsPlayed ((exchange rules log r q).entries ++ log)) [
      | inl none ↦ subst (λ (es : List Entry). IsPlayed (es ++ log)) (sym none) p
      | inr fenced ↦
          let acted : AreActedBy r (Some d) (exchange rules log r q).entries = subst (λ (x : ℕ). AreActedBy r (Some x) (exchange rules log r q).entries) of.asker fenced.acted in
          (entries_played log (exchange rules log r q).entries r d (exchange_admitted rules log r q p.all short) acted l p).0
    ]

task_played : (log : List Entry) (r : ℕ) (w : What) → length log < 2 ^ 30 → next_task log r ≡ Some w → IsPlayed log → IsPlayed (task_entry r w ∷ log)
task_played log r w short next p =
    let h : admits (tree_of log) (task_entry r w) ≡ true = task_admitted log r w p.all short next in
    let commit : CommitsLoaded (tree_of (task_entry r w ∷ log)) (task_entry r w ∷ []) =
    subst (λ (t : Tree). CommitsLoaded t (task_entry r w ∷ [])) (sym (tree_of_step (task_entry r w) log)) (commits_later (tree_of log) (task_entry r w) (task_entry r w ∷ []) h (next_task_loaded log r w p.all next, tt)) in
    one_played log (task_entry r w) h p commit.0 (λ a is. absurd cc)

-- TURNS

-- a move of what is left
moved : (rules : Rules) (log : List Entry) (r : ℕ) (acts : List Act) (d : ℕ) (point : Point) (op : OpName) (o : Performed) (act : Act) (own : List Entry) → length log < 2 ^ 30 → IsAskedBy d o → WasLoaded (tree_of log) d
    → MovesTo rules r log acts (move_by d point op o) act own → IsPlayed log → IsPlayed (own ++ log)
moved rules log r acts d point op (Answer o) act own short by l m p = subst (λ (es : List Entry). IsPlayed (es ++ log)) (sym m.1) p
moved rules log r acts d point op (Ask q) act own short by l m p = subst (λ (es : List Entry). IsPlayed (es ++ log)) (sym m.0) (exchange_played rules log r d q short by l p)

left_moved : (rules : Rules) (log : List Entry) (r : ℕ) (acts : List Act) (sees : ℕ → Sight) (stops : Bool) (o : Option Left) (act : Act) (own : List Entry) → length log < 2 ^ 30 → IsLeft (tree_of log) o
    → MovesTo rules r log acts (if stops then Stays else move_of sees o) act own → IsPlayed log → IsPlayed (own ++ log)
left_moved rules log r acts sees true o act own short l m p = absurd m
left_moved rules log r acts sees false None act own short l m p = subst (λ (es : List Entry). IsPlayed (es ++ log)) (sym m.2) (task_played log r m.0 short m.1 p)
left_moved rules log r acts sees false (Some left) act own short l m p =
    moved rules log r acts left.doc left.point (op_of left.step) (perform (sees left.doc) left.doc left.step) act own short (asked_by (sees left.doc) left.doc left.step) l m p

act_played : (s : Session) (log : List Entry) (r : ℕ) (acts : List Act) (act : Act) (own : List Entry) → length log < 2 ^ 30 → IsLeft (tree_of log) (step_left s log acts) → IsActOn s r log acts act own → IsPlayed log → IsPlayed (own ++ log)
unfolding next_move
act_played s log r acts act own short l m p = left_moved (rules_of s) log r acts (sight s log acts) (has_stopped acts) (step_left s log acts) act own short l m p

-- the entries of an exchange that is lost
taken_played : (log : List Entry) (r place : ℕ) (o : Option What) → next_task log r ≡ o → length log < 2 ^ 30 → IsPlayed log → IsPlayed ((task_decision r place o).entries ++ log)
taken_played log r place None next short p = p
taken_played log r place (Some w) next short p = task_played log r w short next p

next_played : (rules : Rules) (log : List Entry) (r : ℕ) → length log < 2 ^ 30 → IsPlayed log → IsPlayed ((exchange rules log r ask.Next).entries ++ log)
unfolding exchange
next_played rules log r short p = taken_played log r (length log) (next_task log r) refl short p

asked_played : (rules : Rules) (log : List Entry) (r d : ℕ) (point : Point) (op : OpName) (o : Performed) → length log < 2 ^ 30 → IsAskedBy d o → WasLoaded (tree_of log) d → IsPlayed log
    → IsPlayed (exchanged rules log r (move_request (move_by d point op o)) ++ log)
asked_played rules log r d point op (Answer o) short by l p = p
asked_played rules log r d point op (Ask q) short by l p = exchange_played rules log r d q short by l p

left_lost : (rules : Rules) (log : List Entry) (r : ℕ) (sees : ℕ → Sight) (stops : Bool) (o : Option Left) → length log < 2 ^ 30 → IsLeft (tree_of log) o → IsPlayed log
    → IsPlayed (exchanged rules log r (move_request (if stops then Stays else move_of sees o)) ++ log)
left_lost rules log r sees true o short l p = p
left_lost rules log r sees false None short l p = next_played rules log r short p
left_lost rules log r sees false (Some left) short l p =
    asked_played rules log r left.doc left.point (op_of left.step) (perform (sees left.doc) left.doc left.step) short (asked_by (sees left.doc) left.doc left.step) l p

move_lost : (s : Session) (log : List Entry) (r : ℕ) (acts : List Act) → length log < 2 ^ 30 → IsLeft (tree_of log) (step_left s log acts) → IsPlayed log
    → IsPlayed (exchanged (rules_of s) log r (move_request (next_move s log acts)) ++ log)
unfolding next_move
move_lost s log r acts short l p = left_lost (rules_of s) log r (sight s log acts) (has_stopped acts) (step_left s log acts) short l p

-- and the loss
loss_played : (log : List Entry) (r : ℕ) → admits (tree_of log) (lost_entry r) ≡ true → IsPlayed log → IsPlayed (lost_entry r ∷ log)
loss_played log r h p = one_played log (lost_entry r) h p tt (λ a is. absurd cc)

lost_played : (s : Session) (log : List Entry) (r : ℕ) (acts : List Act) (b : Bool) → AreAdmitted ((lost_entry r ∷ (if b then exchanged (rules_of s) log r (move_request (next_move s log acts)) else [])) ++ log)
    → length log < 2 ^ 30 → IsLeft (tree_of log) (step_left s log acts) → IsPlayed log
    → IsPlayed ((lost_entry r ∷ (if b then exchanged (rules_of s) log r (move_request (next_move s log acts)) else [])) ++ log)
lost_played s log r acts true all short l p = loss_played (exchanged (rules_of s) log r (move_request (next_move s log acts)) ++ log) r all.0 (move_lost s log r acts short l p)
lost_played s log r acts false all short l p = loss_played log r all.0 p

turn_played : (lost : Bool) (s : Session) (log : List Entry) (r : ℕ) (acts : List Act) (told : ℕ) (act : Option Act) (own : List Entry) → AreAdmitted (own ++ log) → length log < 2 ^ 30
    → IsLeft (tree_of log) (step_left s log acts) → Plays lost s r log acts told act own → IsPlayed log → IsPlayed (own ++ log)
turn_played true s log r acts told act own all short l m p =
    let served : Bool = is_served (lose_of s r) && not (is_full log) in
    subst (λ (es : List Entry). IsPlayed (es ++ log)) (sym m.1) (lost_played s log r acts served (subst (λ (es : List Entry). AreAdmitted (es ++ log)) m.1 all) short l p)
turn_played false s log r acts told None own all short l m p = subst (λ (es : List Entry). IsPlayed (es ++ log)) (sym m.1) p
turn_played false s log r acts told (Some act) own all short l m p = act_played s log r acts act own short l m.0 p

start_played : (rules : Rules) (log : List Entry) (urls : List (List ℕ)) → length log + length urls < 2 ^ 30 → IsPlayed log → IsPlayed (started rules log urls)
start_played rules log [] short p = p
start_played rules log (url ∷ urls) short p =
    start_played rules (start_entry rules (tree_of log) url ∷ log) urls (omega arith) (one_played log (start_entry rules (tree_of log) url) (start_fits rules log url (omega arith)).1 p tt (λ a is. absurd cc))

starts_played : (s : Session) → length (starts_of s) < 2 ^ 30 → IsPlayed (starts_of s)
unfolding starts_of
starts_played s short = start_played (rules_of s) [] s.start (let e = started_length (rules_of s) [] s.start in omega arith) (record { all = tt; commits = tt; actors = tt })

-- the log of a play: its entries were admitted
pub played_admitted : (s : Session) (turns : List Turned) → ArePlayed s turns → length (log_of s turns) < 2 ^ 30 → AreAdmitted (log_of s turns)
played_admitted s turns played short = legal_admitted s (log_of s turns) (legal_log s turns played) short

pub turns_played : (s : Session) (turns : List Turned) → HasWebPages s → ArePlayed s turns → length (log_of s turns) < 2 ^ 30 → IsPlayed (log_of s turns)
unfolding log_of
turns_played s [] web played short = starts_played s short
turns_played s (t ∷ older) web played short =
    let log : List Entry = log_of s older in
    let acts : List Act = record_of t.renderer older in
    let before : length log < 2 ^ 30 = omega (arith, longer t.own log) in
    let p : IsPlayed log = turns_played s older web played.1 before in
    turn_played (loses_next s older t.renderer) s log t.renderer acts (told_length s t.renderer older) t.act t.own (played_admitted s (t ∷ older) played short) before
    (step_loaded s log acts web p.all (legal_blank s log (legal_log s older played.1) before) p.commits) played.0.plays p

-- only loaded documents act, where each page has an http or https URL
pub played_actors : (s : Session) (turns : List Turned) → HasWebPages s → ArePlayed s turns → length (log_of s turns) < 2 ^ 30 → ActorsLoaded (log_of s turns)
played_actors s turns web played short = (turns_played s turns web played short).actors
