-- A worker that was told hears the whole log.
use Rattle.std.proofs.Common.{◌≡◌, ℕ, ◌+◌, ◌^◌, ◌<◌, ◌≤◌, List, [], ◌∷◌, ◌++◌, length, reverse, get_or, Some, None, Bool, true, false, sym, ap, subst, ◌∙◌, arith}
use Rattle.std.specs.Prelude.{IsTrue}
use Rattle.std.proofs.lemmas.List.{reverse-append, reverse-reverse, length-reverse}
use Rattle.tree_log.specs.declared.entry.Entry.{Entry}
use Rattle.tree_log.specs.declared.entry.What.{What}
use Rattle.tree_log.specs.declared.entry.What.TheVariants.{Commit}
use Rattle.tree_log.specs.Log.{prefix}
use Rattle.tree_log.specs.Tree.{Tree, tree_of, tree_of_step}
use Rattle.tree_log.specs.Urls.{url_of}
use Rattle.tree_log.specs.Admits.{has, admits, AreAdmitted}
use Rattle.tree_log.proofs.Places.{prefix_more, prefix_length}
use Rattle.tree_log.proofs.Admitted.{both, lt_of, what_admitted}
use Rattle.agent_terms.specs.declared.act.Act.{Act}
use Rattle.agent_terms.specs.declared.act.Act.TheVariants.{Task}
use Rattle.agent_terms.specs.declared.act.TaskKind.{TaskKind}
use Rattle.agent_terms.specs.declared.act.Running.{Running}
use Rattle.agent_terms.specs.declared.act.Point.TheVariants.{Script}
use Rattle.coordinator_rules.specs.NextTask.{next_task, task_entry}
use Rattle.single_agent.specs.Running.{starts}
use Rattle.single_agent.specs.NextAct.{kind_of}
use Rattle.single_agent.specs.Turns.{HasRoom}
use Rattle.single_agent.proofs.Admitted.{task_admitted}
use Rattle.session_player.specs.declared.desk.Told.{Told}
use Rattle.session_player.specs.Growing.{grow, grow_urls, AllFollow}
use Rattle.session_player.specs.Quiet.{is_commit}
use Rattle.session_player.specs.Serves.{Ledger, Tells}
use Rattle.session_player.specs.declared.worker.Turn.TheVariants.{Acted, Idle}
use Rattle.session_player.specs.Steps.{Holds, IsTied, HeardAll, TakeEnds}
use Rattle.session_player.proofs.Growth.{grown, grown_urls, all_follow, docs_later}

-- what was heard is the log as it was told before
heard_front : (r : ℕ) (w : Holds) (l m : Ledger) (own : List Entry) → IsTied r w l → m.log ≡ own ++ l.log → prefix w.heard l.log ≡ prefix (get_or l.told r 0) m.log
heard_front r w l m own tied more =
    sym (prefix_more own l.log w.heard tied.within) ∙ ap (λ k. prefix k (own ++ l.log)) tied.heard ∙ ap (prefix (get_or l.told r 0)) (sym more)

pub heard_all : (r : ℕ) (w v : Holds) (l m : Ledger) (own : List Entry) (told : Told) → IsTied r w l → m.log ≡ own ++ l.log → Tells r l.told m told
    → v.tree ≡ grow w.tree told.news.items → v.urls ≡ grow_urls w.urls told.news.items → v.heard ≡ told.upto → HeardAll r l v m
heard_all r w v l m own told tied more tells tree urls heard =
    let front = heard_front r w l m own tied more in
    record {
      heard = heard ∙ tells.upto;
      tree =
          tree ∙ ap (λ t. grow t told.news.items) (tied.tree ∙ ap tree_of front) ∙ grown told.news.items (prefix (get_or l.told r 0) m.log) ∙ ap tree_of (sym tells.news);
      urls =
          urls ∙ ap (λ u. grow_urls u told.news.items) (tied.urls ∙ ap url_of front) ∙ grown_urls told.news.items (prefix (get_or l.told r 0) m.log) ∙ ap url_of (sym tells.news);
      told = tells.noted;
    }

-- each of the news can follow
pub news_follow : (r : ℕ) (w : Holds) (l m : Ledger) (own : List Entry) (told : Told) → IsTied r w l → m.log ≡ own ++ l.log → Tells r l.told m told → AreAdmitted m.log → AllFollow w.tree told.news.items
news_follow r w l m own told tied more tells all =
    let front = heard_front r w l m own tied more in
    subst (λ (t : Tree). AllFollow t told.news.items) (sym (tied.tree ∙ ap tree_of front)) (all_follow told.news.items (prefix (get_or l.told r 0) m.log) (subst AreAdmitted tells.news all))

-- the last of the news is the newest entry
last_of : (back base older : List Entry) (e : Entry) → e ∷ older ≡ back ++ base → length base ≤ length older → (before : List Entry) × (reverse back ≡ before ++ e ∷ [])
last_of [] base older e same short = let long = ap length same in absurd (omega arith)
last_of (x ∷ back) base older e same short = let first : e ≡ x = cc in (reverse back, reverse-append (x ∷ []) back ∙ ap (λ y. reverse back ++ y ∷ []) (sym first))

pub front_last : (news base older : List Entry) (e : Entry) → e ∷ older ≡ reverse news ++ base → length base ≤ length older → (before : List Entry) × (news ≡ before ++ e ∷ [])
front_last news base older e same short = let last = last_of (reverse news) base older e same short in (last.0, sym (reverse-reverse news) ∙ last.1)

-- a task's entry can follow, and then the log is admitted with it
pub admitted_more : (l m : Ledger) (r : ℕ) (what : What) → AreAdmitted l.log → length l.log < 2 ^ 30 → next_task l.log r ≡ Some what → m.log ≡ task_entry r what ∷ l.log → AreAdmitted m.log
admitted_more l m r what all few next more = subst AreAdmitted (sym more) (task_admitted l.log r what all few next, all)

-- the document whose script a task starts is there
pub script_there : (log : List Entry) (r place : ℕ) (what : What) (run : Running) → IsTrue (admits (tree_of log) (task_entry r what)) → is_commit what ≡ true → starts place what ≡ Some run
    → run.doc < (tree_of (task_entry r what ∷ log)).docs
script_there log r place (Commit nav doc begin) run h commits is =
    let t = tree_of log in
    let same : record { doc = doc; point = Script 0 } ≡ run = cc in
    let last = both _ _ (what_admitted t (task_entry r (Commit nav doc begin)) h) in
    let four = both _ _ last.0 in
    let three = both _ (has t.docs doc) four.0 in
    let there : doc < t.docs = lt_of doc t.docs three.1 in
    let later : t.docs ≤ (tree_of (task_entry r (Commit nav doc begin) ∷ log)).docs =
    subst (λ (u : Tree). t.docs ≤ u.docs) (sym (tree_of_step (task_entry r (Commit nav doc begin)) log)) (docs_later t (task_entry r (Commit nav doc begin))) in
    let doc_is = ap (λ (q : Running). q.doc) same in
    omega arith
script_there log r place _ run h commits is = absurd cc

-- one act more
pub task_more : (xs ys : List Act) (at n k place : ℕ) (kind : TaskKind) → ys ≡ xs ++ Task at kind place ∷ [] → at ≡ n → place ≡ k → reverse ys ≡ Task n kind k ∷ reverse xs
task_more xs ys at n k place kind e p q = ap reverse e ∙ reverse-append xs (Task at kind place ∷ []) ∙ ap (λ j. Task j kind place ∷ reverse xs) p ∙ ap (λ j. Task n kind j ∷ reverse xs) q

pub few_acts : (xs : List Act) (n : ℕ) → length xs < n → length (reverse xs) < n
few_acts xs n h = omega (arith, length-reverse xs)

pub many_acts : (xs : List Act) (n : ℕ) → n ≤ length xs → n ≤ length (reverse xs)
many_acts xs n h = omega (arith, length-reverse xs)

-- HOW TAKING A TASK ENDS

-- a worker that is tied finds each of the news to follow
pub hears_all : (r : ℕ) (w : Holds) (l m : Ledger) (own : List Entry) (told : Told) (b : Bool) → IsTied r w l → m.log ≡ own ++ l.log → Tells r l.told m told → AreAdmitted m.log
    → (AllFollow w.tree told.news.items → IsTrue b) → b ≡ false → ⊥
hears_all r w l m own told b tied more tells all heard not_all =
    let yes : b ≡ true = heard (news_follow r w l m own told tied more tells all) in
    let clash : true ≡ false = sym yes ∙ not_all in
    absurd cc

pub took_none : (r : ℕ) (w v : Holds) (l m : Ledger) (told : Told) → IsTied r w l → HasRoom l.log → next_task l.log r ≡ None → m.log ≡ l.log → Tells r l.told m told
    → v.acts ≡ w.acts → v.run ≡ None → v.registers ≡ w.registers → v.stores ≡ w.stores → v.tree ≡ grow w.tree told.news.items → v.urls ≡ grow_urls w.urls told.news.items → v.heard ≡ told.upto → TakeEnds r w l Idle v m
took_none r w v l m told tied room none log tells acts run registers stores tree urls heard =
    (room, record { none = none; acts = acts; run = run; registers = registers; stores = stores; log = log; all = heard_all r w v l m [] told tied log tells tree urls heard })

-- the base of the news of a task is no longer than the log before
base_short : (r : ℕ) (w : Holds) (l m : Ledger) (what : What) → IsTied r w l → m.log ≡ task_entry r what ∷ l.log → length (prefix (get_or l.told r 0) m.log) ≤ length l.log
base_short r w l m what tied log =
    let longer = ap length log in
    let within = tied.within in
    let heard = tied.heard in
    let at = prefix_length m.log (get_or l.told r 0) (omega arith) in
    omega arith

pub task_last : (r : ℕ) (w : Holds) (l m : Ledger) (what : What) (told : Told) → IsTied r w l → m.log ≡ task_entry r what ∷ l.log → Tells r l.told m told
    → (before : List Entry) × (told.news.items ≡ before ++ task_entry r what ∷ [])
task_last r w l m what told tied log tells =
    front_last told.news.items (prefix (get_or l.told r 0) m.log) l.log (task_entry r what) (sym log ∙ tells.news) (base_short r w l m what tied log)

-- what a task starts is there
pub started_there : (r place : ℕ) (w v : Holds) (l m : Ledger) (what : What) → IsTied r w l → HasRoom l.log → next_task l.log r ≡ Some what → is_commit what ≡ true → m.log ≡ task_entry r what ∷ l.log → HeardAll r l v m
    → (run : Running) → starts place what ≡ Some run → run.doc < v.tree.docs
started_there r place w v l m what tied room next commits log all run is =
    let there = script_there l.log r place what run (task_admitted l.log r what tied.admitted (omega (arith, room)) next) commits is in
    subst (λ (t : Tree). run.doc < t.docs) (sym (all.tree ∙ ap tree_of log)) there

pub took_task : (r : ℕ) (w v : Holds) (l m : Ledger) (what : What) (xs ys : List Act) (at place : ℕ) (kind : TaskKind) → HasRoom l.log → next_task l.log r ≡ Some what → is_commit what ≡ true
    → m.log ≡ task_entry r what ∷ l.log → HeardAll r l v m
    → w.acts ≡ reverse xs → v.acts ≡ reverse ys → ys ≡ xs ++ Task at kind place ∷ [] → at ≡ v.heard → place ≡ length l.log → kind ≡ kind_of what → v.run ≡ starts (length l.log) what → v.registers ≡ w.registers → v.stores ≡ w.stores → TakeEnds r w l Acted v m
took_task r w v l m what xs ys at place kind room next commits log all old new pushed is_at is_place is_kind run registers stores =
    let longer : length m.log ≡ length l.log + 1 = ap length log ∙ (omega arith) in (
      room,
      record {
        what = what;
        next = next;
        commits = commits;
        acts = new ∙ task_more xs ys at (length l.log + 1) (length l.log) place kind pushed (is_at ∙ all.heard ∙ longer) is_place
            ∙ ap (λ k. Task (length l.log + 1) k (length l.log) ∷ reverse xs) is_kind ∙ ap (λ acts. Task (length l.log + 1) (kind_of what) (length l.log) ∷ acts) (sym old);
        run = run;
        registers = registers;
        stores = stores;
        log = log;
        all = all;
      },
    )
