-- A renderer that was told the log to a place moves as the agent does that reads all of it.
use Rattle.std.proofs.Common.{◌≡◌, ℕ, suc, ◌<◌, List, [], ◌∷◌, length, Option, Some, None, Bool, true, false, refl, sym, ap, subst, ◌∙◌, eq-eqb}
use Rattle.std.specs.Prelude.{nat_le, find, bytes_eq, slice_get, option_and_then, if◌then◌else◌, ◌==◌, ◌||◌}
use Rattle.std.specs.Option.{option_map}
use Rattle.std.proofs.lemmas.Bool.{eqb-true}
use Rattle.origin_core.specs.Page.{without_fragment}
use Rattle.origin_core.specs.Flags.{has_scripts}
use Rattle.window_props.specs.declared.value.Value.{Value}
use Rattle.window_props.specs.declared.platform.Object.{Object}
use Rattle.window_props.specs.History.{Store}
use Rattle.tree_log.specs.declared.entry.Entry.{Entry}
use Rattle.tree_log.specs.Log.{prefix}
use Rattle.tree_log.specs.Tree.{Tree, tree_of, nav_of, home_of, is_active}
use Rattle.tree_log.specs.Urls.{url_of}
use Rattle.tree_log.specs.Admits.{AreAdmitted}
use Rattle.tree_log.specs.Blanking.{blanked, is_homed, is_open_to}
use Rattle.tree_log.proofs.BlankLaws.{tree_of-blanked, url_of-blanked}
use Rattle.agent_terms.specs.declared.session.Session.{Session}
use Rattle.agent_terms.specs.declared.session.Page.{Page}
use Rattle.agent_terms.specs.declared.act.Act.{Act}
use Rattle.agent_terms.specs.declared.act.Move.TheVariants.{Stays}
use Rattle.agent_terms.specs.declared.act.Point.{Point}
use Rattle.agent_terms.specs.declared.act.Running.{Running}
use Rattle.agent_terms.specs.declared.step.Step.{Step}
use Rattle.coordinator_rules.specs.Told.{told_log}
use Rattle.object_access.specs.StepAnswer.{Sight, held, perform, step_stores}
use Rattle.single_agent.specs.Session.{steps_in, steps_at, steps_of}
use Rattle.single_agent.specs.Lengths.{newest_length, has_stopped}
use Rattle.single_agent.specs.Mine.{IsMine}
use Rattle.single_agent.specs.Running.{Left, left_at, left_on, made_before, step_left}
use Rattle.single_agent.specs.NextMove.{op_of, move_by, move_of, next_move}
use Rattle.single_agent.specs.Shown.{is_seen_by, shown_to, document_of, shown_stores}
use Rattle.single_agent.specs.Sights.{registers, sight_on, stores_after, stores, sight}
use Rattle.agent_laws.specs.Belonging.{Belongs, RegistersBelong, IsClosed}
use Rattle.agent_laws.specs.Sights.{sight_of, HoldsKept, HoldsGroup}
use Rattle.agent_laws.proofs.Blanked.BlankedSteps.{sight_with, changed_same}
use Rattle.agent_laws.proofs.Blanked.KeptStores.{perform-blanked, group_kept, sees_itself}
use Rattle.agent_laws.proofs.Groups.ClosedLogs.{closed_before_legal}
use Rattle.agent_laws.proofs.Groups.Reached.{held_belongs}
use Rattle.agent_laws.proofs.Groups.Written.{left_doc}
use Rattle.log_laws.proofs.Homes.Told.{told-blanked, blanked_twice}
use Rattle.log_laws.proofs.Messages.MessageGroups.{admitted_before}
use Rattle.log_laws.proofs.Records.Belonging.{record_registers}
use Rattle.renderer.specs.Holding.{Holds, with_pages, sight_in, left_in, move_in, stores_by}
use Rattle.renderer_laws.specs.Keeping.{FitsRun, IsOwnRun, IsLegal, Keeps}
use Rattle.renderer_laws.proofs.HomedBefore.{open_before}

-- WHAT IT WAS TOLD

told_length : (r : ℕ) (log : List Entry) → length (told_log r log) ≡ length log
told_length r [] = refl
told_length r (e ∷ older) = ap suc (told_length r older)

-- what was told of a log to a place is what is told of the log to there
told_before : (r k : ℕ) (log : List Entry) → prefix k (told_log r log) ≡ told_log r (prefix k log)
unfolding prefix
told_before r k [] = refl
told_before r k (e ∷ older) = rw (told_length r older) (either (nat_le k (length older)) (told_before r k older))
  where
    either : (b : Bool) → prefix k (told_log r older) ≡ told_log r (prefix k older) → (if b then prefix k (told_log r older) else told_log r (e ∷ older)) ≡ told_log r (if b then prefix k older else e ∷ older)
    either true before = before
    either false before = refl

-- the log to a place, blanked for the documents that are homed at renderer r there
abbrev homed_log : ℕ → List Entry → List Entry
homed_log r p = blanked (is_homed (tree_of p) r) p

heard_is : (s : Session) (r : ℕ) (log : List Entry) (acts : List Act) (told : ℕ) (w : Holds) → AreAdmitted log → Keeps s r log acts told w → w.heard ≡ homed_log r (prefix told log)
heard_is s r log acts told w all k = k.heard ∙ told_before r told log ∙ sym (told-blanked r (prefix told log) (admitted_before told log all))

mine_homed : (r : ℕ) (t : Tree) (d : ℕ) → IsMine r t d → is_homed t r d ≡ true
mine_homed r t d mine = eq-eqb (home_of t d) r mine.home

-- THE STEP THAT IS LEFT

-- of a session only its pages say what the steps of a document are, and of URLs only its own
steps_same : (s : Session) (pages : List Page) (t : Tree) (urls others : ℕ → List ℕ) (d : ℕ) (point : Point) → pages ≡ s.pages → urls d ≡ others d → steps_of (with_pages pages) t urls d point ≡ steps_of s t others d point
unfolding steps_of steps_at
steps_same s pages t urls others d point same url =
    ap (λ (ps : List Page). if has_scripts (t.nav (nav_of t d)).made.flags then [] else steps_in point (find (λ (page : Page). bytes_eq page.url (without_fragment (urls d))) ps)) same
    ∙ ap (λ (u : List ℕ). if has_scripts (t.nav (nav_of t d)).made.flags then [] else steps_in point (find (λ (page : Page). bytes_eq page.url (without_fragment u)) s.pages)) url

left_same : (s : Session) (pages : List Page) (t : Tree) (urls others : ℕ → List ℕ) (run : Running) → pages ≡ s.pages → urls run.doc ≡ others run.doc → left_on (with_pages pages) t urls run ≡ left_on s t others run
left_same s pages t urls others run same url =
    ap (λ (steps : List Step). if is_active t run.doc then option_map (left_at run) (slice_get steps (made_before run.point)) else None) (steps_same s pages t urls others run.doc run.point same url)

-- on what was told of a log
left_told : (s : Session) (r : ℕ) (pages : List Page) (p : List Entry) (run : Running) → pages ≡ s.pages → IsMine r (tree_of p) run.doc
    → left_on (with_pages pages) (tree_of (homed_log r p)) (url_of (homed_log r p)) run ≡ left_on s (tree_of p) (url_of p) run
left_told s r pages p run same mine =
    let kept : ℕ → Bool = is_homed (tree_of p) r in
    ap (λ (t : Tree). left_on (with_pages pages) t (url_of (blanked kept p)) run) (tree_of-blanked kept p)
    ∙ left_same s pages (tree_of p) (url_of (blanked kept p)) (url_of p) run same (url_of-blanked kept p run.doc (mine_homed r (tree_of p) run.doc mine))

left_fits : (s : Session) (r : ℕ) (pages : List Page) (log : List Entry) (acts : List Act) (told : ℕ) (heard : List Entry) (run : Option Running) → pages ≡ s.pages → heard ≡ homed_log r (prefix told log)
    → FitsRun s log acts told run → IsOwnRun r (tree_of (prefix told log)) run → option_and_then (left_on (with_pages pages) (tree_of heard) (url_of heard)) run ≡ step_left s log acts
unfolding step_left
left_fits s r pages log acts told heard None same is fits own = sym fits
left_fits s r pages log acts told heard (Some run) same is fits own =
    ap (λ (l : List Entry). left_on (with_pages pages) (tree_of l) (url_of l) run) is
    ∙ left_told s r pages (prefix told log) run same own
    ∙ ap (λ k. left_on s (tree_of (prefix k log)) (url_of (prefix k log)) run) fits.0
    ∙ ap (option_and_then (left_on s (tree_of (prefix (newest_length acts) log)) (url_of (prefix (newest_length acts) log)))) (sym fits.1)

pub left_is : (s : Session) (r : ℕ) (log : List Entry) (acts : List Act) (told : ℕ) (w : Holds) → IsLegal s r log acts → Keeps s r log acts told w → left_in w ≡ step_left s log acts
left_is s r log acts told w legal k = left_fits s r w.pages log acts told w.heard w.run k.pages (heard_is s r log acts told w legal.admitted k) k.run k.own

-- A STEP ON WHAT WAS TOLD

-- registers hold objects of their document's group alone
held_group : (p : List Entry) (regs : ℕ → List ℕ → Value) (props : Object → Store) (d : ℕ) → IsClosed (tree_of p) → d < (tree_of p).docs → RegistersBelong (tree_of p) regs → HoldsGroup (sight_of p regs props) d
held_group p regs props d closed there belong =
    let t : Tree = tree_of p in
    record {
      there = λ name n is. (subst (Belongs t d) is (held_belongs t (url_of p) regs props d closed there belong name)).1;
      windows = λ name n is. (subst (Belongs t d) is (held_belongs t (url_of p) regs props d closed there belong name)).2;
      locations = λ name e is. (subst (Belongs t d) is (held_belongs t (url_of p) regs props d closed there belong name)).2;
    }

-- what registers hold doesn't depend on URLs
other_urls : (kept : ℕ → Bool) (t : Tree) (urls others : ℕ → List ℕ) (regs : ℕ → List ℕ → Value) (props : Object → Store) (d : ℕ) → HoldsKept kept (sight_with t urls regs props) d → HoldsKept kept (sight_with t others regs props) d
unfolding held
other_urls kept t urls others regs props d h = record { windows = h.windows; locations = h.locations }

agrees : (t : Tree) (props : Object → Store) (d : ℕ) (o : Object) → is_seen_by t d (document_of o) ≡ true → props o ≡ shown_stores t d props o
agrees t props d o seen = rw seen refl

-- where all is kept that a document sees, its step is that on what the document may see
perform_told : (kept : ℕ → Bool) (p : List Entry) (regs : ℕ → List ℕ → Value) (props : Object → Store) (d : ℕ) (st : Step) → AreAdmitted p → IsClosed (tree_of p) → d < (tree_of p).docs → RegistersBelong (tree_of p) regs
    → ((e : ℕ) → e < (tree_of p).docs → is_seen_by (tree_of p) d e ≡ true → kept e ≡ true) → perform (sight_of (blanked kept p) regs props) d st ≡ perform (sight_on p regs props d) d st
perform_told kept p regs props d st all closed there belong sees =
    let t : Tree = tree_of p in
    let seen : ℕ → Bool = is_seen_by t d in
    let shown : Object → Store = shown_stores t d props in
    let whole : HoldsKept seen (sight_of p regs props) d = group_kept seen p regs props d all (λ e is. is) (held_group p regs props d closed there belong) in
    let holds : HoldsKept seen (sight_of (blanked kept p) regs props) d =
    subst (λ (x : Tree). HoldsKept seen (sight_with x (url_of (blanked kept p)) regs props) d) (sym (tree_of-blanked kept p)) (other_urls seen t (url_of p) (url_of (blanked kept p)) regs props d whole) in
    sym (perform-blanked seen (blanked kept p) regs props shown d st (sees_itself t d) holds (agrees t props d))
    ∙ ap (λ (l : List Entry). perform (sight_of l regs shown) d st) (blanked_twice seen kept p all sees)

-- what a document sees is homed where it is
seen_homed : (r : ℕ) (t : Tree) (d e : ℕ) → home_of t d ≡ r → (is_open_to t d e ≡ true → home_of t d ≡ home_of t e) → is_seen_by t d e ≡ true → is_homed t r e ≡ true
seen_homed r t d e home same seen = either (e == d) refl seen
  where
    either : (b : Bool) → (e == d) ≡ b → (b || is_open_to t d e) ≡ true → (home_of t e == r) ≡ true
    either true is k = eq-eqb (home_of t e) r (ap (home_of t) (eqb-true e d is) ∙ home)
    either false is k = eq-eqb (home_of t e) r (sym (same k) ∙ home)

changed_told : (kept : ℕ → Bool) (p : List Entry) (regs : ℕ → List ℕ → Value) (props : Object → Store) (d : ℕ) (st : Step)
    → step_stores (sight_of (blanked kept p) regs props) d st ≡ step_stores (record (sight_on p regs props d) { stores = props }) d st
changed_told kept p regs props d st =
    ap (λ (t : Tree). step_stores (sight_with t (url_of (blanked kept p)) regs props) d st) (tree_of-blanked kept p)
    ∙ changed_same (tree_of p) (url_of (blanked kept p)) (url_of (shown_to d p)) regs props d st
    ∙ sym (ap (λ (t : Tree). step_stores (sight_with t (url_of (shown_to d p)) regs props) d st) (tree_of-blanked (is_seen_by (tree_of p) d) p))

-- THE NEXT MOVE

-- what has a step left has heard just to the newest act
level : (s : Session) (log : List Entry) (acts : List Act) (told : ℕ) (run : Option Running) → FitsRun s log acts told run → (step_left s log acts ≡ None → ⊥) → told ≡ newest_length acts
level s log acts told None fits some = absurd (some fits)
level s log acts told (Some run) fits some = fits.0

-- the document whose step is left is the renderer's own
own_left : (s : Session) (r : ℕ) (own t : Tree) (urls : ℕ → List ℕ) (run : Option Running) (left : Left) → IsOwnRun r own run → option_and_then (left_on s t urls) run ≡ Some left → IsMine r own left.doc
own_left s r own t urls None left mine h = absurd cc
own_left s r own t urls (Some run) left mine h = subst (IsMine r own) (left_doc s t urls run left h) mine

-- a step that is left, on what was told of the log to the newest act
record IsAtStep (s : Session) (r : ℕ) (log : List Entry) (acts : List Act) (w : Holds) (left : Left) : Type 0 where
  pub heard : w.heard ≡ homed_log r (prefix (newest_length acts) log)
  pub mine : IsMine r (tree_of (prefix (newest_length acts) log)) left.doc

at_step : (s : Session) (r : ℕ) (log : List Entry) (acts : List Act) (told : ℕ) (w : Holds) → IsLegal s r log acts → Keeps s r log acts told w → (left : Left) → step_left s log acts ≡ Some left → IsAtStep s r log acts w left
at_step s r log acts told w legal k left e =
    let at : told ≡ newest_length acts = level s log acts told w.run k.run (λ none. (let clash : None ≡ Some left = sym none ∙ e in absurd cc)) in
    record {
      heard = heard_is s r log acts told w legal.admitted k ∙ ap (λ n. homed_log r (prefix n log)) at;
      mine = subst (λ n. IsMine r (tree_of (prefix n log)) left.doc) at
          (own_left (with_pages w.pages) r (tree_of (prefix told log)) (tree_of w.heard) (url_of w.heard) w.run left k.own (left_is s r log acts told w legal k ∙ e));
    }

-- what its documents go by
sight_is : (s : Session) (r : ℕ) (log : List Entry) (acts : List Act) (told : ℕ) (w : Holds) → Keeps s r log acts told w → (left : Left) → IsAtStep s r log acts w left
    → sight_in w ≡ sight_of (homed_log r (prefix (newest_length acts) log)) (registers s log acts) (stores s log acts)
sight_is s r log acts told w k left h =
    let heard = h.heard in
    let regs = k.registers in
    let props = k.stores in
    λ i. sight_of (heard i) (regs i) (props i)

perform_at : (s : Session) (r : ℕ) (log : List Entry) (acts : List Act) (told : ℕ) (w : Holds) → IsLegal s r log acts → Keeps s r log acts told w → (left : Left) → IsAtStep s r log acts w left
    → perform (sight_in w) left.doc left.step ≡ perform (sight s log acts left.doc) left.doc left.step
perform_at s r log acts told w legal k left h =
    let n : ℕ = newest_length acts in
    let p : List Entry = prefix n log in
    let t : Tree = tree_of p in
    ap (λ (see : Sight). perform see left.doc left.step) (sight_is s r log acts told w k left h)
    ∙ perform_told (is_homed t r) p (registers s log acts) (stores s log acts) left.doc left.step (admitted_before n log legal.admitted) (closed_before_legal s log n legal.log_is legal.short) h.mine.there
    (record_registers s r log acts legal.log_is legal.short legal.record_is)
    (λ e there seen. seen_homed r t left.doc e h.mine.home (open_before s log n legal.log_is legal.short legal.actors left.doc e h.mine.there there) seen)

move_at : (s : Session) (r : ℕ) (log : List Entry) (acts : List Act) (told : ℕ) (w : Holds) → IsLegal s r log acts → Keeps s r log acts told w → (left : Option Left) → step_left s log acts ≡ left
    → move_of (λ doc. sight_in w) left ≡ move_of (sight s log acts) left
move_at s r log acts told w legal k None e = refl
move_at s r log acts told w legal k (Some left) e = ap (move_by left.doc left.point (op_of left.step)) (perform_at s r log acts told w legal k left (at_step s r log acts told w legal k left e))

-- what hasn't stopped goes on
going_on : (s : Session) (log : List Entry) (acts : List Act) → has_stopped acts ≡ false → next_move s log acts ≡ move_of (sight s log acts) (step_left s log acts)
unfolding next_move
going_on s log acts goes = ap (λ b. if b then Stays else move_of (sight s log acts) (step_left s log acts)) goes

pub move_is : (s : Session) (r : ℕ) (log : List Entry) (acts : List Act) (told : ℕ) (w : Holds) → IsLegal s r log acts → Keeps s r log acts told w → move_in w ≡ next_move s log acts
move_is s r log acts told w legal k =
    ap (λ b. if b then Stays else move_of (λ doc. sight_in w) (left_in w)) (ap has_stopped k.acts_are ∙ k.goes_on)
    ∙ ap (move_of (λ doc. sight_in w)) (left_is s r log acts told w legal k) ∙ move_at s r log acts told w legal k (step_left s log acts) refl ∙ sym (going_on s log acts k.goes_on)

-- PROPERTIES AFTERWARDS

stores_at : (s : Session) (r : ℕ) (log : List Entry) (acts : List Act) (told : ℕ) (w : Holds) → IsLegal s r log acts → Keeps s r log acts told w → (left : Option Left) → step_left s log acts ≡ left
    → stores_by left w ≡ stores_after left (prefix (newest_length acts) log) (registers s log acts) (stores s log acts)
stores_at s r log acts told w legal k None e = k.stores
stores_at s r log acts told w legal k (Some left) e =
    let p : List Entry = prefix (newest_length acts) log in
    ap (λ (see : Sight). step_stores see left.doc left.step) (sight_is s r log acts told w k left (at_step s r log acts told w legal k left e))
    ∙ changed_told (is_homed (tree_of p) r) p (registers s log acts) (stores s log acts) left.doc left.step

pub stores_are : (s : Session) (r : ℕ) (log : List Entry) (acts : List Act) (told : ℕ) (w : Holds) → IsLegal s r log acts → Keeps s r log acts told w
    → stores_by (left_in w) w ≡ stores_after (step_left s log acts) (prefix (newest_length acts) log) (registers s log acts) (stores s log acts)
stores_are s r log acts told w legal k = ap (λ (o : Option Left). stores_by o w) (left_is s r log acts told w legal k) ∙ stores_at s r log acts told w legal k (step_left s log acts) refl
