-- A step that is made: what it does by itself, and over the link.
use Rattle.std.proofs.Common.{◌≡◌, ℕ, List, Option, Some, None, Result, Ok, Err, true, false, refl, sym, ap, subst, ◌∙◌}
use Rattle.std.specs.Prelude.{IfOk, OnOk, OnErr, IsOk}
use Rattle.window_props.specs.declared.value.Value.{Value}
use Rattle.window_props.specs.declared.platform.Object.{Object}
use Rattle.window_props.specs.History.{Store}
use Rattle.tree_log.specs.declared.entry.Entry.{Entry}
use Rattle.tree_log.specs.Admits.{AreAdmitted}
use Rattle.tree_log.specs.Tree.{Tree, tree_of, is_active}
use Rattle.tree_log.specs.Urls.{url_of}
use Rattle.agent_laws.specs.Actors.{has_no_asker}
use Rattle.agent_laws.specs.Sights.{sight_of}
use Rattle.agent_laws.proofs.Logs.Asked.{IsAskedBy, asked_by}
use Rattle.agent_terms.specs.declared.act.Answer.TheVariants as answer
use Rattle.agent_terms.specs.declared.act.Move.TheVariants.{Asks}
use Rattle.agent_terms.specs.declared.act.Performed.{Performed}
use Rattle.agent_terms.specs.declared.act.Performed.TheVariants.{Answer, Ask}
use Rattle.agent_terms.specs.declared.act.Running.{Running}
use Rattle.agent_terms.specs.declared.outcome.Outcome.{Outcome}
use Rattle.agent_terms.specs.declared.request.Request.{Request}
use Rattle.agent_terms.specs.declared.step.Step.{Step}
use Rattle.agent_terms.specs.declared.step.Step.TheVariants as step
use Rattle.exchange_laws.specs.Fit.{AreFit}
use Rattle.object_access.specs.Registers.{to_of}
use Rattle.object_access.specs.StepAnswer.{perform, step_stores}
use Rattle.single_agent.specs.NextMove.{move_by, move_request, op_of}
use Rattle.single_agent.specs.Running.{left_at}
use Rattle.step_ranges.specs.Ranges.{is_step_short, is_request_short}
use Rattle.step_ranges.proofs.Asking.{unchanged_by_asking}
use Rattle.step_ranges.proofs.Changed.{asked_in_range}
use Rattle.step_ranges.proofs.Logs.{limits_kept}
use Rattle.link_wire.specs.declared.link.Link.{Ghosts}
use Rattle.link_wire.specs.Links.{is_fit}
use Rattle.renderer.specs.declared.turn.Turn.{Turn}
use Rattle.renderer.specs.Calls.{GivesUp}
use Rattle.renderer.specs.Holding.{Holds, sight_in, stepped}
use Rattle.renderer.specs.Sound.{IsSound}
use Rattle.renderer.specs.Turning.{Converses, Moves}
use Rattle.renderer.proofs.Sounding.{answered_sound, own_fit}

-- RESULTS

pub if_ok : {A E : Type 0} (r : Result A E) (P Q : A → Type 0) → ((a : A) → P a → Q a) → IfOk r P → IfOk r Q
if_ok (Ok a) P Q f h = f a h
if_ok (Err e) P Q f h = tt

pub on_ok : {A E : Type 0} (r : Result A E) (P Q : Type 0) → (P → Q) → IfOk r (λ _. P) → OnOk r Q
on_ok (Ok a) P Q f h = f h
on_ok (Err e) P Q f h = tt

pub on_err : {A E : Type 0} (r : Result A E) (P Q : Type 0) → (P → Q) → OnErr r P → OnErr r Q
on_err (Ok a) P Q f h = tt
on_err (Err e) P Q f h = f h

-- it fails only where there is a register to write to
pub on_err_written : {A E : Type 0} (r : Result A E) (to : Option (List ℕ)) (P Q : Type 0) → (to ≡ None → IsOk r) → OnErr r P → ((name : List ℕ) → to ≡ Some name → P → Q) → OnErr r Q
on_err_written (Ok a) to P Q none h f = tt
on_err_written (Err e) None P Q none h f = let clash : false ≡ true = none refl in absurd cc
on_err_written (Err e) (Some name) P Q none h f = f name refl h

-- WHAT A STEP SEES

pub sees : (t : Tree) (urls : ℕ → List ℕ) (log : List Entry) (registers : ℕ → List ℕ → Value) (stores : Object → Store) (d : ℕ) (st : Step) (p : Performed) → t ≡ tree_of log → urls ≡ url_of log
    → p ≡ perform (record { tree = t; urls = urls; registers = registers; stores = stores }) d st → p ≡ perform (sight_of log registers stores) d st
sees t urls log registers stores d st p same_tree same_urls is =
    subst (λ (u : ℕ → List ℕ). p ≡ perform (record { tree = tree_of log; urls = u; registers = registers; stores = stores }) d st) same_urls
    (subst (λ (x : Tree). p ≡ perform (record { tree = x; urls = urls; registers = registers; stores = stores }) d st) same_tree is)

pub leaves : (t : Tree) (urls : ℕ → List ℕ) (log : List Entry) (registers : ℕ → List ℕ → Value) (stores props : Object → Store) (d : ℕ) (st : Step) → t ≡ tree_of log → urls ≡ url_of log
    → props ≡ step_stores (record { tree = t; urls = urls; registers = registers; stores = stores }) d st → props ≡ step_stores (sight_of log registers stores) d st
leaves t urls log registers stores props d st same_tree same_urls is =
    subst (λ (u : ℕ → List ℕ). props ≡ step_stores (record { tree = tree_of log; urls = u; registers = registers; stores = stores }) d st) same_urls
    (subst (λ (x : Tree). props ≡ step_stores (record { tree = x; urls = urls; registers = registers; stores = stores }) d st) same_tree is)

-- a step whose answer goes to a register changes no property
pub written_keeps : (w : Holds) (d : ℕ) (st : Step) (name : List ℕ) → to_of st ≡ Some name → step_stores (sight_in w) d st ≡ w.stores
unfolding step_stores
written_keeps w d (step.Set of key given user) name h = absurd cc
written_keeps w d (step.Define of key given writable enumerable configurable) name h = absurd cc
written_keeps w d (step.Delete of key) name h = absurd cc
written_keeps w d _ name h = refl

-- A STEP THAT ANSWERS

pub answered_kept : (w v : Holds) (props : Object → Store) (run : Running) (st : Step) (o : Outcome) → IsSound w → AreAdmitted w.heard → AreFit w.heard → w.run ≡ Some run → is_step_short st ≡ true
    → perform (sight_in w) run.doc st ≡ Answer o → props ≡ step_stores (sight_in w) run.doc st
    → v ≡ stepped run.doc run.point (op_of st) (answer.Outcome o) (Some (left_at run st)) (record w { stores = props }) → IsSound v
answered_kept w v props run st o sound admitted fit runs short does left now =
    subst IsSound (sym now)
    (subst (λ (p : Object → Store). IsSound (record (stepped run.doc run.point (op_of st) (answer.Outcome o) (Some (left_at run st)) w) { stores = p })) (sym left)
    (answered_sound w run st (op_of st) o sound admitted fit runs short does))

pub answered_gives_up : {L : Type 0} (link : Ghosts L) (w v : Holds) (props : Object → Store) (run : Running) (st : Step) (o : Outcome) (l : L) → perform (sight_in w) run.doc st ≡ Answer o → props ≡ w.stores
    → v ≡ record w { stores = props } → GivesUp link w (move_request (move_by run.doc run.point (op_of st) (perform (sight_in w) run.doc st))) l v l
answered_gives_up link w v props run st o l does same now =
    let e : v ≡ w = now ∙ ap (λ (p : Object → Store). record w { stores = p }) same in
    subst (λ (p : Performed). GivesUp link w (move_request (move_by run.doc run.point (op_of st) p)) l v l) (sym does)
    (record {
      keeps = record { renderer = ap (λ (x : Holds). x.renderer) e; pages = ap (λ (x : Holds). x.pages) e; acts = ap (λ (x : Holds). x.acts) e; len = ap (λ (x : Holds). x.len) e; stores = ap (λ (x : Holds). x.stores) e };
      calls = refl;
    })

pub answered_back : (w v : Holds) (props : Object → Store) → IsSound w → props ≡ w.stores → v ≡ record w { stores = props } → IsSound v
answered_back w v props sound same now = subst IsSound (sym (now ∙ ap (λ (p : Object → Store). record w { stores = p }) same)) sound

-- A STEP THAT ASKS

pub asking_keeps : (w : Holds) (props : Object → Store) (d : ℕ) (st : Step) (q : Request) → perform (sight_in w) d st ≡ Ask q → props ≡ step_stores (sight_in w) d st → props ≡ w.stores
asking_keeps w props d st q does left = left ∙ unchanged_by_asking (sight_in w) d st q does

asked_for : (w : Holds) (d : ℕ) (st : Step) (q : Request) → perform (sight_in w) d st ≡ Ask q → IsAskedBy d (Ask q)
asked_for w d st q does = subst (IsAskedBy d) does (asked_by (sight_in w) d st)

pub asks_by : (w : Holds) (d : ℕ) (st : Step) (q : Request) → perform (sight_in w) d st ≡ Ask q → has_no_asker q ≡ false
asks_by w d st q does = (asked_for w d st q does).other

pub asks_short : (w : Holds) (run : Running) (st : Step) (q : Request) → IsSound w → AreAdmitted w.heard → AreFit w.heard → w.run ≡ Some run → is_step_short st ≡ true → perform (sight_in w) run.doc st ≡ Ask q → is_request_short q ≡ true
asks_short w run st q sound admitted fit runs short does =
    asked_in_range (sight_in w) run.doc (record { kept = limits_kept w.heard admitted fit; here = sound.there run runs; registers = sound.registers; stores = sound.stores }) st q short does

pub asks_fit : (w : Holds) (run : Running) (st : Step) (q : Request) → IsSound w → AreAdmitted w.heard → w.run ≡ Some run → is_active (tree_of w.heard) run.doc ≡ true → perform (sight_in w) run.doc st ≡ Ask q
    → is_fit w.renderer w.heard q ≡ true
asks_fit w run st q sound admitted runs active does = own_fit w run q sound admitted runs active (asks_by w run.doc st q does) (asked_for w run.doc st q does).asker

pub with_stores : (w : Holds) (props : Object → Store) → props ≡ w.stores → IsSound w → IsSound (record w { stores = props })
with_stores w props same sound = subst (λ (p : Object → Store). IsSound (record w { stores = p })) (sym same) sound

pub asked_moves : {L : Type 0} (link : Ghosts L) (w v : Holds) (props : Object → Store) (run : Running) (st : Step) (q : Request) (l : L) (turn : Turn) (m : L) → perform (sight_in w) run.doc st ≡ Ask q → props ≡ w.stores
    → Converses link (record w { stores = props }) (Some (left_at run st)) (Asks run.doc run.point (op_of st) q) q l turn v m
    → Moves link (Some (left_at run st)) (move_by run.doc run.point (op_of st) (perform (sight_in w) run.doc st)) w l turn v m
asked_moves link w v props run st q l turn m does same asked =
    subst (λ (p : Performed). Moves link (Some (left_at run st)) (move_by run.doc run.point (op_of st) p) w l turn v m) (sym does)
    (subst (λ (p : Object → Store). Converses link (record w { stores = p }) (Some (left_at run st)) (Asks run.doc run.point (op_of st) q) q l turn v m) same asked)

pub asked_gives_up : {L : Type 0} (link : Ghosts L) (w v : Holds) (props : Object → Store) (run : Running) (st : Step) (q : Request) (l m : L) → perform (sight_in w) run.doc st ≡ Ask q → props ≡ w.stores
    → GivesUp link (record w { stores = props }) (Some q) l v m → GivesUp link w (move_request (move_by run.doc run.point (op_of st) (perform (sight_in w) run.doc st))) l v m
asked_gives_up link w v props run st q l m does same given =
    subst (λ (p : Performed). GivesUp link w (move_request (move_by run.doc run.point (op_of st) p)) l v m) (sym does)
    (subst (λ (p : Object → Store). GivesUp link (record w { stores = p }) (Some q) l v m) same given)
