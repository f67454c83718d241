-- What a renderer holds stays sound: as it hears more, and by its acts.
use Rattle.std.proofs.Common.{◌≡◌, ℕ, ◌<◌, ◌≤◌, ◌^◌, List, [], ◌∷◌, ◌++◌, Option, Some, None, Bool, true, false, refl, sym, ap, subst, ◌∙◌, arith}
use Rattle.std.specs.Prelude.{◌&&◌, ◌==◌, nat_lt, bytes_eq, if◌then◌else◌}
use Rattle.std.specs.Option.{option_map}
use Rattle.std.proofs.lemmas.Bool.{eq-eqb}
use Rattle.std.proofs.lemmas.Bool.Decides.{nat_tests}
use Rattle.window_props.specs.declared.value.Value.{Value}
use Rattle.tree_log.specs.declared.entry.Entry.{Entry}
use Rattle.tree_log.specs.declared.entry.What.{What}
use Rattle.tree_log.specs.declared.entry.What.TheVariants.{Commit, Fire}
use Rattle.tree_log.specs.Facts.{Birth}
use Rattle.tree_log.specs.Log.{entry_at}
use Rattle.tree_log.specs.Tree.{Tree, tree_of, tree_of_step, nav_of, home_of, is_active}
use Rattle.tree_log.specs.Admits.{AreAdmitted}
use Rattle.tree_log.proofs.Admitted.{both, lt_of, eq_of, born_stays}
use Rattle.tree_log.proofs.Unmade.{bounded}
use Rattle.agent_terms.specs.declared.act.Answer.{Answer as AnswerOf}
use Rattle.agent_terms.specs.declared.act.Answer.TheVariants as answer
use Rattle.agent_terms.specs.declared.act.Performed.TheVariants.{Answer}
use Rattle.agent_terms.specs.declared.act.Point.{Point}
use Rattle.agent_terms.specs.declared.act.Running.{Running}
use Rattle.agent_terms.specs.declared.outcome.Outcome.{Outcome}
use Rattle.agent_terms.specs.declared.outcome.Outcome.TheVariants as outcome
use Rattle.agent_terms.specs.declared.request.ReplyOutcome.{ReplyOutcome}
use Rattle.agent_terms.specs.declared.request.ReplyOutcome.TheVariants as reply
use Rattle.agent_terms.specs.declared.request.Request.{Request}
use Rattle.agent_terms.specs.declared.request.Request.TheVariants as ask
use Rattle.agent_terms.specs.declared.step.OpName.{OpName}
use Rattle.agent_terms.specs.declared.step.OpName.TheVariants as op
use Rattle.agent_terms.specs.declared.step.Step.{Step}
use Rattle.agent_laws.specs.Actors.{has_no_asker}
use Rattle.agent_laws.proofs.Groups.Well.{more_docs, admitted_well}
use Rattle.agent_laws.proofs.Logs.Discarded.{shown_active, seated_of}
use Rattle.coordinator_rules.specs.Decision.{asker_of}
use Rattle.object_access.specs.Registers.{to_of, value_in, written, written_to}
use Rattle.object_access.specs.StepAnswer.{perform, step_stores}
use Rattle.single_agent.specs.NextAct.{answer_of, done_of}
use Rattle.single_agent.specs.Running.{Left, left_at, one_more, starts}
use Rattle.exchange_laws.specs.Fit.{AreFit}
use Rattle.step_ranges.specs.Ranges.{AreAtHand, is_at_hand, is_step_short}
use Rattle.step_ranges.proofs.Changed.{answer_at_hand, changed_at_hand}
use Rattle.step_ranges.proofs.Logs.{limits_kept}
use Rattle.step_ranges.proofs.Reached.{IsSightInRange}
use Rattle.step_ranges.proofs.Texts.{below, undefined_within, null_within}
use Rattle.step_ranges.proofs.Values.{at_hand_later, stores_later, task_at_hand}
use Rattle.link_wire.specs.Links.{is_own, is_fit, is_post, is_task_of, names_what_is_there}
use Rattle.link_exchange.specs.Hearing.{Extends}
use Rattle.renderer.specs.Holding.{Holds, sight_in, hearing, stepped, taken, resting}
use Rattle.renderer.specs.Sound.{IsSound}

-- A LONGER LOG

-- a document that is there stays there, and keeps its home
abbrev IsStill : List Entry → ℕ → Tree → Type 0
IsStill log d t = (d < t.docs) × (home_of t d ≡ home_of (tree_of log) d)

doc_later : (more log : List Entry) (d : ℕ) → AreAdmitted (more ++ log) → d < (tree_of log).docs → IsStill log d (tree_of (more ++ log))
doc_later [] log d all lt = (lt, refl)
doc_later (e ∷ older) log d all lt =
    let t : Tree = tree_of (older ++ log) in
    let before = doc_later older log d all.1 lt in
    let there : d < t.docs = before.0 in
    subst (IsStill log d) (sym (tree_of_step e (older ++ log))) (omega (arith, more_docs t e), ap (λ (b : Birth). b.home) (born_stays t e d all.0 there) ∙ before.1)

more_heard : (w : Holds) (more : List Entry) → IsSound w → AreAdmitted (more ++ w.heard) → IsSound (hearing (more ++ w.heard) w)
more_heard w more sound all = record {
  len = refl;
  there = λ run is. (doc_later more w.heard run.doc all (sound.there run is)).0;
  homed = λ run is. (doc_later more w.heard run.doc all (sound.there run is)).1 ∙ sound.homed run is;
  registers = λ d name. at_hand_later more w.heard (w.registers d name) (sound.registers d name);
  stores = stores_later more w.heard w.stores sound.stores;
}

-- what is sound stays so as more is heard
pub hearing_sound : (w : Holds) (heard : List Entry) → IsSound w → AreAdmitted heard → Extends w.heard heard → IsSound (hearing heard w)
hearing_sound w heard sound all longer =
    subst (λ (g : List Entry). IsSound (hearing g w)) (sym longer.1) (more_heard w longer.0 sound (subst AreAdmitted longer.1 all))

pub resting_sound : (w : Holds) → IsSound w → IsSound (resting w)
resting_sound w sound = record {
  len = sound.len;
  there = λ run is. absurd cc;
  homed = λ run is. absurd cc;
  registers = sound.registers;
  stores = sound.stores;
}

-- STEPS

written_at_hand : (t : Tree) (d : ℕ) (name : List ℕ) (v : Value) (registers : ℕ → List ℕ → Value) → is_at_hand t v ≡ true → AreAtHand t registers → AreAtHand t (written d name v registers)
unfolding written
written_at_hand t d name v registers h held = λ e other. by_test ((e == d) && bytes_eq other name) e other
  where
    by_test : (b : Bool) (e : ℕ) (other : List ℕ) → is_at_hand t (if b then v else registers e other) ≡ true
    by_test true e other = h
    by_test false e other = held e other

to_at_hand : (t : Tree) (d : ℕ) (to : Option (List ℕ)) (v : Value) (registers : ℕ → List ℕ → Value) → is_at_hand t v ≡ true → AreAtHand t registers → AreAtHand t (written_to d to v registers)
to_at_hand t d None v registers h held = held
to_at_hand t d (Some name) v registers h held = written_at_hand t d name v registers h held

same_doc : (a b : Running) → Some a ≡ Some b → a.doc ≡ b.doc
same_doc a b e = let same : a ≡ b = cc in ap (λ (run : Running). run.doc) same

-- the next step is of the same document
run_before : (ran : Option Running) (next : Running) → option_map one_more ran ≡ Some next → (run : Running) × (ran ≡ Some run) × (run.doc ≡ next.doc)
run_before None next is = absurd cc
run_before (Some run) next is = (run, refl, same_doc (one_more run) next is)

-- a step whose answer is at hand
stepped_sound : (w : Holds) (doc : ℕ) (point : Point) (op : OpName) (given : AnswerOf) (left : Left) → IsSound w → is_at_hand (tree_of w.heard) (value_in given) ≡ true
    → IsSound (stepped doc point op given (Some left) w)
stepped_sound w doc point op given left sound h = record {
  len = sound.len;
  there = λ next is. let run = run_before w.run next is in subst (λ d. d < (tree_of w.heard).docs) run.2 (sound.there run.0 run.1);
  homed = λ next is. let run = run_before w.run next is in subst (λ d. home_of (tree_of w.heard) d ≡ w.renderer) run.2 (sound.homed run.0 run.1);
  registers = to_at_hand (tree_of w.heard) left.doc (to_of left.step) (value_in given) w.registers h sound.registers;
  stores = sound.stores;
}

sight_in_range : (w : Holds) (d : ℕ) → IsSound w → AreAdmitted w.heard → AreFit w.heard → d < (tree_of w.heard).docs → IsSightInRange (sight_in w) d
sight_in_range w d sound all fit here = record { kept = limits_kept w.heard all fit; here = here; registers = sound.registers; stores = sound.stores }

outcome_at_hand : (t : Tree) (o : Outcome) → ((v : Value) → o ≡ outcome.Value v → is_at_hand t v ≡ true) → is_at_hand t (value_in (answer.Outcome o)) ≡ true
outcome_at_hand t (outcome.Value v) h = h v refl
outcome_at_hand t _ h = undefined_within

-- a step that answered
pub answered_sound : (w : Holds) (run : Running) (step : Step) (op : OpName) (o : Outcome) → IsSound w → AreAdmitted w.heard → AreFit w.heard → w.run ≡ Some run → is_step_short step ≡ true
    → perform (sight_in w) run.doc step ≡ Answer o → IsSound (record (stepped run.doc run.point op (answer.Outcome o) (Some (left_at run step)) w) { stores = step_stores (sight_in w) run.doc step })
answered_sound w run step op o sound all fit is short given =
    let range = sight_in_range w run.doc sound all fit (sound.there run is) in
    let at_hand = outcome_at_hand (tree_of w.heard) o (λ v same. answer_at_hand (sight_in w) run.doc range step v short (given ∙ ap Answer same)) in
    let made = stepped_sound w run.doc run.point op (answer.Outcome o) (left_at run step) sound at_hand in
    record { len = made.len; there = made.there; homed = made.homed; registers = made.registers; stores = changed_at_hand (sight_in w) run.doc range step short }

done_at_hand : (t : Tree) (o : OpName) → is_at_hand t (value_in (done_of o)) ≡ true
done_at_hand t op.Set = undefined_within
done_at_hand t _ = undefined_within

same_given : (a b : AnswerOf) → Some a ≡ Some b → a ≡ b
same_given a b e = cc

given_at_hand : (r : ℕ) (log : List Entry) (older : ℕ) (o : OpName) (told : ReplyOutcome) (given : AnswerOf) → names_what_is_there r log older told ≡ true → answer_of o told ≡ Some given
    → is_at_hand (tree_of log) (value_in given) ≡ true
given_at_hand r log older o reply.Done given h is = subst (λ (g : AnswerOf). is_at_hand (tree_of log) (value_in g) ≡ true) (same_given _ given is) (done_at_hand (tree_of log) o)
given_at_hand r log older o (reply.Security n) given h is = subst (λ (g : AnswerOf). is_at_hand (tree_of log) (value_in g) ≡ true) (same_given _ given is) undefined_within
given_at_hand r log older o reply.Null given h is = subst (λ (g : AnswerOf). is_at_hand (tree_of log) (value_in g) ≡ true) (same_given _ given is) null_within
given_at_hand r log older o (reply.Made nav) given h is = subst (λ (g : AnswerOf). is_at_hand (tree_of log) (value_in g) ≡ true) (same_given _ given is) h
given_at_hand r log older o (reply.Unloaded place) given h is = subst (λ (g : AnswerOf). is_at_hand (tree_of log) (value_in g) ≡ true) (same_given _ given is) undefined_within
given_at_hand r log older o _ given h is = absurd cc

-- a step that asked and was answered, on what was heard then
pub told_sound : (w : Holds) (run : Running) (step : Step) (op : OpName) (older : ℕ) (outcome : ReplyOutcome) (given : AnswerOf) → IsSound w → w.run ≡ Some run
    → names_what_is_there w.renderer w.heard older outcome ≡ true → answer_of op outcome ≡ Some given → IsSound (stepped run.doc run.point op given (Some (left_at run step)) w)
told_sound w run step op older outcome given sound is there gives =
    stepped_sound w run.doc run.point op given (left_at run step) sound (given_at_hand w.renderer w.heard older op outcome given there gives)

-- TASKS

-- a document that is homed at a renderer is there
homed_there : (log : List Entry) (r d : ℕ) → AreAdmitted log → r < 2 ^ 16 → home_of (tree_of log) d ≡ r → d < (tree_of log).docs
homed_there log r d all few at_home = by_test (nat_lt d (tree_of log).docs) refl
  where
    outside : nat_lt d (tree_of log).docs ≡ false → (tree_of log).docs ≤ d
    outside h = grind (arith, nat_tests)

    by_test : (b : Bool) → nat_lt d (tree_of log).docs ≡ b → d < (tree_of log).docs
    by_test true h = lt_of d (tree_of log).docs h
    by_test false h =
        let nowhere : home_of (tree_of log) d ≡ 65536 = ap (λ (b : Birth). b.home) ((bounded log all).births d (outside h)) in
        absurd (omega (arith, nowhere, at_home))

-- what a task starts is of a document that is homed at its renderer
task_homed : (r : ℕ) (log : List Entry) (place : ℕ) (what : What) (run : Running) → is_task_of r log what ≡ true → starts place what ≡ Some run → home_of (tree_of log) run.doc ≡ r
task_homed r log place (Commit nav doc begin) run own is =
    subst (λ d. home_of (tree_of log) d ≡ r) (same_doc _ run is) (eq_of (home_of (tree_of log) doc) r own)
task_homed r log place (Fire doc post) run own is =
    subst (λ d. home_of (tree_of log) d ≡ r) (same_doc _ run is) (eq_of (home_of (tree_of log) doc) r (both (home_of (tree_of log) doc == r) (is_post (entry_at log post)) own).0)
task_homed r log place _ run own is = absurd cc

-- a task that was taken, on what was heard then
pub taken_sound : (w : Holds) (place : ℕ) (entry : Entry) → IsSound w → w.renderer < 2 ^ 16 → AreAdmitted w.heard → AreFit w.heard → entry_at w.heard place ≡ Some entry → is_task_of w.renderer w.heard entry.what ≡ true → IsSound (taken place entry w)
taken_sound w place entry sound few all fit there own = record {
  len = sound.len;
  there = λ run is. homed_there w.heard w.renderer run.doc all few (task_homed w.renderer w.heard place entry.what run own is);
  homed = λ run is. task_homed w.renderer w.heard place entry.what run own is;
  registers = task_at_hand w.heard entry.what w.registers all fit sound.registers;
  stores = sound.stores;
}

-- REQUESTS

asked_fit : (r : ℕ) (log : List Entry) (d : ℕ) (q : Request) → is_own r log d ≡ true → has_no_asker q ≡ false → asker_of q ≡ d → is_fit r log q ≡ true
unfolding has_no_asker
asked_fit r log d ask.Next own asks is = absurd cc
asked_fit r log d ask.More own asks is = absurd cc
asked_fit r log d _ own asks is = subst (λ x. is_own r log x ≡ true) (sym is) own

all_three : (a b c : Bool) → a ≡ true → b ≡ true → c ≡ true → (a && b && c) ≡ true
all_three a b c p q r = rw (p, q, r) refl

-- what is active has been active
active_been : (log : List Entry) (d : ℕ) → AreAdmitted log → d < (tree_of log).docs → is_active (tree_of log) d ≡ true → ((tree_of log).doc d).been_active ≡ true
active_been log d all there active =
    let t : Tree = tree_of log in
    subst (λ (x : ℕ). (t.doc x).been_active ≡ true) (shown_active t d active) ((seated_of log all).actives (nav_of t d) ((admitted_well log all).below d there))

-- the active document that runs is one that the link takes requests of
pub own_fit : (w : Holds) (run : Running) (q : Request) → IsSound w → AreAdmitted w.heard → w.run ≡ Some run → is_active (tree_of w.heard) run.doc ≡ true → has_no_asker q ≡ false → asker_of q ≡ run.doc → is_fit w.renderer w.heard q ≡ true
own_fit w run q sound all is active asks asker =
    let t : Tree = tree_of w.heard in
    let there : run.doc < t.docs = sound.there run is in
    asked_fit w.renderer w.heard run.doc q
    (all_three (nat_lt run.doc t.docs) (home_of t run.doc == w.renderer) (t.doc run.doc).been_active (below run.doc t.docs there)
    (eq-eqb (home_of t run.doc) w.renderer (sound.homed run is)) (active_been w.heard run.doc all there active)) asks asker
