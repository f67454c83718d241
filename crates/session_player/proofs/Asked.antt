-- A step that asks.
use Rattle.std.proofs.Common.{◌≡◌, ℕ, ◌+◌, ◌<◌, ◌≤◌, List, [], ◌∷◌, ◌++◌, length, reverse, Option, Some, Bool, true, false, refl, sym, ap, subst, ◌∙◌, arith}
use Rattle.std.specs.Prelude.{IsTrue, ◌&&◌}
use Rattle.std.specs.Option.{option_map}
use Rattle.std.proofs.lemmas.List.{reverse-append}
use Rattle.tree_log.specs.declared.entry.Entry.{Entry}
use Rattle.tree_log.specs.Facts.{navs_after}
use Rattle.tree_log.specs.Tree.{Tree, tree_of, is, is_active, nav_of}
use Rattle.agent_terms.specs.declared.session.Session.{Session}
use Rattle.agent_terms.specs.declared.act.Act.{Act}
use Rattle.agent_terms.specs.declared.act.Act.TheVariants.{Step as StepAct}
use Rattle.agent_terms.specs.declared.act.Answer.{Answer}
use Rattle.agent_terms.specs.declared.act.Answer.TheVariants as answer
use Rattle.agent_terms.specs.declared.act.Move.TheVariants.{Asks}
use Rattle.agent_terms.specs.declared.act.Point.{Point}
use Rattle.agent_terms.specs.declared.act.Running.{Running}
use Rattle.agent_terms.specs.declared.request.Request.{Request}
use Rattle.agent_terms.specs.declared.request.Request.TheVariants as ask
use Rattle.agent_terms.specs.declared.request.ReplyOutcome.{ReplyOutcome}
use Rattle.agent_terms.specs.declared.request.ReplyOutcome.TheVariants as reply
use Rattle.agent_terms.specs.declared.step.OpName.{OpName}
use Rattle.agent_terms.specs.declared.step.OpName.TheVariants as names
use Rattle.agent_terms.specs.declared.outcome.Outcome.TheVariants as outcome
use Rattle.window_props.specs.declared.value.Value.TheVariants as value
use Rattle.object_access.specs.Values.{null}
use Rattle.agent_terms.specs.Built.{is_made}
use Rattle.origin_core.specs.Flags.{union}
use Rattle.coordinator_rules.specs.Navigation.{flags_in}
use Rattle.coordinator_rules.specs.Decision.{Rules, rules_of, frame_entry, Decision, decide, is_in_fragment, asker_of, home_if_active, asked_decision, exchange}
use Rattle.object_access.specs.Registers.{value_in}
use Rattle.single_agent.specs.Running.{Left, one_more}
use Rattle.single_agent.specs.Sights.{registers_after}
use Rattle.single_agent.specs.NextAct.{rule_of, done_of, answer_of}
use Rattle.single_agent.specs.Turns.{IsFull, needs_room}
use Rattle.single_agent.specs.Mine.{IsMine}
use Rattle.single_agent.proofs.Mine.{mine_now, yours_of, IsNoTask, exchange_asked}
use Rattle.tree_log.specs.Urls.{url_of}
use Rattle.session_player.specs.declared.desk.Told.{Told}
use Rattle.session_player.specs.declared.requests.Replied.{Replied}
use Rattle.session_player.specs.declared.worker.Turn.TheVariants.{Acted, Full}
use Rattle.script_steps.specs.Reached.{IsValueThere}
use Rattle.session_player.specs.Serves.{Ledger, Replies, is_yours, AnswersRequest}
use Rattle.session_player.specs.Steps.{Holds, IsTied, IsOwnRun, HeardAll, AskEnds, left_now, stores_then}
use Rattle.session_player.proofs.Asking.{asked_ended, asked_active}
use Rattle.session_player.proofs.Few.{asked_few}

-- THE ASKER IS ONE OF THE RENDERER'S DOCUMENTS

own_doc : (r : ℕ) (t : Tree) (held : Option Running) (run : Running) → held ≡ Some run → IsOwnRun r t held → IsMine r t run.doc
own_doc r t held run e own = subst (IsOwnRun r t) e own

pub mine_of : (r : ℕ) (w : Holds) (l : Ledger) (run : Running) → IsTied r w l → w.run ≡ Some run → IsMine r (tree_of l.log) run.doc
mine_of r w l run tied e = mine_now r w.heard l.log run.doc tied.admitted (subst (λ (t : Tree). IsMine r t run.doc) tied.tree (own_doc r w.tree w.run run e tied.own))

pub yours : (r : ℕ) (w : Holds) (l : Ledger) (run : Running) (q : Request) → IsTied r w l → w.run ≡ Some run → asker_of q ≡ run.doc → is_yours l.log r q ≡ true
yours r w l run q tied e asker = ap (λ d. is (home_if_active (tree_of l.log) d) r) asker ∙ yours_of r (tree_of l.log) run.doc (mine_of r w l run tied e)

pub never_refused : (r : ℕ) (w : Holds) (l : Ledger) (run : Running) (q : Request) → IsTied r w l → w.run ≡ Some run → asker_of q ≡ run.doc → is_yours l.log r q ≡ false → ⊥
never_refused r w l run q tied e asker other = let clash : true ≡ false = sym (yours r w l run q tied e asker) ∙ other in absurd cc

-- ITS EXCHANGE

no_task : (q : Request) → is_made q ≡ true → IsNoTask q
unfolding is_made
no_task ask.Next h = absurd cc
no_task ask.More h = absurd cc
no_task _ h = tt

pub exchanged : (rules : Rules) (log : List Entry) (r : ℕ) (q : Request) → is_made q ≡ true → is_yours log r q ≡ true → exchange rules log r q ≡ asked_decision rules log r q
exchanged rules log r q made mine = exchange_asked rules log r q (no_task q made) mine

needs : (log : List Entry) (r doc : ℕ) (point : Point) (op : OpName) (q : Request) → is_yours log r q ≡ true → is_active (tree_of log) (asker_of q) ≡ true → IsTrue (needs_room (tree_of log) r (Asks doc point op q))
needs log r doc point op q mine active = rw (mine, active) refl

active_if : (a b : Bool) → (a && b) ≡ true → b ≡ true
active_if true b h = h
active_if false b h = absurd cc

-- the log has no room
pub asked_full : (s : Session) (r doc : ℕ) (point : Point) (op : OpName) (q : Request) (w v : Holds) (l m : Ledger) → is_yours l.log r q ≡ true → is_active (tree_of l.log) (asker_of q) ≡ true → IsFull l.log → v ≡ w → m ≡ l
    → AskEnds s r doc point op q w l Full v m
asked_full s r doc point op q w v l m mine active full same ledger = (needs l.log r doc point op q mine active, full, same, ledger)

-- WHAT IS MADE IS THERE

no_nav : (q : Request) (nav : ℕ) (d : Decision) (n : ℕ) → d.outcome ≡ reply.Done → d.outcome ≡ reply.Made nav → n ≤ n
no_nav q nav d n done made = let clash : reply.Done ≡ reply.Made nav = sym done ∙ made in absurd cc

navs_more : (e : Entry) (log : List Entry) → (tree_of (e ∷ log)).navs ≡ navs_after e.what (tree_of log).navs
unfolding tree_of
navs_more e log = refl

decided_there : (rules : Rules) (log : List Entry) (f : ℕ → List ℕ → Bool) (r : ℕ) (q : Request) (nav : ℕ) → is_made q ≡ true → (decide rules (tree_of log) f r q).outcome ≡ reply.Made nav
    → nav < (tree_of ((decide rules (tree_of log) f r q).entries ++ log)).navs
unfolding decide is_made
decided_there rules log f r (ask.Sync asker) nav made h = absurd cc
decided_there rules log f r (ask.Frame asker name flags url) nav made h =
    let t = tree_of log in
    let e : Entry = record { by = Some r; actor = Some asker; what = frame_entry rules t asker name (union flags (flags_in t (nav_of t asker))) url } in
    let same : t.navs ≡ nav = cc in
    let more : (tree_of (e ∷ log)).navs ≡ t.navs + 1 = navs_more e log in
    let later : nav < (tree_of (e ∷ log)).navs = omega (arith, same, more) in
    later
decided_there rules log f r (ask.Drop asker n) nav made h = absurd cc
decided_there rules log f r _ nav made h = absurd cc

pub made_there : (rules : Rules) (log : List Entry) (r : ℕ) (q : Request) (nav : ℕ) → is_made q ≡ true → (asked_decision rules log r q).outcome ≡ reply.Made nav → nav < (tree_of ((asked_decision rules log r q).entries ++ log)).navs
made_there rules log r q nav made h = by (is_active (tree_of log) (asker_of q)) refl where
  by : (b : Bool) → is_active (tree_of log) (asker_of q) ≡ b → nav < (tree_of ((asked_decision rules log r q).entries ++ log)).navs
  by true active =
      let d = asked_active rules log r q active in
      subst (λ (x : Decision). nav < (tree_of (x.entries ++ log)).navs) (sym d)
      (decided_there rules log (is_in_fragment (tree_of log) (url_of log)) r q nav made (sym (ap (λ (x : Decision). x.outcome) d) ∙ h))
  by false ended = let d = ap (λ (x : Decision). x.outcome) (asked_ended rules log r q ended) in let clash : reply.Unloaded _ ≡ reply.Made nav = sym d ∙ h in absurd cc

-- the window that an answer holds is there once the log is heard
pub answer_there : (s : Session) (r : ℕ) (op : OpName) (q : Request) (replied : Replied) (told : Told) (t : Tree) (l m : Ledger) → is_made q ≡ true → AnswersRequest (rules_of s) r q l replied told m → t ≡ tree_of m.log
    → (o : ReplyOutcome) (given : Answer) → o ≡ (asked_decision (rules_of s) l.log r q).outcome → Some given ≡ answer_of op o → IsValueThere t (value_in given)
answer_there s r op q replied told t l m made a tree (reply.Made nav) given e gives =
    let same : answer.Outcome (outcome.Value (value.Window nav)) ≡ given = cc in
    subst (λ (x : Answer). IsValueThere t (value_in x)) same (subst (λ (u : Tree). nav < u.navs) (sym (tree ∙ ap tree_of a.log)) (made_there (rules_of s) l.log r q nav made (sym e)))
answer_there s r op q replied told t l m made a tree reply.Done given e gives = let same : done_of op ≡ given = cc in subst (λ (x : Answer). IsValueThere t (value_in x)) same (done op) where
  done : (o : OpName) → IsValueThere t (value_in (done_of o))
  done names.Set = tt
  done _ = tt
answer_there s r op q replied told t l m made a tree (reply.Security n) given e gives =
    let same : answer.Outcome (outcome.Security (rule_of n)) ≡ given = cc in subst (λ (x : Answer). IsValueThere t (value_in x)) same tt
answer_there s r op q replied told t l m made a tree reply.Null given e gives =
    let same : answer.Outcome (outcome.Value null) ≡ given = cc in subst (λ (x : Answer). IsValueThere t (value_in x)) same tt
answer_there s r op q replied told t l m made a tree (reply.Unloaded place) given e gives =
    let same : answer.Unloaded ≡ given = cc in subst (λ (x : Answer). IsValueThere t (value_in x)) same tt
answer_there s r op q replied told t l m made a tree _ given e gives = absurd cc

-- A STEP MORE

pub step_last : (xs ys : List Act) (a : Act) → ys ≡ xs ++ a ∷ [] → reverse ys ≡ a ∷ reverse xs
step_last xs ys a e = ap reverse e ∙ reverse-append xs (a ∷ [])

pub asked_acted : (s : Session) (r doc : ℕ) (point : Point) (op : OpName) (q : Request) (replied : Replied) (told : Told) (given : Answer) (left : Left) (xs ys : List Act) (at : ℕ) (w v : Holds) (l m : Ledger)
    → is_made q ≡ true → AnswersRequest (rules_of s) r q l replied told m → HeardAll r l v m → ((o : ReplyOutcome) → Replies replied o → Some given ≡ answer_of op o)
    → w.acts ≡ reverse xs → v.acts ≡ reverse ys → ys ≡ xs ++ StepAct at doc point op given ∷ [] → at ≡ v.heard
    → v.run ≡ option_map one_more w.run → left_now s w ≡ Some left → v.registers ≡ registers_after (Some left) given w.registers → v.stores ≡ w.stores → stores_then (Some left) w ≡ w.stores → AskEnds s r doc point op q w l Acted v m
asked_acted s r doc point op q replied told given left xs ys at w v l m made a all gives old new pushed is_at run is registers stores same_stores =
    let same : exchange (rules_of s) l.log r q ≡ asked_decision (rules_of s) l.log r q = exchanged (rules_of s) l.log r q made a.yours in (
      λ n. a.room (active_if (is_yours l.log r q) (is_active (tree_of l.log) (asker_of q)) n),
      record {
        log = a.log ∙ ap (λ (d : Decision). d.entries ++ l.log) (sym same);
        few = λ short. subst (λ (g : List Entry). length g ≤ 40000) (sym a.log) (asked_few (rules_of s) l.log r q short a.room);
        given = given;
        gives = gives (asked_decision (rules_of s) l.log r q).outcome a.replies ∙ ap (λ (d : Decision). answer_of op d.outcome) (sym same);
        acts = new ∙ step_last xs ys (StepAct at doc point op given) pushed ∙ ap (λ k. StepAct k doc point op given ∷ reverse xs) (is_at ∙ all.heard)
            ∙ ap (λ acts. StepAct (length m.log) doc point op given ∷ acts) (sym old);
        run = run;
        registers = registers ∙ ap (λ (o : Option Left). registers_after o given w.registers) (sym is);
        stores = stores;
        same = ap (λ (o : Option Left). stores_then o w) is ∙ same_stores;
        all = all;
      },
    )
