-- A renderer that lost its task had heard what it had at the act before, or what it was told since then with no task: on all of
-- the log it would have been given one.
use Rattle.std.proofs.Common.{◌≡◌, ℕ, ◌<◌, ◌≤◌, List, [], ◌∷◌, ◌++◌, length, Some, None, true, false, refl, ap, sym, ◌∙◌, subst, inl, inr, codes, arith}
use Rattle.std.specs.Prelude.{◌⊎◌}
use Rattle.std.proofs.lemmas.Bool.{false≢true, cases_order}
use Rattle.tree_log.specs.declared.entry.Entry.{Entry}
use Rattle.tree_log.specs.declared.entry.What.TheVariants as what
use Rattle.tree_log.specs.Log.{entry_at, prefix}
use Rattle.tree_log.specs.Tree.{tree_of, is_active, is_discarded, chain}
use Rattle.tree_log.proofs.Places.{prefix_length, prefix_whole}
use Rattle.agent_terms.specs.declared.act.Act.{Act}
use Rattle.agent_terms.specs.declared.act.Act.TheVariants.{Step, Task, LostTask}
use Rattle.agent_terms.specs.declared.act.Answer.TheVariants as answer
use Rattle.agent_terms.specs.declared.act.Move.{Move}
use Rattle.agent_terms.specs.declared.act.Move.TheVariants.{Answers, Asks, Takes, Stays}
use Rattle.agent_terms.specs.declared.act.TaskKind.TheVariants as kind
use Rattle.agent_terms.specs.declared.request.Request.TheVariants as ask
use Rattle.coordinator_rules.specs.NextTask.{next_task, task_entry}
use Rattle.coordinator_rules.specs.Decision.{exchange, rules_of}
use Rattle.link_fields.specs.Basic.{number_bytes}
use Rattle.frame_grammar.specs.Entries.{entry}
use Rattle.frame_grammar.specs.Cut.{reply_body}
use Rattle.single_agent.specs.LegalRecord.{is_lost_on, IsMadeOn, StandsIn, about}
use Rattle.single_agent.specs.LostAct.{lost_act, IsLostOn, HasHeard, FoundNone}
use Rattle.single_agent.specs.NextMove.{next_move}
use Rattle.single_agent.specs.Running.{running, step_left}
use Rattle.single_agent.specs.Session.{steps_of, steps_at}
use Rattle.single_agent.specs.Heard.{heard_at, is_told_at_once}
use Rattle.single_agent.specs.Lengths.{length_of, is_lost}
use Rattle.single_agent.proofs.Legal.{act_kept}
use Rattle.url.proofs.OnLiterals.{url_on_literals}
use Rattle.tree_log.specs.Homes.{home_for}
use Rattle.tree_log.specs.Tree.{group_of}
use Rattle.tree_log.specs.declared.entry.Target.TheVariants as targets
use Rattle.agent_terms.specs.declared.request.Request.{Request}
use Rattle.agent_terms.specs.declared.request.ReplyOutcome.TheVariants as reply
use Rattle.coordinator_rules.specs.Decision.{Decision, one, decide, asked_decision}
use Rattle.single_agent.specs.LegalLog.{IsLegalLog, Started, Exchanged, Gave_up}
use Rattle.single_agent.specs.Session.{starts_of}
use Rattle.agent_rows.specs.Coordinator.{hello}
use Rattle.agent_rows.specs.Logs.{started, frame, framed}
use Rattle.agent_rows.specs.Replies.{first, sync}
use Rattle.agent_rows.specs.Tasks.{message}
use Rattle.agent_rows.specs.LostTasks.{failing, took, six, lost_log, IsLegalAt}

-- THE LENGTH OF THE ACT BEFORE

abbrev commit : List Entry
commit = task_entry 1 (what.Commit 1 3 2) ∷ []

task_stands : StandsIn failing 1 lost_log [] (Task 4 kind.Commit 3) commit
unfolding prefix is_lost_on next_move running step_left next_task tree_of is_discarded chain
task_stands = record {
  before = 3;
  later = omega arith;
  not_lost = refl;
  made = inl (record {
    exact = Task 4 kind.Commit 3;
    is = (what.Commit 1 3 2, refl, refl, refl);
    same = refl;
    hears = (omega arith, λ e. refl);
  });
  within = omega arith;
  follow = refl;
  never_falls = omega arith;
  no_longer = omega arith;
  not_lost_then = refl;
}

lost_stands : (heard : ℕ) → 4 ≤ heard → heard ≤ 6 → is_lost_on 1 (prefix heard lost_log) ≡ false → HasHeard (rules_of failing) 1 six took heard → StandsIn failing 1 lost_log took (LostTask heard) []
unfolding prefix is_lost_on next_move running step_left steps_of steps_at entry_at tree_of is_active is_discarded chain
lost_stands heard low high there hears = record {
  before = 6;
  later = omega arith;
  not_lost = refl;
  made = inr (record {
    heard = heard;
    later = low;
    within = high;
    hears = hears;
    lost = refl;
    served = inl refl;
  });
  within = omega arith;
  follow = refl;
  never_falls = low;
  no_longer = omega arith;
  not_lost_then = there;
}

legal_if : (heard : ℕ) → StandsIn failing 1 lost_log took (LostTask heard) [] → IsLegalAt heard
unfolding about
legal_if heard stands = (commit, ([], commit, stands, (commit, [], task_stands, refl, refl), refl), refl)

-- it heard no more than at its task
pub legal_at_four : IsLegalAt 4
unfolding prefix is_lost_on
legal_at_four = legal_if 4 (lost_stands 4 (omega arith) (omega arith) refl (inl refl))

-- it asked again once d1 had synced, and was told so
heard_five : FoundNone (rules_of failing) 1 six 4 5
unfolding prefix next_task tree_of is_discarded chain
heard_five = record { place = 5; later = omega arith; idle = refl; hears = (omega arith, λ e. refl) }

pub legal_at_five : IsLegalAt 5
unfolding prefix is_lost_on
legal_at_five = legal_if 5 (lost_stands 5 (omega arith) (omega arith) refl (inr heard_five))

-- A GREATER LENGTH

-- no move but a loss makes an act that is lost
same_kind : (at : ℕ) (act : Act) → is_lost (heard_at at act) ≡ is_lost act
same_kind at (Step _ doc point op answer.Lost) = refl
same_kind at (Step _ doc point op _) = refl
same_kind at (Task _ kind place) = refl
same_kind at (LostTask _) = refl

not_made : (log : List Entry) (own : List Entry) → IsMadeOn failing 1 log took (LostTask 6) own → ⊥
not_made log own made =
    let kept : is_lost made.exact ≡ false = act_kept (rules_of failing) 1 log took (next_move failing log took) made.exact own made.is in
    false≢true (sym kept ∙ sym (same_kind 6 made.exact) ∙ sym (ap is_lost made.same))

-- a lost task has the length that was heard
lost_at : (newest heard : ℕ) (m : Move) → lost_act newest heard m ≡ Some (LostTask 6) → heard ≡ 6
lost_at newest heard (Answers doc point op outcome) h = absurd cc
lost_at newest heard (Asks doc point op q) h = absurd cc
lost_at newest heard Takes h = let same : LostTask heard ≡ LostTask 6 = cc in ap length_of same
lost_at newest heard Stays h = absurd cc

-- on the six entries it would have been given the message, and on four or five it would have been told no more than these
found_at : (place : ℕ) → 4 ≤ place → place ≤ 6 → next_task (prefix place six) 1 ≡ None
    → (is_told_at_once (rules_of failing) 1 (prefix place six) 4 ask.Next ≡ true → 6 ≡ place) → ⊥
unfolding prefix next_task tree_of is_active is_discarded chain is_told_at_once exchange reply_body number_bytes entry
found_at place low high idle told = by_place (cases_order place 5)
  where
    no_more : (n : ℕ) → place ≡ n → n < 6 → is_told_at_once (rules_of failing) 1 (prefix n six) 4 ask.Next ≡ true → ⊥
    no_more n at few at_once =
        let most : 6 ≡ place = told (subst (λ (k : ℕ). is_told_at_once (rules_of failing) 1 (prefix k six) 4 ask.Next ≡ true) (sym at) at_once) in
        absurd (omega arith)

    taken : next_task (prefix 6 six) 1 ≡ None → ⊥
    taken e = absurd cc

    by_place : (place ≡ 5) ⊎ ((place < 5) ⊎ (5 < place)) → ⊥
    by_place (inl five) = no_more 5 five (omega arith) refl
    by_place (inr (inl less)) = no_more 4 (omega arith) (omega arith) refl
    by_place (inr (inr more)) = let at : place ≡ 6 = omega arith in taken (subst (λ (n : ℕ). next_task (prefix n six) 1 ≡ None) at idle)

never_heard : HasHeard (rules_of failing) 1 six took 6 → ⊥
never_heard (inl same) = absurd (omega arith)
never_heard (inr found) = found_at found.place found.later found.hears.0 found.idle found.hears.1

first_six : prefix 6 lost_log ≡ six
unfolding prefix
first_six = refl

not_lost_on : (before : ℕ) (own : List Entry) → is_lost_on 1 (prefix before lost_log) ≡ false → IsLostOn failing 1 (prefix before lost_log) took (LostTask 6) own → ⊥
unfolding is_lost_on
not_lost_on before own kept lost = by_before (cases_order before 6)
  where
    heard : lost.heard ≡ 6
    heard = lost_at 4 lost.heard (next_move failing (prefix before lost_log) took) lost.lost

    by_before : (before ≡ 6) ⊎ ((before < 6) ⊎ (6 < before)) → ⊥
    by_before (inl same) =
        never_heard
        (subst (λ (l : List Entry). HasHeard (rules_of failing) 1 l took 6) (ap (λ (n : ℕ). prefix n lost_log) same ∙ first_six) (subst (HasHeard (rules_of failing) 1 (prefix before lost_log) took) heard lost.hears))
    by_before (inr (inl less)) =
        let short : length (prefix before lost_log) ≡ before = prefix_length lost_log before (omega arith) in
        let room : lost.heard ≤ length (prefix before lost_log) = lost.within in
        absurd (omega (arith, heard))
    by_before (inr (inr more)) = false≢true (sym kept ∙ ap (is_lost_on 1) (prefix_whole lost_log before (omega arith)))

not_standing : (own : List Entry) → StandsIn failing 1 lost_log took (LostTask 6) own → ⊥
not_standing own stands = elim (stands.made) as (λ _. ⊥) [
  | inl made ↦ not_made (prefix stands.before lost_log) own made
  | inr lost ↦ not_lost_on stands.before own stands.not_lost lost
]

pub not_legal_at_six : IsLegalAt 6 → ⊥
not_legal_at_six (mine, acts, all) = not_standing acts.0 acts.2

-- THE LOG IS LEGAL

-- what a request of renderer r comes to
unfoldable asked : List Entry → ℕ → Request → Decision
unfolding exchange asked_decision decide next_task home_for tree_of is_active is_discarded chain group_of url_on_literals
asked log r q = exchange (rules_of failing) log r q

starts : starts_of failing ≡ first ∷ []
unfolding starts_of home_for tree_of chain group_of url_on_literals
starts = refl

loads_window : asked (first ∷ []) 0 ask.Next ≡ record { entries = task_entry 0 (what.Commit 0 1 0) ∷ []; outcome = reply.Task 1 }
unfolding asked
loads_window = refl

frames : asked started 0 (ask.Frame 1 (codes "f") 0 (Some (codes "https://b.test/x"))) ≡ record { entries = frame (codes "f") 0 ∷ []; outcome = reply.Made 1 }
unfolding asked
frames = refl

loads_frame : asked (frame (codes "f") 0 ∷ started) 1 ask.Next ≡ record { entries = commit; outcome = reply.Task 3 }
unfolding asked
loads_frame = refl

syncs : asked framed 0 (ask.Sync 1) ≡ one 0 1 what.Sync reply.Done
unfolding asked
syncs = refl

posts : asked (sync ∷ framed) 0 (ask.Post 1 3 targets.Any hello) ≡ record { entries = message ∷ []; outcome = reply.Done }
unfolding asked
posts = refl

after : (log : List Entry) (r : ℕ) (q : Request) (d : Decision) → asked log r q ≡ d → r < 3 → IsLegalLog failing log → IsLegalLog failing (d.entries ++ log)
unfolding asked
after log r q d is lt legal = subst (λ (x : Decision). IsLegalLog failing (x.entries ++ log)) is (Exchanged log r q legal lt)

pub lost_log_legal : IsLegalLog failing lost_log
lost_log_legal =
    let opened : IsLegalLog failing (first ∷ []) = subst (IsLegalLog failing) starts Started in
    let shown = after _ _ _ _ loads_window (omega arith) opened in
    let framed = after _ _ _ _ frames (omega arith) shown in
    let loaded = after _ _ _ _ loads_frame (omega arith) framed in
    let synced = after _ _ _ _ syncs (omega arith) loaded in
    let posted = after _ _ _ _ posts (omega arith) synced in
    Gave_up six 1 posted (omega arith)
