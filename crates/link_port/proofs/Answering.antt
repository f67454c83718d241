-- What a coordinator answers to a request: an outcome that the request may have.
use Rattle.std.proofs.Common.{◌≡◌, ℕ, List, [], ◌∷◌, ◌++◌, length, map, Option, Some, None, Bool, true, false, refl, sym, subst, if◌then◌else◌}
use Rattle.std.specs.Prelude.{nat_lt, ◌==◌, ◌&&◌}
use Rattle.std.specs.Char.{to_ascii_lowercase}
use Rattle.agent_laws.specs.Actors.{has_no_asker}
use Rattle.agent_terms.specs.declared.request.Request.{Request}
use Rattle.agent_terms.specs.declared.request.Request.TheVariants as ask
use Rattle.agent_terms.specs.declared.request.ReplyOutcome.{ReplyOutcome}
use Rattle.agent_terms.specs.declared.request.ReplyOutcome.TheVariants as reply
use Rattle.coordinator_rules.specs.Decision.{Rules, Decision, asker_of, asking, by, decide, domain_decision, domain_set, effective_domain, end_of, home_if_active, is_address, is_in_fragment, is_live, made_or_null, navigation, one, open_chosen, opener_entry, task_decision}
use Rattle.coordinator_rules.specs.Navigation.{Choice, Existing, New, Nothing, choice, flags_in, may_navigate}
use Rattle.coordinator_rules.specs.NextTask.{next_task}
use Rattle.coordinator_rules.specs.Told.{told_log}
use Rattle.desk.specs.Refusals.{refused_with}
use Rattle.desk.specs.Serving.{decided, full}
use Rattle.desk.proofs.Deciding.{decided_asked, decided_full, decided_more, decided_next, decided_next_full, decided_unloaded}
use Rattle.frame_grammar.specs.Cut.{is_telling}
use Rattle.link_wire.specs.Links.{answers, is_fit, is_own}
use Rattle.origin_core.specs.Flags.{has_domain}
use Rattle.origin_core.specs.Site.{fits}
use Rattle.single_agent.specs.Mine.{IsMine}
use Rattle.single_agent.specs.Turns.{is_full}
use Rattle.single_agent.proofs.Mine.{mine_now, yours_of}
use Rattle.tree_log.specs.declared.entry.Entry.{Entry}
use Rattle.tree_log.specs.declared.entry.What.{What}
use Rattle.tree_log.specs.declared.entry.What.TheVariants as what
use Rattle.tree_log.specs.Admits.{AreAdmitted}
use Rattle.tree_log.specs.Log.{prefix}
use Rattle.tree_log.specs.Tree.{Tree, tree_of, domain_of, home_of, is, is_active, nav_of, origin_of, same_domain}
use Rattle.tree_log.specs.Urls.{url_of}
use Rattle.tree_log.proofs.Admitted.{both, eq_of, lt_of}
use Rattle.link_port.proofs.Told.{told_admitted, told_tree}

-- OUTCOMES

-- a request may have the outcome, and the reply tells entries
pub record Answers (q : Request) (o : ReplyOutcome) : Type 0 where
  pub answers : answers q o ≡ true
  pub telling : is_telling o ≡ true

-- what is so of each case is so of a decision by tests
pub if_so : (P : Decision → Type 0) (b : Bool) (c d : Decision) → P c → P d → P (if b then c else d)
if_so P true c d h k = h
if_so P false c d h k = k

pub twice_so : (P : Decision → Type 0) (a b : Bool) (c d e : Decision) → P c → P d → P e → P (if a then if b then c else d else e)
twice_so P true b c d e h k j = if_so P b c d h k
twice_so P false b c d e h k j = j

made_answers : (asker : ℕ) (url : Option (List ℕ)) (name : List ℕ) (noopener user : Bool) (n : ℕ) → Answers (ask.Open asker url name noopener user) (made_or_null noopener n)
made_answers asker url name true user n = record { answers = refl; telling = refl }
made_answers asker url name false user n = record { answers = refl; telling = refl }

open_answers : (rules : Rules) (t : Tree) (f : ℕ → List ℕ → Bool) (r asker : ℕ) (url : Option (List ℕ)) (name : List ℕ) (noopener user : Bool) (c : Choice)
    → Answers (ask.Open asker url name noopener user) (open_chosen (asking rules t r asker noopener user) f url name c).outcome
open_answers rules t f r asker url name noopener user Nothing = record { answers = refl; telling = refl }
open_answers rules t f r asker url name noopener user New = made_answers asker url name noopener user t.navs
open_answers rules t f r asker None name noopener user (Existing n) = made_answers asker None name noopener user n
open_answers rules t f r asker (Some url) name noopener user (Existing n) =
    if_so (λ d. Answers (ask.Open asker (Some url) name noopener user) d.outcome) (may_navigate t (nav_of t asker) n user)
    (record { entries = opener_entry t r asker noopener n ++ by r asker (navigation rules t (f n url) asker n url) ∷ []; outcome = made_or_null noopener n }) (one r asker what.Sync (reply.Security 7))
    (made_answers asker (Some url) name noopener user n) (record { answers = refl; telling = refl })

set_answers : (rules : Rules) (t : Tree) (r asker : ℕ) (asked value : List ℕ) (o : Option (List ℕ)) → Answers (ask.Domain asker asked) (domain_set rules t r asker value o).outcome
set_answers rules t r asker asked value None = record { answers = refl; telling = refl }
set_answers rules t r asker asked value (Some effective) =
    if_so (λ d. Answers (ask.Domain asker asked) d.outcome) (fits value effective (is_address (origin_of t asker)) rules.suffixes) (one r asker (what.Domain asker value) reply.Done) (one r asker what.Sync (reply.Security 11))
    (record { answers = refl; telling = refl }) (record { answers = refl; telling = refl })

domain_answers : (rules : Rules) (t : Tree) (r asker : ℕ) (asked value : List ℕ) → Answers (ask.Domain asker asked) (domain_decision rules t r asker value).outcome
domain_answers rules t r asker asked value =
    let o = effective_domain (origin_of t asker) (domain_of t asker) in
    if_so (λ d. Answers (ask.Domain asker asked) d.outcome) (has_domain (flags_in t (nav_of t asker))) (one r asker what.Sync (reply.Security 9)) (domain_set rules t r asker value o)
    (record { answers = refl; telling = refl }) (set_answers rules t r asker asked value o)

decide_answers : (rules : Rules) (t : Tree) (f : ℕ → List ℕ → Bool) (r : ℕ) (q : Request) → has_no_asker q ≡ false → Answers q (decide rules t f r q).outcome
unfolding decide has_no_asker
decide_answers rules t f r ask.Next h = absurd cc
decide_answers rules t f r ask.More h = absurd cc
decide_answers rules t f r (ask.Open asker url name noopener user) h = open_answers rules t f r asker url name noopener user (choice t (nav_of t asker) name noopener user)
decide_answers rules t f r (ask.Go asker doc url user) h =
    twice_so (λ d. Answers (ask.Go asker doc url user) d.outcome) (is_live t asker doc) (may_navigate t (nav_of t asker) (nav_of t doc) user)
    (one r asker (navigation rules t (f (nav_of t doc) url) asker (nav_of t doc) url) reply.Done) (one r asker what.Sync (reply.Security 7)) (one r asker what.Sync reply.Done)
    (record { answers = refl; telling = refl }) (record { answers = refl; telling = refl }) (record { answers = refl; telling = refl })
decide_answers rules t f r (ask.Name asker doc name) h =
    twice_so (λ d. Answers (ask.Name asker doc name) d.outcome) (is_live t asker doc) (same_domain t asker doc)
    (one r asker (what.Name (nav_of t doc) name) reply.Done) (one r asker what.Sync (reply.Security 8)) (one r asker what.Sync reply.Done)
    (record { answers = refl; telling = refl }) (record { answers = refl; telling = refl }) (record { answers = refl; telling = refl })
decide_answers rules t f r (ask.Disown asker doc) h =
    twice_so (λ d. Answers (ask.Disown asker doc) d.outcome) (is_live t asker doc) (same_domain t asker doc)
    (one r asker (what.Opener (nav_of t doc) None) reply.Done) (one r asker what.Sync (reply.Security 8)) (one r asker what.Sync reply.Done)
    (record { answers = refl; telling = refl }) (record { answers = refl; telling = refl }) (record { answers = refl; telling = refl })
decide_answers rules t f r (ask.Domain asker value) h = domain_answers rules t r asker value (map to_ascii_lowercase value)
decide_answers rules t f r _ h = record { answers = refl; telling = refl }

unloaded_answers : (q : Request) (place : ℕ) → has_no_asker q ≡ false → Answers q (reply.Unloaded place)
unfolding has_no_asker
unloaded_answers ask.Next place h = absurd cc
unloaded_answers ask.More place h = absurd cc
unloaded_answers _ place h = record { answers = refl; telling = refl }

full_answers : (q : Request) (len : ℕ) → has_no_asker q ≡ false → Answers q (reply.Full len)
unfolding has_no_asker
full_answers ask.Next len h = absurd cc
full_answers ask.More len h = absurd cc
full_answers _ len h = record { answers = refl; telling = refl }

-- what is decided on a request of a document that is homed at the renderer and has been active, where each case has it
pub asked_cases : (P : Decision → Type 0) (rules : Rules) (log : List Entry) (r : ℕ) (q : Request) → has_no_asker q ≡ false → is (home_if_active (tree_of log) (asker_of q)) r ≡ true
    → P (refused_with (reply.Unloaded (end_of log (asker_of q)))) → P (full log)
    → (is_active (tree_of log) (asker_of q) ≡ true → P (decide rules (tree_of log) (is_in_fragment (tree_of log) (url_of log)) r q)) → P (decided rules log r q)
asked_cases P rules log r q asks home ended no_room made = by_active (is_active (tree_of log) (asker_of q)) refl
  where
    by_room : (b : Bool) → is_full log ≡ b → is_active (tree_of log) (asker_of q) ≡ true → P (decided rules log r q)
    by_room true f a = subst P (sym (decided_full rules log r q asks home a f)) no_room
    by_room false f a = subst P (sym (decided_asked rules log r q asks home a f)) (made a)

    by_active : (b : Bool) → is_active (tree_of log) (asker_of q) ≡ b → P (decided rules log r q)
    by_active true a = by_room (is_full log) refl a
    by_active false a = subst P (sym (decided_unloaded rules log r q asks home a)) ended

-- what is decided where no document asks, where each case has it
pub next_cases : (P : Decision → Type 0) (rules : Rules) (log : List Entry) (r : ℕ) → P (full log) → P (task_decision r (length log) (next_task log r)) → P (decided rules log r ask.Next)
next_cases P rules log r no_room taken = by_room (is_full log) refl
  where
    by_room : (b : Bool) → is_full log ≡ b → P (decided rules log r ask.Next)
    by_room true f = subst P (sym (decided_next_full rules log r f)) no_room
    by_room false f = subst P (sym (decided_next rules log r (next_task log r) f refl)) taken

task_answers : (r place : ℕ) (o : Option What) → Answers ask.Next (task_decision r place o).outcome
task_answers r place None = record { answers = refl; telling = refl }
task_answers r place (Some w) = record { answers = refl; telling = refl }

-- ONE'S OWN DOCUMENTS

own_asker : (r : ℕ) (heard : List Entry) (q : Request) → has_no_asker q ≡ false → is_fit r heard q ≡ true → is_own r heard (asker_of q) ≡ true
unfolding has_no_asker
own_asker r heard ask.Next asks h = absurd cc
own_asker r heard ask.More asks h = absurd cc
own_asker r heard _ asks h = h

mine_of : (r : ℕ) (heard : List Entry) (d : ℕ) → is_own r heard d ≡ true → IsMine r (tree_of heard) d
mine_of r heard d h =
    let last = both (nat_lt d (tree_of heard).docs && (home_of (tree_of heard) d == r)) ((tree_of heard).doc d).been_active h in
    let first = both (nat_lt d (tree_of heard).docs) (home_of (tree_of heard) d == r) last.0 in
    record { there = lt_of d (tree_of heard).docs first.0; been = last.1; home = eq_of (home_of (tree_of heard) d) r first.1 }

-- an own document on what was heard is one on the log
own_now : (r told : ℕ) (log : List Entry) (q : Request) → AreAdmitted log → has_no_asker q ≡ false → is_fit r (prefix told (told_log r log)) q ≡ true → is (home_if_active (tree_of log) (asker_of q)) r ≡ true
own_now r told log q all asks fit =
    let heard = mine_of r (prefix told (told_log r log)) (asker_of q) (own_asker r (prefix told (told_log r log)) q asks fit) in
    let mine : IsMine r (tree_of (told_log r log)) (asker_of q) = mine_now r told (told_log r log) (asker_of q) (told_admitted r log all) heard in
    yours_of r (tree_of log) (asker_of q) (subst (λ (t : Tree). IsMine r t (asker_of q)) (told_tree r log) mine)

asked_answers : (rules : Rules) (log : List Entry) (r told : ℕ) (q : Request) → AreAdmitted log → has_no_asker q ≡ false → is_fit r (prefix told (told_log r log)) q ≡ true → Answers q (decided rules log r q).outcome
asked_answers rules log r told q all asks fit =
    asked_cases (λ d. Answers q d.outcome) rules log r q asks (own_now r told log q all asks fit)
    (unloaded_answers q (end_of log (asker_of q)) asks) (full_answers q (length log) asks)
    (λ a. decide_answers rules (tree_of log) (is_in_fragment (tree_of log) (url_of log)) r q asks)

-- to a fit request the outcome is one that it may have
pub fit_answers : (rules : Rules) (log : List Entry) (r told : ℕ) (q : Request) → AreAdmitted log → is_fit r (prefix told (told_log r log)) q ≡ true → Answers q (decided rules log r q).outcome
unfolding has_no_asker
fit_answers rules log r told ask.Next all fit = next_cases (λ d. Answers ask.Next d.outcome) rules log r (record { answers = refl; telling = refl }) (task_answers r (length log) (next_task log r))
fit_answers rules log r told ask.More all fit = subst (λ (d : Decision). Answers ask.More d.outcome) (sym (decided_more rules log r)) (record { answers = refl; telling = refl })
fit_answers rules log r told q all fit = asked_answers rules log r told q all refl fit
