-- Where the reply to renderer 1 is cut on a log of thousands of syncs.
use Rattle.std.proofs.Common.{◌≡◌, ℕ, zero, suc, ◌+◌, ◌*◌, ◌-◌, ◌<◌, ◌≤◌, None, List, [], ◌∷◌, ◌++◌, length, take, replicate, reverse, Bool, true, false, refl, ap, sym, ◌∙◌, subst, inl, inr, if◌then◌else◌, arith}
use Rattle.std.specs.Prelude.{nat_le, nat_lt}
use Rattle.std.specs.List.{flat_map}
use Rattle.std.proofs.lemmas.Bool.{false≢true, cases_order}
use Rattle.std.proofs.lemmas.Bool.Decides.{nat_tests}
use Rattle.std.proofs.lemmas.List.{length-append, length-replicate, take_all, take-append-le, take-replicate, reverse-append}
use Rattle.url.proofs.OnLiterals.{url_on_literals}
use Rattle.tree_log.specs.declared.entry.Entry.{Entry}
use Rattle.tree_log.specs.Tree.{Tree, tree_of, is_active, is_discarded, chain, group_of}
use Rattle.agent_terms.specs.declared.request.ReplyOutcome.{ReplyOutcome}
use Rattle.agent_terms.specs.declared.request.ReplyOutcome.TheVariants as reply
use Rattle.link_fields.specs.Basic.{number_bytes, u32}
use Rattle.frame_grammar.specs.Entries.{entry}
use Rattle.frame_grammar.specs.Outcomes.{outcome_body}
use Rattle.frame_grammar.specs.Cut.{reply_body, has_room, told_of, cut_at, cut_reply, reply_telling}
use Rattle.coordinator_rules.specs.Told.{told_log, news_from}
use Rattle.tree_log.specs.declared.entry.What.TheVariants as what
use Rattle.tree_log.specs.Homes.{home_for}
use Rattle.tree_log.specs.Log.{is}
use Rattle.agent_terms.specs.declared.request.Request.{Request}
use Rattle.agent_terms.specs.declared.request.Request.TheVariants as ask
use Rattle.coordinator_rules.specs.NextTask.{first_task, is_over, next_task}
use Rattle.coordinator_rules.specs.Decision.{Decision, one, decide, exchange, asked_decision, home_if_active, task_decision, rules_of}
use Rattle.single_agent.specs.LegalLog.{IsLegalLog, Started, Exchanged}
use Rattle.single_agent.specs.Session.{starts_of}
use Rattle.twin_laws.specs.Worlds.{reply_of}
use Rattle.agent_rows.specs.Logs.{started}
use Rattle.agent_rows.specs.Replies.{sync, commit, first, sync_takes, commit_takes, first_takes, synced, pair, replied, IsToldInTwo}

-- WHERE A REPLY IS CUT

told_step : (outcome : ReplyOutcome) (from : ℕ) (news : List Entry) (k n : ℕ) → k ≤ suc n → has_room outcome from (take k news) ≡ true
    → ((j : ℕ) → k < j → j ≤ suc n → has_room outcome from (take j news) ≡ false) → (k ≤ n → told_of outcome from news n ≡ k)
    → (b : Bool) → has_room outcome from (take (suc n) news) ≡ b → (if b then suc n else told_of outcome from news n) ≡ k
told_step outcome from news k n le room none rest true e =
    elim (cases_order k (suc n)) as (λ _. suc n ≡ k) [
      | inl same ↦ sym same
      | inr other ↦ elim other as (λ _. suc n ≡ k) [
        | inl lt ↦ absurd (false≢true (sym (none (suc n) lt (omega arith)) ∙ e))
        | inr gt ↦ absurd (omega arith)
      ]
    ]
told_step outcome from news k n le room none rest false e =
    elim (cases_order k (suc n)) as (λ _. told_of outcome from news n ≡ k) [
      | inl same ↦ absurd (false≢true (sym e ∙ ap (λ (j : ℕ). has_room outcome from (take j news)) (sym same) ∙ room))
      | inr other ↦ rest (omega arith)
    ]

-- the greatest number for which a reply has room
told_is : (outcome : ReplyOutcome) (from : ℕ) (news : List Entry) (k n : ℕ) → k ≤ n → has_room outcome from (take k news) ≡ true
    → ((j : ℕ) → k < j → j ≤ n → has_room outcome from (take j news) ≡ false) → told_of outcome from news n ≡ k
unfolding told_of
told_is outcome from news k zero le room none = omega arith
told_is outcome from news k (suc n) le room none =
    told_step outcome from news k n le room none (λ lower. told_is outcome from news k n lower room (λ j lt up. none j lt (omega arith))) (has_room outcome from (take (suc n) news)) refl

-- THE SIZES OF BODIES

number_takes : (n : ℕ) → length (u32.spell n) ≡ 4
unfolding number_bytes
number_takes n = refl

syncs_take : (k : ℕ) → length (flat_map entry.spell (replicate k sync)) ≡ k * 9
syncs_take zero = refl
syncs_take (suc k) = length-append (entry.spell sync) (flat_map entry.spell (replicate k sync)) ∙ (omega (arith, sync_takes, syncs_take k))

-- a body whose outcome has no fields
plain_body : (outcome : ReplyOutcome) (from : ℕ) (more : Bool) (news : List Entry) → outcome_body outcome ≡ []
    → length (reply_body (record { outcome = outcome; from = from; more = more; news = news })) ≡ 9 + length (flat_map entry.spell news)
unfolding reply_body number_bytes
plain_body outcome from true news e = rw e (omega arith)
plain_body outcome from false news e = rw e (omega arith)

-- what renderer 1 is told first, and of so many syncs
abbrev fronted : ℕ → List Entry
fronted n = first ∷ commit ∷ replicate n sync

fronted_takes : (k : ℕ) → length (flat_map entry.spell (fronted k)) ≡ 81 + k * 9
fronted_takes k =
    length-append (entry.spell first) (entry.spell commit ++ flat_map entry.spell (replicate k sync))
    ∙ (omega (arith, first_takes, commit_takes, syncs_take k, length-append (entry.spell commit) (flat_map entry.spell (replicate k sync))))

fronted_body : (k : ℕ) (more : Bool) → length (reply_body (record { outcome = reply.Nothing; from = 0; more = more; news = fronted k })) ≡ 90 + k * 9
fronted_body k more = plain_body reply.Nothing 0 more (fronted k) refl ∙ (omega (arith, fronted_takes k))

synced_body : (from k : ℕ) (more : Bool) → length (reply_body (record { outcome = reply.Done; from = from; more = more; news = replicate k sync })) ≡ 9 + k * 9
synced_body from k more = plain_body reply.Done from more (replicate k sync) refl ∙ (omega (arith, syncs_take k))

-- WHAT IS TOLD

told_synced : (n : ℕ) → told_log 1 (synced n) ≡ replicate n sync ++ commit ∷ first ∷ []
unfolding synced tree_of url_on_literals
told_synced zero = refl
told_synced (suc n) = ap (λ (es : List Entry). sync ∷ es) (told_synced n)

length_synced : (n : ℕ) → length (synced n) ≡ n + 2
unfolding synced
length_synced zero = refl
length_synced (suc n) = omega (arith, length_synced n)

one_more : (n : ℕ) → replicate n sync ++ sync ∷ [] ≡ sync ∷ replicate n sync
one_more zero = refl
one_more (suc n) = ap (λ (es : List Entry). sync ∷ es) (one_more n)

turned : (n : ℕ) → reverse (replicate n sync) ≡ replicate n sync
turned zero = refl
turned (suc n) = reverse-append (sync ∷ []) (replicate n sync) ∙ ap (λ (es : List Entry). es ++ sync ∷ []) (turned n) ∙ one_more n

news_first : (n : ℕ) → news_from 1 0 (synced n) ≡ fronted n
news_first n =
    let all : take (length (synced n) - 0) (told_log 1 (synced n)) ≡ replicate n sync ++ commit ∷ first ∷ [] =
    rw (told_synced n, length_synced n)
    (take_all (n + 2 - 0) (replicate n sync ++ commit ∷ first ∷ []) (omega (arith, length-append (replicate n sync) (commit ∷ first ∷ []), length-replicate n sync))) in
    ap reverse all ∙ reverse-append (replicate n sync) (commit ∷ first ∷ []) ∙ ap (λ (es : List Entry). first ∷ commit ∷ es) (turned n)

news_rest : (m k : ℕ) → news_from 1 (m + 2) (synced (m + k)) ≡ replicate k sync
news_rest m k =
    let left : length (synced (m + k)) - (m + 2) ≡ k = omega (arith, length_synced (m + k)) in
    let some : take (length (synced (m + k)) - (m + 2)) (told_log 1 (synced (m + k))) ≡ replicate k sync =
    rw (told_synced (m + k), left)
    (take-append-le k (replicate (m + k) sync) (commit ∷ first ∷ []) (omega (arith, length-replicate (m + k) sync)) ∙ take-replicate k (m + k) sync (omega arith)) in
    ap reverse some ∙ turned k

-- THE REPLIES

fits : (a b : ℕ) → a ≤ b → nat_le a b ≡ true
fits a b le = grind (arith, nat_tests)

overflows : (a b : ℕ) → b < a → nat_le a b ≡ false
overflows a b lt = grind (arith, nat_tests)

is_below : (a b : ℕ) → a < b → nat_lt a b ≡ true
is_below a b lt = grind (arith, nat_tests)

take_fronted : (j n : ℕ) → j ≤ n → take (suc (suc j)) (fronted n) ≡ fronted j
take_fronted j n le = ap (λ (es : List Entry). first ∷ commit ∷ es) (take-replicate j n sync le)

fronted_room : (j n : ℕ) (b : Bool) → j ≤ n → nat_le (90 + j * 9) 65536 ≡ b → has_room reply.Nothing 0 (take (suc (suc j)) (fronted n)) ≡ b
fronted_room j n b le e = ap (has_room reply.Nothing 0) (take_fronted j n le) ∙ ap (λ (k : ℕ). nat_le k 65536) (fronted_body j false) ∙ e

first_told : (m n : ℕ) → m < n → 90 + m * 9 ≤ 65536 → 65536 < 99 + m * 9 → told_of reply.Nothing 0 (fronted n) (length (fronted n)) ≡ suc (suc m)
first_told m n lt room none =
    told_is reply.Nothing 0 (fronted n) (suc (suc m)) (length (fronted n)) (omega (arith, length-replicate n sync))
    (fronted_room m n true (omega arith) (fits (90 + m * 9) 65536 room))
    (λ j above within.
    let two : j ≡ suc (suc (j - 2)) = omega arith in
    let some : j - 2 ≤ n = omega (arith, length-replicate n sync) in
    subst (λ (i : ℕ). has_room reply.Nothing 0 (take i (fronted n)) ≡ false) (sym two)
    (fronted_room (j - 2) n false some (overflows (90 + (j - 2) * 9) 65536 (omega arith))))

first_reply : (m n : ℕ) → m < n → 90 + m * 9 ≤ 65536 → 65536 < 99 + m * 9
    → reply_telling reply.Nothing 0 (fronted n) ≡ record { outcome = reply.Nothing; from = 0; more = true; news = fronted m }
unfolding reply_telling cut_reply
first_reply m n lt room none =
    ap (cut_at reply.Nothing 0 (fronted n)) (first_told m n lt room none)
    ∙ ap (λ (b : Bool). record { outcome = reply.Nothing; from = 0; more = b; news = take (suc (suc m)) (fronted n) }) (is_below (suc (suc m)) (length (fronted n)) (omega (arith, length-replicate n sync)))
    ∙ ap (λ (es : List Entry). record { outcome = reply.Nothing; from = 0; more = true; news = es }) (take_fronted m n (omega arith))

rest_room : (from k : ℕ) → 9 + k * 9 ≤ 65536 → has_room reply.Done from (take (length (replicate k sync)) (replicate k sync)) ≡ true
rest_room from k room =
    ap (has_room reply.Done from) (take_all (length (replicate k sync)) (replicate k sync) (omega arith)) ∙ ap (λ (n : ℕ). nat_le n 65536) (synced_body from k false) ∙ fits (9 + k * 9) 65536 room

rest_told : (from k : ℕ) → 9 + k * 9 ≤ 65536 → told_of reply.Done from (replicate k sync) (length (replicate k sync)) ≡ length (replicate k sync)
rest_told from k room =
    told_is reply.Done from (replicate k sync) (length (replicate k sync)) (length (replicate k sync)) (omega arith) (rest_room from k room) (λ j above within. absurd (omega arith))

rest_reply : (from k : ℕ) → 9 + k * 9 ≤ 65536 → reply_telling reply.Done from (replicate k sync) ≡ record { outcome = reply.Done; from = from; more = false; news = replicate k sync }
unfolding reply_telling cut_reply
rest_reply from k room =
    ap (cut_at reply.Done from (replicate k sync)) (rest_told from k room)
    ∙ ap (λ (b : Bool). record { outcome = reply.Done; from = from; more = b; news = take (length (replicate k sync)) (replicate k sync) }) (not_below (length (replicate k sync)))
    ∙ ap (λ (es : List Entry). record { outcome = reply.Done; from = from; more = false; news = es }) (take_all (length (replicate k sync)) (replicate k sync) (omega arith))
  where
    not_below : (n : ℕ) → nat_lt n n ≡ false
    not_below n = grind (arith, nat_tests)

-- WHAT IS ASKED

tree_synced : (n : ℕ) → tree_of (synced n) ≡ record (tree_of started) { len = n + 2 }
unfolding synced tree_of
tree_synced zero = refl
tree_synced (suc n) = ap (λ (t : Tree). record t { len = suc t.len }) (tree_synced n) ∙ ap (λ (k : ℕ). record (tree_of started) { len = k }) (omega arith)

at_home : (n : ℕ) → is (home_if_active (tree_of (synced n)) 1) 0 ≡ true
unfolding tree_of
at_home n = ap (λ (t : Tree). is (home_if_active t 1) 0) (tree_synced n)

stays_active : (n : ℕ) → is_active (tree_of (synced n)) 1 ≡ true
unfolding tree_of is_active is_discarded chain
stays_active n = ap (λ (t : Tree). is_active t 1) (tree_synced n)

syncs_once_more : (n : ℕ) → exchange (rules_of pair) (synced n) 0 (ask.Sync 1) ≡ one 0 1 what.Sync reply.Done
unfolding exchange asked_decision decide
syncs_once_more n = rw (at_home n, stays_active n) refl

-- renderer 1 has no task
none_waits : (t : Tree) (over : ℕ → ℕ → Bool) (n : ℕ) → first_task t over 1 (synced n) ≡ None
unfolding synced
none_waits t over zero = refl
none_waits t over (suc n) = rw (none_waits t over n) refl

finds_none : (n : ℕ) → exchange (rules_of pair) (synced n) 1 ask.Next ≡ record { entries = []; outcome = reply.Nothing }
unfolding exchange next_task
finds_none n = ap (task_decision 1 (length (synced n))) (none_waits (tree_of (synced n)) (is_over (synced n)) n)

asks_more : (n : ℕ) → exchange (rules_of pair) (synced n) 1 ask.More ≡ record { entries = []; outcome = reply.Done }
unfolding exchange
asks_more n = refl

replied_first : (m n : ℕ) → m < n → 90 + m * 9 ≤ 65536 → 65536 < 99 + m * 9 → replied ask.Next 0 n ≡ record { outcome = reply.Nothing; from = 0; more = true; news = fronted m }
unfolding replied
replied_first m n lt room none =
    ap (reply_of 1 (record { log = synced n; heard = 0 })) (finds_none n) ∙ ap (reply_telling reply.Nothing 0) (news_first n) ∙ first_reply m n lt room none

replied_rest : (m k : ℕ) → 9 + k * 9 ≤ 65536 → replied ask.More (m + 2) (m + k) ≡ record { outcome = reply.Done; from = m + 2; more = false; news = replicate k sync }
unfolding replied
replied_rest m k room =
    ap (reply_of 1 (record { log = synced (m + k); heard = m + 2 })) (asks_more (m + k)) ∙ ap (reply_telling reply.Done (m + 2)) (news_rest m k) ∙ rest_reply (m + 2) k room

-- so the numbers are these
sizes_first : (m n : ℕ) → m < n → 90 + m * 9 ≤ 65536 → 65536 < 99 + m * 9
    → (length (replied ask.Next 0 n).news ≡ m + 2) × (length (reply_body (replied ask.Next 0 n)) ≡ 90 + m * 9) × ((replied ask.Next 0 n).more ≡ true)
sizes_first m n lt room none = rw (replied_first m n lt room none) (omega (arith, length-replicate m sync), fronted_body m true, refl)

sizes_rest : (m k : ℕ) → 9 + k * 9 ≤ 65536
    → (length (replied ask.More (m + 2) (m + k)).news ≡ k) × (length (reply_body (replied ask.More (m + 2) (m + k))) ≡ 9 + k * 9) × ((replied ask.More (m + 2) (m + k)).more ≡ false)
sizes_rest m k room = rw (replied_rest m k room) (length-replicate k sync, synced_body (m + 2) k false, refl)

pub told_in_two : IsToldInTwo
told_in_two =
    let a = sizes_first 7271 8000 (omega arith) (omega arith) (omega arith) in
    let b = sizes_rest 7271 729 (omega arith) in
    record { first_count = a.0; first_size = a.1; more_is_to_come = a.2; rest_count = b.0; rest_size = b.1; no_more = b.2 }

-- THE LOG IS LEGAL

starts : starts_of pair ≡ first ∷ []
unfolding starts_of home_for tree_of chain group_of url_on_literals
starts = refl

commits : exchange (rules_of pair) (first ∷ []) 0 ask.Next ≡ record { entries = commit ∷ []; outcome = reply.Task 1 }
unfolding exchange next_task tree_of is_discarded chain
commits = refl

after : (log : List Entry) (q : Request) (d : Decision) → exchange (rules_of pair) log 0 q ≡ d → IsLegalLog pair log → IsLegalLog pair (d.entries ++ log)
after log q d is legal = subst (λ (x : Decision). IsLegalLog pair (x.entries ++ log)) is (Exchanged log 0 q legal (omega arith))

pub synced_is_legal : (n : ℕ) → IsLegalLog pair (synced n)
unfolding synced
synced_is_legal zero = after (first ∷ []) ask.Next _ commits (subst (IsLegalLog pair) starts Started)
synced_is_legal (suc n) = after (synced n) (ask.Sync 1) _ (syncs_once_more n) (synced_is_legal n)
