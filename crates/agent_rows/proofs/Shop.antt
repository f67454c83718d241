-- The log of the shop is legal: each of its entries is what an exchange on the log before it gives.
use Rattle.std.proofs.Common.{◌≡◌, ◌<◌, ℕ, List, [], ◌∷◌, ◌++◌, Option, Some, None, false, codes, refl, subst, arith}
use Rattle.url.proofs.OnLiterals.{url_on_literals}
use Rattle.origin_core.specs.Flags.{flags_of, flags_sum}
use Rattle.tree_log.specs.declared.entry.Entry.{Entry}
use Rattle.tree_log.specs.declared.entry.Target.TheVariants as targets
use Rattle.tree_log.specs.declared.entry.What.{What}
use Rattle.tree_log.specs.declared.entry.What.TheVariants as what
use Rattle.tree_log.specs.Log.{entry_at}
use Rattle.tree_log.specs.Homes.{home_for}
use Rattle.tree_log.specs.Tree.{tree_of, is_active, is_discarded, chain, children_of, parent_of, top_level_of, ancestors, group_of}
use Rattle.origin_core.specs.declared.origin.Origin.TheVariants.{Opaque}
use Rattle.agent_terms.specs.declared.request.Request.{Request}
use Rattle.agent_terms.specs.declared.request.Request.TheVariants as ask
use Rattle.agent_terms.specs.declared.request.ReplyOutcome.TheVariants as reply
use Rattle.single_agent.specs.LegalLog.{IsLegalLog, Started, Exchanged}
use Rattle.coordinator_rules.specs.Navigation.{choice, walk_from, familiar_through, may_navigate, may_close}
use Rattle.coordinator_rules.specs.NextTask.{next_task, task_entry}
use Rattle.object_access.specs.Registers.{unset, written, task_written}
use Rattle.single_agent.specs.Session.{starts_of}
use Rattle.object_access.specs.Values.{text}
use Rattle.window_props.specs.declared.value.Value.{Value}
use Rattle.window_props.specs.declared.value.Value.TheVariants as value
use Rattle.coordinator_rules.specs.Decision.{Decision, one, decide, exchange, asked_decision, is_in_fragment, rules_of}
use Rattle.agent_rows.specs.Logs.{load}
use Rattle.agent_rows.specs.Shop.{shop, shop_log, pay_url, ads_url, login_url, shop_test, pay_test, login_test, token, opened_shop, with_shop, framed_pay, with_pay, framed_ads, with_ads, opened_login, with_login, posted_token, with_token, with_refusal, closing_login}

-- what a request of renderer r comes to
unfoldable pub answered : List Entry → ℕ → Request → Decision
unfolding exchange asked_decision decide is_in_fragment next_task choice walk_from familiar_through may_navigate may_close home_for tree_of is_active is_discarded chain children_of parent_of top_level_of ancestors group_of url_on_literals
answered log r request = exchange (rules_of shop) log r request

-- a task that renderer r takes
abbrev taken : ℕ → ℕ → What → Decision
taken r place w = record { entries = task_entry r w ∷ []; outcome = reply.Task place }

-- THE EXCHANGES

starts : starts_of shop ≡ opened_shop
unfolding starts_of home_for tree_of chain group_of url_on_literals
starts = refl

loads_shop : answered opened_shop 0 ask.Next ≡ taken 0 1 (what.Commit 0 1 0)
unfolding answered
loads_shop = refl

frames_pay : answered with_shop 0 (ask.Frame 1 (codes "pay") 0 (Some pay_url)) ≡ one 0 1 (what.Frame 1 2 0 shop_test (codes "pay") 0 (Some (load 3 1 pay_test pay_url))) (reply.Made 1)
unfolding answered
frames_pay = refl

loads_pay : answered framed_pay 1 ask.Next ≡ taken 1 3 (what.Commit 1 3 2)
unfolding answered
loads_pay = refl

frames_ads : answered with_pay 0 (ask.Frame 1 [] (flags_of (codes "allow-scripts")) (Some ads_url)) ≡ one 0 1 (what.Frame 2 4 0 (Opaque 4) [] 223 (Some (load 5 2 (Opaque 5) ads_url))) (reply.Made 2)
unfolding answered flags_sum
frames_ads = refl

loads_ads : answered framed_ads 2 ask.Next ≡ taken 2 5 (what.Commit 2 5 4)
unfolding answered
loads_ads = refl

opens_login : answered with_ads 0 (ask.Open 1 (Some login_url) (codes "signin") false false) ≡ one 0 1 (what.Open 3 6 0 0 shop_test (codes "signin") (Some 0) 0 None (Some (load 7 3 login_test login_url))) (reply.Made 3)
unfolding answered
opens_login = refl

loads_login : answered opened_login 3 ask.Next ≡ taken 3 7 (what.Commit 3 7 6)
unfolding answered
loads_login = refl

posts_token : answered with_login 3 (ask.Post 7 1 (targets.Origin shop_test) token) ≡ one 3 7 (what.Post 1 3 login_test (targets.Origin shop_test) token) reply.Done
unfolding answered
posts_token = refl

gets_token : answered posted_token 0 ask.Next ≡ taken 0 9 (what.Fire 1 8)
unfolding answered
gets_token = refl

refuses_ads : answered with_token 2 (ask.Go 5 1 (codes "https://ads.test/win") false) ≡ one 2 5 what.Sync (reply.Security 7)
unfolding answered
refuses_ads = refl

asks_to_close : answered with_refusal 0 (ask.Close 1 7 false) ≡ one 0 1 (what.Closing 3) reply.Done
unfolding answered
asks_to_close = refl

closes_login : answered closing_login 3 ask.Next ≡ taken 3 12 (what.Gone 3)
unfolding answered
closes_login = refl

-- WHAT FOLLOWS

-- the shop's document reads the token, and where it comes from
unfoldable pub heard : List ℕ → Value
unfolding written entry_at
heard name = task_written posted_token (what.Fire 1 8) unset 1 name

pub reads_token : heard (codes "data") ≡ value.Plain token
unfolding heard
reads_token = refl

pub reads_origin : heard (codes "origin") ≡ text (codes "https://login.test")
unfolding heard
reads_origin = refl

pub reads_source : heard (codes "source") ≡ value.Window 3
unfolding heard
reads_source = refl

-- and nothing waits at the end
unfoldable pub waits : ℕ → Option What
unfolding next_task tree_of is_active is_discarded chain
waits r = next_task shop_log r

pub all_done : (waits 0 ≡ None) × (waits 1 ≡ None) × (waits 2 ≡ None) × (waits 3 ≡ None)
unfolding waits
all_done = (refl, refl, refl, refl)

-- THE LOG

-- one exchange more
follows : (log : List Entry) (r : ℕ) (q : Request) (d : Decision) → answered log r q ≡ d → r < 4 → IsLegalLog shop log → IsLegalLog shop (d.entries ++ log)
unfolding answered
follows log r q d is lt legal = subst (λ (x : Decision). IsLegalLog shop (x.entries ++ log)) is (Exchanged log r q legal lt)

legal_with_pay : IsLegalLog shop with_pay
legal_with_pay =
    let opened : IsLegalLog shop opened_shop = subst (IsLegalLog shop) starts Started in
    let shown = follows _ _ _ _ loads_shop (omega arith) opened in
    let framed = follows _ _ _ _ frames_pay (omega arith) shown in
    follows _ _ _ _ loads_pay (omega arith) framed

legal_with_login : IsLegalLog shop with_login
legal_with_login =
    let framed = follows _ _ _ _ frames_ads (omega arith) legal_with_pay in
    let shown = follows _ _ _ _ loads_ads (omega arith) framed in
    let opened = follows _ _ _ _ opens_login (omega arith) shown in
    follows _ _ _ _ loads_login (omega arith) opened

pub shop_is_legal : IsLegalLog shop shop_log
shop_is_legal =
    let posted = follows _ _ _ _ posts_token (omega arith) legal_with_login in
    let fired = follows _ _ _ _ gets_token (omega arith) posted in
    let refused = follows _ _ _ _ refuses_ads (omega arith) fired in
    let closing = follows _ _ _ _ asks_to_close (omega arith) refused in
    follows _ _ _ _ closes_login (omega arith) closing
