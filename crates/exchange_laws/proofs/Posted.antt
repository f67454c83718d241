-- The data that a request posts has ascending keys.
use Rattle.std.proofs.Common.{◌≡◌, ℕ, List, [], ◌∷◌, length, Option, Some, None, Bool, true, false, IsTrue, refl, subst}
use Rattle.std.specs.Prelude.{◌&&◌, nat_le}
use Rattle.std.specs.List.{AllByRecursion, All}
use Rattle.std.proofs.lemmas.List.Elements.{All-from_recursion}
use Rattle.plain_data.specs.Ascending.{keys_ascend}
use Rattle.plain_data.specs.DataLimits.{most_depth, most_size, depth, encoded_size, parts_in_range, within_limits}
use Rattle.plain_data.specs.declared.data.Data.{Data}
use Rattle.link_fields.specs.Skipping.{data_field}
use Rattle.link_fields.proofs.LimitLaws.{data_fits}
use Rattle.link_wire.specs.Requests.{IsRequest}
use Rattle.tree_log.specs.Range.{HasAscendingKeys}
use Rattle.tree_log.specs.declared.entry.Entry.{Entry}
use Rattle.tree_log.specs.declared.entry.Target.{Target}
use Rattle.tree_log.specs.declared.entry.What.{What}
use Rattle.tree_log.specs.Tree.{tree_of}
use Rattle.tree_log.specs.Urls.{url_of}
use Rattle.tree_log.proofs.Admitted.{both}
use Rattle.agent_terms.specs.declared.request.Request.{Request}
use Rattle.agent_terms.specs.declared.request.Request.TheVariants as ask
use Rattle.coordinator_rules.specs.NextTask.{next_task}
use Rattle.coordinator_rules.specs.Decision.{Rules, Decision, exchange, is_in_fragment, task_decision}
use Rattle.agent_laws.specs.Actors.{has_no_asker}
use Rattle.agent_laws.proofs.Logs.Exchanges.{without_asker, decided_or_none}
use Rattle.agent_laws.proofs.Logs.Admitted.{IsTask, Commits, Fires, Lapses, Closes as Gones, next_is_task}
use Rattle.exchange_laws.proofs.Made.{IsMade, Syncs, Frames, Drops, Windows, Begins, Fragments, Openers, Names, Closes, Posts, Relaxes, IsAsked, decide-made}

last_of_four : (d : Data) → within_limits d ≡ true → keys_ascend d ≡ true
unfolding within_limits
last_of_four d h = (both (nat_le (depth d) most_depth && nat_le (encoded_size d) most_size && parts_in_range d) (keys_ascend d) h).1

-- in data that fits a frame, the keys of each record ascend
pub fitting_keys_ascend : (d : Data) → data_field.Fits d → IsTrue (keys_ascend d)
fitting_keys_ascend d h = last_of_four d ((data_fits d).0 h).0

-- the data of a post that a frame spells
pub posted_fits : (asker doc : ℕ) (target : Target) (body : Data) → IsRequest (ask.Post asker doc target body) → data_field.Fits body
posted_fits asker doc target body h =
    let parts = h.0 in
    let e : parts.0.1.1.1 ≡ body = cc in
    subst (λ (d : Data). data_field.Fits d) e parts.1.1.1.1

made_ascends : (rules : Rules) (log : List Entry) (q : Request) (w : What) → IsRequest q → IsMade rules (tree_of log) q w → HasAscendingKeys w
made_ascends rules log q w h (Syncs _) = tt
made_ascends rules log q w h (Frames asker name flags url) = tt
made_ascends rules log q w h (Drops _ nav) = tt
made_ascends rules log q w h (Windows _ noopener) = tt
made_ascends rules log q w h (Begins _ n url e) = tt
made_ascends rules log q w h (Fragments _ n d url e) = tt
made_ascends rules log q w h (Openers _ n to) = tt
made_ascends rules log q w h (Names _ n) = tt
made_ascends rules log q w h (Closes _ n) = tt
made_ascends rules log q w h (Posts asker doc target body) = fitting_keys_ascend body (posted_fits asker doc target body h)
made_ascends rules log q w h (Relaxes asker value effective e fit) = tt

abbrev Ascends : Entry → Type 0
Ascends e = HasAscendingKeys e.what

asked_ascend : (rules : Rules) (log : List Entry) (r : ℕ) (q : Request) (es : List Entry) → IsRequest q → AllByRecursion (IsAsked rules (tree_of log) r q) es → AllByRecursion Ascends es
asked_ascend rules log r q [] is h = tt
asked_ascend rules log r q (e ∷ es) is h = (made_ascends rules log q e.what is h.0.made, asked_ascend rules log r q es is h.1)

task_ascends : (w : What) → IsTask w → HasAscendingKeys w
task_ascends w (Commits nav doc begin) = tt
task_ascends w (Fires doc post) = tt
task_ascends w (Lapses doc post cause) = tt
task_ascends w (Gones nav) = tt

Ascend : Decision → Type 0
Ascend d = AllByRecursion Ascends d.entries

tasks_ascend : (log : List Entry) (r place : ℕ) (o : Option What) → next_task log r ≡ o → Ascend (task_decision r place o)
unfolding Ascend
tasks_ascend log r place None e = tt
tasks_ascend log r place (Some w) e = (task_ascends w (next_is_task log r w e), tt)

next_ascends : (rules : Rules) (log : List Entry) (r : ℕ) → Ascend (exchange rules log r ask.Next)
unfolding exchange
next_ascends rules log r = tasks_ascend log r (length log) (next_task log r) refl

exchange_ascends : (rules : Rules) (log : List Entry) (r : ℕ) (q : Request) → IsRequest q → Ascend (exchange rules log r q)
unfolding Ascend
exchange_ascends rules log r q is = by_kind (has_no_asker q) refl
  where
    by_kind : (b : Bool) → has_no_asker q ≡ b → Ascend (exchange rules log r q)
    by_kind true e = without_asker Ascend rules log r q e (next_ascends rules log r) tt
    by_kind false e =
        decided_or_none Ascend rules log r q e tt tt
        (λ been home active. asked_ascend rules log r q _ is (decide-made rules (tree_of log) (is_in_fragment (tree_of log) (url_of log)) r q).asked)

pub all_ascend : (rules : Rules) (log : List Entry) (r : ℕ) (q : Request) → IsRequest q → All (λ e. HasAscendingKeys e.what) (exchange rules log r q).entries
unfolding Ascend
all_ascend rules log r q is = All-from_recursion Ascends (exchange rules log r q).entries (exchange_ascends rules log r q is)
