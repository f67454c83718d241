-- A message is for the document that is active in the window on which its sender called postMessage.
use Rattle.std.proofs.Common.{◌≡◌, ℕ, List, [], ◌∷◌, Option, Some, None, Bool, true, false, refl, if◌then◌else◌}
use Rattle.std.specs.Prelude.{Result, Ok, Err, slice_get, is_none}
use Rattle.origin_core.specs.declared.origin.Origin.{Origin as OriginValue}
use Rattle.origin_core.specs.Page.{read_page}
use Rattle.origin_core.specs.declared.page.UrlError.{UrlError}
use Rattle.origin_core.specs.declared.page.UrlError.TheVariants as url
use Rattle.window_props.specs.declared.key.Key.{Key}
use Rattle.window_props.specs.declared.value.Value.{Value}
use Rattle.window_props.specs.declared.value.Value.TheVariants as value
use Rattle.window_props.specs.declared.value.Method.{Method}
use Rattle.window_props.specs.declared.value.Method.TheVariants.{Close, Focus, Blur, PostMessage, Assign, Replace}
use Rattle.window_props.specs.declared.platform.Object.{Object}
use Rattle.window_props.specs.declared.platform.Object.TheVariants as object
use Rattle.window_props.specs.declared.platform.Platform.{Platform}
use Rattle.window_props.specs.declared.platform.Platform.TheVariants.{Location, Opener, Name, Href}
use Rattle.window_props.specs.declared.descriptor.Body.{Body}
use Rattle.window_props.specs.declared.descriptor.Body.TheVariants as body
use Rattle.window_props.specs.declared.descriptor.Change.{Change}
use Rattle.window_props.specs.declared.descriptor.Descriptor.{Descriptor}
use Rattle.window_props.specs.declared.props.SetAnswer.{SetAnswer}
use Rattle.window_props.specs.declared.props.SetAnswer.TheVariants as settled
use Rattle.window_props.specs.Platform.{named}
use Rattle.window_props.specs.Ordinary.{Define, Set, Delete}
use Rattle.window_props.specs.History.{Store, answer_in}
use Rattle.tree_log.specs.declared.entry.Target.{Target}
use Rattle.tree_log.specs.Tree.{Tree, origin_of, is_active, children_of}
use Rattle.agent_terms.specs.declared.step.Step.{Step}
use Rattle.agent_terms.specs.declared.step.Step.TheVariants as step
use Rattle.agent_terms.specs.declared.act.Performed.TheVariants.{Ask}
use Rattle.agent_terms.specs.declared.outcome.Ask.TheVariants as wish
use Rattle.agent_terms.specs.declared.outcome.Outcome.{Outcome}
use Rattle.agent_terms.specs.declared.outcome.Outcome.TheVariants as outcome
use Rattle.agent_terms.specs.declared.outcome.Rule.{Rule}
use Rattle.agent_terms.specs.declared.outcome.Rule.TheVariants.{S3, S4, S5, S6}
use Rattle.object_access.specs.Values.{undefined, text_of}
use Rattle.object_access.specs.Going.{go, gone_to, or_else_outcome, with_text, set_href}
use Rattle.object_access.specs.Access as access
use Rattle.object_access.specs.Access.{Seen, got, got_foreign, has_foreign, described_foreign, settled_own, set_foreign, truth_of, foreign_property}
use Rattle.object_access.specs.WindowAccess.{window, window_of, window_set, set_by}
use Rattle.object_access.specs.LocationAccess.{location, location_set}
use Rattle.object_access.specs.Methods.{posted, posted_to, posted_clone, target_text, target_of, sent, built_in, run, run_found, run_got, called}
use Rattle.object_access.specs.StepAnswer.{Sight, held, object_of, performed, on_object, if_any, read_at, frame_at, frame_step, open_at, open_step, link_at, gives_no_opener, drop_step, perform}
use Rattle.log_laws.specs.Posting.{PostsToHeld}

-- WHAT AN OUTCOME POSTS

-- where it posts a message, that is to a document of this kind
abbrev Posts : (ℕ → Type 0) → Outcome → Type 0
Posts to (outcome.Ask (wish.Post doc target body)) = to doc
Posts to _ = Unit {0}

either_posts : (to : ℕ → Type 0) (b : Bool) (x y : Outcome) → Posts to x → Posts to y → Posts to (if b then x else y)
either_posts to true x y h k = h
either_posts to false x y h k = k

got_posts : (to : ℕ → Type 0) (seen : Seen) (props : Store) (key : Key) → Posts to (got seen props key)
unfolding got
got_posts to seen props key = either_posts to seen.own _ (got_foreign seen key (foreign_property seen key)) tt (by_found (foreign_property seen key))
  where
    by_body : (b : Body) → Posts to (elim b as (λ _. Outcome) [ body.Value v _ ↦ outcome.Value v | body.Accessor get _ ↦ if get then outcome.Value (seen.getter key) else outcome.Security S3 ])
    by_body (body.Value v writable) = tt
    by_body (body.Accessor get set) = either_posts to get (outcome.Value (seen.getter key)) (outcome.Security S3) tt tt

    by_found : (found : Result Descriptor Rule) → Posts to (got_foreign seen key found)
    by_found (Err rule) = tt
    by_found (Ok p) = by_body p.body

has_posts : (to : ℕ → Type 0) (seen : Seen) (props : Store) (key : Key) → Posts to (access.has seen props key)
unfolding access.has
has_posts to seen props key = either_posts to seen.own _ (has_foreign (foreign_property seen key)) tt (by_found (foreign_property seen key))
  where
    by_found : (found : Result Descriptor Rule) → Posts to (has_foreign found)
    by_found (Err rule) = tt
    by_found (Ok p) = tt

described_posts : (to : ℕ → Type 0) (seen : Seen) (props : Store) (key : Key) → Posts to (access.described seen props key)
unfolding access.described
described_posts to seen props key = either_posts to seen.own _ (described_foreign (foreign_property seen key)) tt (by_found (foreign_property seen key))
  where
    by_found : (found : Result Descriptor Rule) → Posts to (described_foreign found)
    by_found (Err rule) = tt
    by_found (Ok p) = tt

keys_posts : (to : ℕ → Type 0) (seen : Seen) (props : Store) → Posts to (access.keys seen props)
unfolding access.keys
keys_posts to seen props = tt

-- what an object's setters come to posts to no one else
abbrev SettersPost : (ℕ → Type 0) → Seen → Type 0
SettersPost to seen = (key : Key) (v : Value) → Posts to (seen.setter key v)

set_posts : (to : ℕ → Type 0) (seen : Seen) (props : Store) (key : Key) (v : Value) → SettersPost to seen → Posts to (access.set seen props key v)
unfolding access.set
set_posts to seen props key v setters = either_posts to seen.own _ (set_foreign seen key v (foreign_property seen key)) (by_index (seen.index key)) (by_found (foreign_property seen key))
  where
    by_answer : (a : SetAnswer) → Posts to (settled_own seen key v a)
    by_answer (settled.Truth b) = tt
    by_answer settled.Setter = setters key v
    by_answer settled.TypeFault = tt

    by_index : (i : Option ℕ) → Posts to (elim i as (λ _. Outcome) [ Some i ↦ outcome.Truth false | None ↦ settled_own seen key v (answer_in props (access.call_of key (Set v))) ])
    by_index (Some i) = tt
    by_index None = by_answer (answer_in props (access.call_of key (Set v)))

    by_body : (b : Body) → Posts to (elim b as (λ _. Outcome) [ body.Value _ _ ↦ outcome.Security S4 | body.Accessor _ set ↦ if set then seen.setter key v else outcome.Security S4 ])
    by_body (body.Value w writable) = tt
    by_body (body.Accessor get set) = either_posts to set (seen.setter key v) (outcome.Security S4) (setters key v) tt

    by_found : (found : Result Descriptor Rule) → Posts to (set_foreign seen key v found)
    by_found (Err rule) = tt
    by_found (Ok p) = by_body p.body

truth_posts : (to : ℕ → Type 0) (a : SetAnswer) → Posts to (truth_of a)
truth_posts to (settled.Truth b) = tt
truth_posts to settled.Setter = tt
truth_posts to settled.TypeFault = tt

defined_posts : (to : ℕ → Type 0) (seen : Seen) (props : Store) (key : Key) (change : Change) → Posts to (access.defined seen props key change)
unfolding access.defined
defined_posts to seen props key change = either_posts to seen.own _ (outcome.Security S5) (by_index (seen.index key)) tt
  where
    by_index : (i : Option ℕ) → Posts to (elim i as (λ _. Outcome) [ Some i ↦ outcome.Truth false | None ↦ truth_of (answer_in props (access.call_of key (Define change))) ])
    by_index (Some i) = tt
    by_index None = truth_posts to (answer_in props (access.call_of key (Define change)))

deleted_posts : (to : ℕ → Type 0) (seen : Seen) (props : Store) (key : Key) → Posts to (access.deleted seen props key)
unfolding access.deleted
deleted_posts to seen props key = either_posts to seen.own _ (outcome.Security S6) (by_index (seen.index key)) tt
  where
    by_index : (i : Option ℕ) → Posts to (elim i as (λ _. Outcome) [ Some i ↦ outcome.Truth (is_none (seen.child i)) | None ↦ truth_of (answer_in props (access.call_of key Delete)) ])
    by_index (Some i) = tt
    by_index None = truth_posts to (answer_in props (access.call_of key Delete))

-- SETTERS AND CALLS

text_posts : (to : ℕ → Type 0) (v : Value) (f : List ℕ → Outcome) → ((x : List ℕ) → Posts to (f x)) → Posts to (with_text v f)
text_posts to v f h = by_text (text_of v)
  where
    by_text : (o : Option (List ℕ)) → Posts to (elim o as (λ _. Outcome) [ None ↦ outcome.TypeFault | Some x ↦ f x ])
    by_text None = tt
    by_text (Some x) = h x

gone_posts : (to : ℕ → Type 0) (t : Tree) (urls : ℕ → List ℕ) (asker doc : ℕ) (text : List ℕ) (other : Outcome) → Posts to other → Posts to (or_else_outcome other (go t urls asker doc text))
unfolding go
gone_posts to t urls asker doc text other h = by_test (is_active t doc)
  where
    by_page : (r : Result (List ℕ) UrlError) → Posts to (gone_to doc r)
    by_page (Ok page) = tt
    by_page (Err url.SchemeOut) = tt
    by_page (Err e) = tt

    by_test : (b : Bool) → Posts to (or_else_outcome other (if b then Some (gone_to doc (read_page (Some (urls asker)) text)) else None))
    by_test true = by_page (read_page (Some (urls asker)) text)
    by_test false = h

posted_posts : (to : ℕ → Type 0) (sender : OriginValue) (doc : ℕ) (args : List Value) → to doc → Posts to (posted sender doc args)
unfolding posted
posted_posts to sender doc [] h = tt
posted_posts to sender doc (v ∷ more) h = by_text (target_text (slice_get more 0))
  where
    by_value : (target : Target) (v : Value) → Posts to (posted_clone doc target v)
    by_value target (value.Plain x) = h
    by_value target v = tt

    by_target : (target : Option Target) → Posts to (posted_to doc v target)
    by_target None = tt
    by_target (Some target) = by_value target v

    by_text : (o : Option (List ℕ)) → Posts to (elim o as (λ _. Outcome) [ None ↦ outcome.TypeFault | Some text ↦ posted_to doc v (target_of sender text) ])
    by_text None = tt
    by_text (Some text) = by_target (target_of sender text)

sent_posts : (to : ℕ → Type 0) (t : Tree) (urls : ℕ → List ℕ) (asker doc : ℕ) (args : List Value) → Posts to (sent t urls asker doc args)
unfolding sent
sent_posts to t urls asker doc [] = tt
sent_posts to t urls asker doc (v ∷ more) = text_posts to v _ (λ text. gone_posts to t urls asker doc text (outcome.Value undefined) tt)

-- the document of a Window is of this kind
abbrev IsTo : (ℕ → Type 0) → Object → Type 0
IsTo to (object.Window e) = to e
IsTo to (object.Location e) = Unit {0}

run_posts : (to : ℕ → Type 0) (t : Tree) (urls : ℕ → List ℕ) (asker : ℕ) (o : Object) (m : Method) (args : List Value) → IsTo to o → Posts to (run t urls asker o m args)
run_posts to t urls asker (object.Window e) Close args h = tt
run_posts to t urls asker (object.Window e) Focus args h = tt
run_posts to t urls asker (object.Window e) Blur args h = tt
run_posts to t urls asker (object.Window e) PostMessage args h = posted_posts to (origin_of t asker) e args h
run_posts to t urls asker (object.Location e) Assign args h = sent_posts to t urls asker e args
run_posts to t urls asker (object.Location e) Replace args h = sent_posts to t urls asker e args
run_posts to t urls asker o m args h = tt

called_posts : (to : ℕ → Type 0) (t : Tree) (urls : ℕ → List ℕ) (asker : ℕ) (seen : Seen) (props : Store) (key : Key) (args : List Value) → IsTo to seen.object → Posts to (called t urls asker seen props key args)
unfolding called
called_posts to t urls asker seen props key args h = by_got (got seen props key) (got_posts to seen props key)
  where
    by_found : (m : Option Method) → Posts to (run_found t urls asker seen.object args m)
    by_found None = tt
    by_found (Some m) = run_posts to t urls asker seen.object m args h

    by_got : (a : Outcome) → Posts to a → Posts to (run_got t urls asker seen.object key args a)
    by_got (outcome.Value v) k = by_found (built_in seen.object key v)
    by_got other k = k

href_posts : (to : ℕ → Type 0) (t : Tree) (urls : ℕ → List ℕ) (asker doc : ℕ) (v : Value) → Posts to (set_href t urls asker doc v)
href_posts to t urls asker doc v = text_posts to v _ (λ text. gone_posts to t urls asker doc text (outcome.Truth true) tt)

set_by_posts : (to : ℕ → Type 0) (name : Option Platform) (f : Platform → Outcome) → ((p : Platform) → Posts to (f p)) → Posts to (set_by name f)
set_by_posts to None f h = tt
set_by_posts to (Some p) f h = h p

window_set_posts : (to : ℕ → Type 0) (t : Tree) (urls : ℕ → List ℕ) (asker doc : ℕ) (p : Platform) (v : Value) → Posts to (window_set t urls asker doc p v)
unfolding window_set
window_set_posts to t urls asker doc Location v = href_posts to t urls asker doc v
window_set_posts to t urls asker doc Name v = text_posts to v _ (λ name. tt)
window_set_posts to t urls asker doc Opener v = tt
window_set_posts to t urls asker doc p v = tt

location_set_posts : (to : ℕ → Type 0) (t : Tree) (urls : ℕ → List ℕ) (asker doc : ℕ) (p : Platform) (v : Value) → Posts to (location_set t urls asker doc p v)
unfolding location_set
location_set_posts to t urls asker doc Href v = href_posts to t urls asker doc v
location_set_posts to t urls asker doc p v = tt

-- OBJECTS

-- an object whose calls and setters post to documents of this kind alone
record Reaches (to : ℕ → Type 0) (seen : Seen) : Type 0 where
  pub object_is : IsTo to seen.object
  pub setters : SettersPost to seen

window_reaches : (to : ℕ → Type 0) (t : Tree) (urls : ℕ → List ℕ) (d n : ℕ) → to (t.nav n).active → Reaches to (window t urls d n)
unfolding window_of
window_reaches to t urls d n h = record { object_is = h; setters = λ key v. set_by_posts to (named (object.Window (t.nav n).active) key) _ (λ p. window_set_posts to t urls d (t.nav n).active p v) }

location_reaches : (to : ℕ → Type 0) (t : Tree) (urls : ℕ → List ℕ) (d e : ℕ) → Reaches to (location t urls d e)
unfolding location
location_reaches to t urls d e = record { object_is = tt; setters = λ key v. set_by_posts to (named (object.Location e) key) _ (λ p. location_set_posts to t urls d e p v) }

-- STEPS

performed_posts : (s : Sight) (d n : ℕ) (name : List ℕ) (user : Bool) (o : Outcome) → held s d name ≡ value.Window n → Posts (λ doc. doc ≡ (s.tree.nav n).active) o → PostsToHeld s d (performed d user o)
performed_posts s d n name user (outcome.Ask (wish.Post doc target body)) is h = (refl, (name, n, is, h))
performed_posts s d n name user (outcome.Ask (wish.Go doc page)) is h = tt
performed_posts s d n name user (outcome.Ask (wish.Name doc text)) is h = tt
performed_posts s d n name user (outcome.Ask (wish.Disown doc)) is h = tt
performed_posts s d n name user (outcome.Ask (wish.Close doc)) is h = tt
performed_posts s d n name user o is h = tt

performed_none : (s : Sight) (d : ℕ) (user : Bool) (o : Outcome) → Posts (λ doc. ⊥) o → PostsToHeld s d (performed d user o)
performed_none s d user (outcome.Ask (wish.Post doc target body)) h = absurd h
performed_none s d user (outcome.Ask (wish.Go doc page)) h = tt
performed_none s d user (outcome.Ask (wish.Name doc text)) h = tt
performed_none s d user (outcome.Ask (wish.Disown doc)) h = tt
performed_none s d user (outcome.Ask (wish.Close doc)) h = tt
performed_none s d user o h = tt

object_posts : (s : Sight) (d : ℕ) (user : Bool) (name : List ℕ) (f : Seen → Outcome) → ((to : ℕ → Type 0) (seen : Seen) → Reaches to seen → Posts to (f seen)) → PostsToHeld s d (on_object s d user name f)
unfolding on_object
object_posts s d user name f h = by_value (held s d name) refl
  where
    by_value : (v : Value) → held s d name ≡ v → PostsToHeld s d (performed d user (elim (object_of s d v) as (λ _. Outcome) [ None ↦ outcome.TypeFault | Some seen ↦ f seen ]))
    by_value (value.Window n) is = performed_posts s d n name user _ is (h _ (window s.tree s.urls d n) (window_reaches _ s.tree s.urls d n refl))
    by_value (value.Location e) is = performed_none s d user _ (h _ (location s.tree s.urls d e) (location_reaches _ s.tree s.urls d e))
    by_value v is = tt

frame_posts : (s : Sight) (d : ℕ) (name : List ℕ) (flags : ℕ) (text : Option (List ℕ)) → PostsToHeld s d (frame_step s d name flags text)
unfolding frame_step
frame_posts s d name flags None = tt
frame_posts s d name flags (Some text) = by_page (read_at s d text)
  where
    by_page : (r : Result (List ℕ) UrlError) → PostsToHeld s d (frame_at d name flags r)
    by_page (Ok page) = tt
    by_page (Err url.SchemeOut) = tt
    by_page (Err e) = tt

open_posts : (s : Sight) (d : ℕ) (target : List ℕ) (noopener user : Bool) (text : Option (List ℕ)) → PostsToHeld s d (open_step s d target noopener user text)
unfolding open_step
open_posts s d target noopener user None = tt
open_posts s d target noopener user (Some text) = by_page (read_at s d text)
  where
    by_page : (r : Result (List ℕ) UrlError) → PostsToHeld s d (open_at d target noopener user r)
    by_page (Ok page) = tt
    by_page (Err url.SchemeOut) = tt
    by_page (Err e) = tt

link_posts : (s : Sight) (d : ℕ) (target : List ℕ) (noopener user : Bool) (r : Result (List ℕ) UrlError) → PostsToHeld s d (link_at d target noopener user r)
link_posts s d target noopener user (Ok page) = tt
link_posts s d target noopener user (Err url.SchemeOut) = tt
link_posts s d target noopener user (Err e) = tt

drop_posts : (s : Sight) (d : ℕ) (nav : Option ℕ) → PostsToHeld s d (drop_step d nav)
drop_posts s d None = tt
drop_posts s d (Some n) = tt

-- a step that posts a message does so to the document that is active in a window which a register of its document holds
pub step_posts : (s : Sight) (d : ℕ) (st : Step) → PostsToHeld s d (perform s d st)
unfolding perform access.prototype
step_posts s d (step.Let to given) = tt
step_posts s d (step.Get of key to) = object_posts s d false of _ (λ p seen h. got_posts p seen (s.stores seen.object) key)
step_posts s d (step.Has of key) = object_posts s d false of _ (λ p seen h. has_posts p seen (s.stores seen.object) key)
step_posts s d (step.Describe of key) = object_posts s d false of _ (λ p seen h. described_posts p seen (s.stores seen.object) key)
step_posts s d (step.Keys of) = object_posts s d false of _ (λ p seen h. keys_posts p seen (s.stores seen.object))
step_posts s d (step.Proto of) = object_posts s d false of access.prototype (λ p seen h. tt)
step_posts s d (step.SetProto of) = object_posts s d false of access.prototype_set (λ p seen h. tt)
step_posts s d (step.Extensible of) = object_posts s d false of access.extensible (λ p seen h. tt)
step_posts s d (step.Prevent of) = object_posts s d false of access.prevented (λ p seen h. tt)
step_posts s d (step.Set of key given user) = object_posts s d user of _ (λ p seen h. set_posts p seen (s.stores seen.object) key _ h.setters)
step_posts s d (step.Define of key given writable enumerable configurable) = object_posts s d false of _ (λ p seen h. defined_posts p seen (s.stores seen.object) key _)
step_posts s d (step.Delete of key) = object_posts s d false of _ (λ p seen h. deleted_posts p seen (s.stores seen.object) key)
step_posts s d (step.Call of key args to user) = object_posts s d user of _ (λ p seen h. called_posts p s.tree s.urls d seen (s.stores seen.object) key _ h.object_is)
step_posts s d step.Sync = tt
step_posts s d (step.Domain text) = tt
step_posts s d (step.Frame text name sandbox to) = frame_posts s d _ _ (if_any text)
step_posts s d (step.Drop index) = drop_posts s d (slice_get (children_of s.tree d) index)
step_posts s d (step.Open text target noopener user to) = open_posts s d target noopener user (if_any text)
step_posts s d (step.Link text target rel user) = link_posts s d target (gives_no_opener rel target) user (read_at s d text)
