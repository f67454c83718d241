-- What a document reaches through an object at hand is at hand, and what it asks for is within the limits of requests.
use Rattle.std.proofs.Common.{◌≡◌, ℕ, ◌<◌, List, [], ◌∷◌, codes, Option, Some, None, Bool, true, false, refl, if◌then◌else◌}
use Rattle.std.specs.Prelude.{Result, Ok, Err, bytes_eq, slice_get, is_some, is_none}
use Rattle.std.specs.Option.{option_map, option_or}
use Rattle.plain_data.specs.DataLimits.{is_short, within_limits}
use Rattle.origin_core.specs.declared.origin.Origin.{Origin as OriginValue}
use Rattle.origin_core.specs.Page.{read_page}
use Rattle.origin_core.specs.declared.page.UrlError.{UrlError}
use Rattle.origin_core.specs.declared.page.UrlError.TheVariants as url
use Rattle.window_props.specs.declared.key.Key.{Key}
use Rattle.window_props.specs.declared.key.Key.TheVariants as key
use Rattle.window_props.specs.declared.value.Value.{Value}
use Rattle.window_props.specs.declared.value.Value.TheVariants as value
use Rattle.window_props.specs.declared.value.Method.{Method}
use Rattle.window_props.specs.declared.value.Method.TheVariants.{Close, Focus, Blur, PostMessage, Assign, Replace}
use Rattle.window_props.specs.declared.platform.Object.{Object}
use Rattle.window_props.specs.declared.platform.Object.TheVariants as object
use Rattle.window_props.specs.declared.platform.Platform.{Platform}
use Rattle.window_props.specs.declared.platform.Platform.TheVariants.{Location, Opener, Name, Href}
use Rattle.window_props.specs.declared.descriptor.Body.{Body}
use Rattle.window_props.specs.declared.descriptor.Body.TheVariants as body
use Rattle.window_props.specs.declared.descriptor.Change.{Change}
use Rattle.window_props.specs.declared.descriptor.Descriptor.{Descriptor}
use Rattle.window_props.specs.declared.props.SetAnswer.{SetAnswer}
use Rattle.window_props.specs.declared.props.SetAnswer.TheVariants as settled
use Rattle.window_props.specs.Keys.{array_index}
use Rattle.window_props.specs.Platform.{named, method_of}
use Rattle.window_props.specs.Ordinary.{Define, Set, Delete}
use Rattle.window_props.specs.History.{Store, answer_in}
use Rattle.window_props.specs.Cross.{listed, cross_named, made_for_others, is_fallback}
use Rattle.tree_log.specs.declared.entry.Target.{Target}
use Rattle.tree_log.specs.Tree.{Tree, nav_of, origin_of, is_active}
use Rattle.tree_log.specs.NamedChildren.{child_named}
use Rattle.tree_log.proofs.Admitted.{lt_of}
use Rattle.agent_terms.specs.declared.step.Operand.{Operand}
use Rattle.agent_terms.specs.declared.step.Operand.TheVariants as operand
use Rattle.agent_terms.specs.declared.outcome.Ask.{Ask}
use Rattle.agent_terms.specs.declared.outcome.Ask.TheVariants as wish
use Rattle.agent_terms.specs.declared.outcome.Outcome.{Outcome}
use Rattle.agent_terms.specs.declared.outcome.Outcome.TheVariants as outcome
use Rattle.agent_terms.specs.declared.outcome.Rule.{Rule}
use Rattle.agent_terms.specs.declared.outcome.Rule.TheVariants.{S1, S2, S3, S4, S5, S6}
use Rattle.object_access.specs.Values.{undefined, null, window_or, text_of}
use Rattle.object_access.specs.Going.{go, gone_to, or_else_outcome, with_text, set_href}
use Rattle.object_access.specs.Access as access
use Rattle.object_access.specs.Access.{Seen, got, got_own, got_foreign, has_foreign, described_foreign, settled_own, set_foreign, truth_of, at_index, own_property, foreign_property, foreign_named, or_refused, fallback_property, constant, child_property}
use Rattle.object_access.specs.WindowAccess.{window, window_of, window_set, window_value, set_by, got_by, child_by}
use Rattle.object_access.specs.LocationAccess.{location, location_value, location_set}
use Rattle.object_access.specs.Methods.{posted, posted_to, posted_clone, target_text, target_of, sent, built_in, run, run_found, run_got, called}
use Rattle.object_access.specs.StepAnswer.{Sight, held, operand_value}
use Rattle.agent_laws.proofs.Groups.Choices.{IsBelow}
use Rattle.step_ranges.specs.Ranges.{is_at_hand, AreAtHand, is_body_at_hand, is_property_at_hand, StoresAtHand, is_operand_short}
use Rattle.step_ranges.proofs.Texts.{below, undefined_within, null_within, IsShortIfAny, short_text}
use Rattle.step_ranges.proofs.Logs.{KeepsLimits}
use Rattle.step_ranges.proofs.Attributes.{child_below, named_below, window_value_at_hand, location_value_at_hand}

-- OPERANDS

-- what a document's step goes by: it keeps to the limits, the document is there, and all that is held is at hand
pub record IsSightInRange (s : Sight) (d : ℕ) : Type 0 where
  pub kept : KeepsLimits s.tree s.urls
  pub here : d < s.tree.docs
  pub registers : AreAtHand s.tree s.registers
  pub stores : StoresAtHand s.tree s.stores

pub held_at_hand : (s : Sight) (d : ℕ) → IsSightInRange s d → (name : List ℕ) → is_at_hand s.tree (held s d name) ≡ true
unfolding held
held_at_hand s d range name = by_test (bytes_eq name (codes "window")) (bytes_eq name (codes "undefined"))
  where
    by_test : (a b : Bool) → is_at_hand s.tree (if a then value.Window (nav_of s.tree d) else if b then undefined else s.registers d name) ≡ true
    by_test true b = below (nav_of s.tree d) s.tree.navs (range.kept.well.below d range.here)
    by_test false true = undefined_within
    by_test false false = range.registers d name

pub operand_at_hand : (s : Sight) (d : ℕ) → IsSightInRange s d → (given : Operand) → is_operand_short given ≡ true → is_at_hand s.tree (operand_value s d given) ≡ true
unfolding operand_value
operand_at_hand s d range (operand.Register name) short = held_at_hand s d range name
operand_at_hand s d range (operand.Plain given) short = short

-- OUTCOMES

-- what is wanted is within the limits of requests
abbrev pub IsWishShort : Ask → Type 0
IsWishShort (wish.Name doc name) = is_short name ≡ true
IsWishShort (wish.Post doc target given) = within_limits given ≡ true
IsWishShort _ = Unit {0}

-- the value that it is, or what is wanted, if it is either
abbrev pub IsOutcomeInRange : Tree → Outcome → Type 0
IsOutcomeInRange t (outcome.Value v) = is_at_hand t v ≡ true
IsOutcomeInRange t (outcome.Ask a) = IsWishShort a
IsOutcomeInRange t _ = Unit {0}

abbrev IsFoundAtHand : Tree → Result Descriptor Rule → Type 0
IsFoundAtHand t (Err rule) = Unit {0}
IsFoundAtHand t (Ok p) = is_body_at_hand t p.body ≡ true

either_in_range : (t : Tree) (b : Bool) (x y : Outcome) → IsOutcomeInRange t x → IsOutcomeInRange t y → IsOutcomeInRange t (if b then x else y)
either_in_range t true x y h k = h
either_in_range t false x y h k = k

-- AN OBJECT

-- an object as a document meets it, where it is at hand
pub record IsMetAtHand (t : Tree) (seen : Seen) : Type 0 where
  pub children : (i : ℕ) → IsBelow t.navs (seen.child i)
  pub names : (key : Key) → IsBelow t.navs (seen.child_named key)
  pub getters : (key : Key) → is_at_hand t (seen.getter key) ≡ true
  pub setters : (key : Key) (v : Value) → is_at_hand t v ≡ true → IsOutcomeInRange t (seen.setter key v)

-- its own properties
child_property_at_hand : (t : Tree) (enumerable : Bool) (c : Option ℕ) → IsBelow t.navs c → is_property_at_hand t (option_map (child_property enumerable) c) ≡ true
child_property_at_hand t enumerable None h = refl
child_property_at_hand t enumerable (Some c) h = below c t.navs h

own_property_at_hand : (t : Tree) (seen : Seen) (props : Store) (key : Key) → IsMetAtHand t seen → is_property_at_hand t (props.at key) ≡ true → is_property_at_hand t (own_property seen props key) ≡ true
unfolding own_property
own_property_at_hand t seen props key met own = by_index (seen.index key)
  where
    by_index : (i : Option ℕ) → is_property_at_hand t (elim i as (λ _. Option Descriptor) [ Some i ↦ at_index (seen.child i) | None ↦ props.at key ]) ≡ true
    by_index (Some i) = child_property_at_hand t true (seen.child i) (met.children i)
    by_index None = own

got_own_at_hand : (t : Tree) (seen : Seen) (key : Key) → IsMetAtHand t seen → (p : Option Descriptor) → is_property_at_hand t p ≡ true → is_at_hand t (got_own seen key p) ≡ true
got_own_at_hand t seen key met None h = by_child (seen.child_named key) (met.names key)
  where
    by_child : (c : Option ℕ) → IsBelow t.navs c → is_at_hand t (window_or undefined c) ≡ true
    by_child None h = undefined_within
    by_child (Some c) h = below c t.navs h
got_own_at_hand t seen key met (Some p) h = by_body p.body h
  where
    by_body : (b : Body) → is_body_at_hand t b ≡ true → is_at_hand t (elim b as (λ _. Value) [ body.Value v _ ↦ v | body.Accessor _ _ ↦ seen.getter key ]) ≡ true
    by_body (body.Value v writable) h = h
    by_body (body.Accessor get set) h = met.getters key

-- what it shows to others
listed_at_hand : (t : Tree) (o : Object) (key : Key) → is_property_at_hand t (listed o key) ≡ true
unfolding listed made_for_others
listed_at_hand t o key = by_name (cross_named o key)
  where
    by_method : (m : Option Method) (get set : Bool) → is_body_at_hand t (elim m as (λ _. Body) [ Some m ↦ body.Value (value.Function m o) false | None ↦ body.Accessor get set ]) ≡ true
    by_method (Some m) get set = refl
    by_method None get set = refl

    by_name : (name : Option Platform) → is_property_at_hand t (option_map (made_for_others o) name) ≡ true
    by_name None = refl
    by_name (Some name) = by_method (method_of name) _ _

first_at_hand : (t : Tree) (a b : Option Descriptor) → is_property_at_hand t a ≡ true → is_property_at_hand t b ≡ true → is_property_at_hand t (option_or a b) ≡ true
first_at_hand t None b h k = k
first_at_hand t (Some p) b h k = h

fallback_at_hand : (t : Tree) (b : Bool) → is_property_at_hand t (if b then Some (constant undefined false) else None) ≡ true
fallback_at_hand t true = undefined_within
fallback_at_hand t false = refl

or_refused_at_hand : (t : Tree) (rule : Rule) (p : Option Descriptor) → is_property_at_hand t p ≡ true → IsFoundAtHand t (or_refused rule p)
or_refused_at_hand t rule None h = tt
or_refused_at_hand t rule (Some p) h = h

foreign_property_at_hand : (t : Tree) (seen : Seen) (key : Key) → IsMetAtHand t seen → IsFoundAtHand t (foreign_property seen key)
unfolding foreign_property
foreign_property_at_hand t seen key met = by_index (seen.index key)
  where
    by_index : (i : Option ℕ) → IsFoundAtHand t (elim i as (λ _. Result Descriptor Rule) [ Some i ↦ or_refused S2 (at_index (seen.child i)) | None ↦ foreign_named seen key ])
    by_index (Some i) = or_refused_at_hand t S2 (at_index (seen.child i)) (child_property_at_hand t true (seen.child i) (met.children i))
    by_index None =
        let child : is_property_at_hand t (option_map (child_property false) (seen.child_named key)) ≡ true = child_property_at_hand t false (seen.child_named key) (met.names key) in
        or_refused_at_hand t S1 _
        (first_at_hand t (listed seen.object key) _ (listed_at_hand t seen.object key) (first_at_hand t _ (fallback_property key) child (fallback_at_hand t (is_fallback key))))

got_foreign_in_range : (t : Tree) (seen : Seen) (key : Key) → IsMetAtHand t seen → (found : Result Descriptor Rule) → IsFoundAtHand t found → IsOutcomeInRange t (got_foreign seen key found)
got_foreign_in_range t seen key met (Err rule) h = tt
got_foreign_in_range t seen key met (Ok p) h = by_body p.body h
  where
    by_body : (b : Body) → is_body_at_hand t b ≡ true
        → IsOutcomeInRange t (elim b as (λ _. Outcome) [ body.Value v _ ↦ outcome.Value v | body.Accessor get _ ↦ if get then outcome.Value (seen.getter key) else outcome.Security S3 ])
    by_body (body.Value v writable) h = h
    by_body (body.Accessor get set) h = either_in_range t get (outcome.Value (seen.getter key)) (outcome.Security S3) (met.getters key) tt

-- ACCESSES

pub got_in_range : (t : Tree) (seen : Seen) (props : Store) (key : Key) → IsMetAtHand t seen → is_property_at_hand t (props.at key) ≡ true → IsOutcomeInRange t (got seen props key)
unfolding got
got_in_range t seen props key met own =
    either_in_range t seen.own (outcome.Value (got_own seen key (own_property seen props key))) (got_foreign seen key (foreign_property seen key))
    (got_own_at_hand t seen key met (own_property seen props key) (own_property_at_hand t seen props key met own))
    (got_foreign_in_range t seen key met (foreign_property seen key) (foreign_property_at_hand t seen key met))

pub has_in_range : (t : Tree) (seen : Seen) (props : Store) (key : Key) → IsOutcomeInRange t (access.has seen props key)
unfolding access.has
has_in_range t seen props key = either_in_range t seen.own _ (has_foreign (foreign_property seen key)) tt (by_found (foreign_property seen key))
  where
    by_found : (found : Result Descriptor Rule) → IsOutcomeInRange t (has_foreign found)
    by_found (Err rule) = tt
    by_found (Ok p) = tt

pub described_in_range : (t : Tree) (seen : Seen) (props : Store) (key : Key) → IsOutcomeInRange t (access.described seen props key)
unfolding access.described
described_in_range t seen props key = either_in_range t seen.own _ (described_foreign (foreign_property seen key)) tt (by_found (foreign_property seen key))
  where
    by_found : (found : Result Descriptor Rule) → IsOutcomeInRange t (described_foreign found)
    by_found (Err rule) = tt
    by_found (Ok p) = tt

pub keys_in_range : (t : Tree) (seen : Seen) (props : Store) → IsOutcomeInRange t (access.keys seen props)
unfolding access.keys
keys_in_range t seen props = tt

pub prototype_in_range : (t : Tree) (seen : Seen) → IsOutcomeInRange t (access.prototype seen)
unfolding access.prototype
prototype_in_range t seen = by_test seen.own
  where
    by_test : (b : Bool) → is_at_hand t (if b then value.Prototype seen.kind else null) ≡ true
    by_test true = refl
    by_test false = null_within

pub set_in_range : (t : Tree) (seen : Seen) (props : Store) (key : Key) (v : Value) → IsMetAtHand t seen → is_at_hand t v ≡ true → IsOutcomeInRange t (access.set seen props key v)
unfolding access.set
set_in_range t seen props key v met given = either_in_range t seen.own _ (set_foreign seen key v (foreign_property seen key)) (by_index (seen.index key)) (by_found (foreign_property seen key))
  where
    by_answer : (a : SetAnswer) → IsOutcomeInRange t (settled_own seen key v a)
    by_answer (settled.Truth b) = tt
    by_answer settled.Setter = met.setters key v given
    by_answer settled.TypeFault = tt

    by_index : (i : Option ℕ) → IsOutcomeInRange t (elim i as (λ _. Outcome) [ Some i ↦ outcome.Truth false | None ↦ settled_own seen key v (answer_in props (access.call_of key (Set v))) ])
    by_index (Some i) = tt
    by_index None = by_answer (answer_in props (access.call_of key (Set v)))

    by_body : (b : Body) → IsOutcomeInRange t (elim b as (λ _. Outcome) [ body.Value _ _ ↦ outcome.Security S4 | body.Accessor _ set ↦ if set then seen.setter key v else outcome.Security S4 ])
    by_body (body.Value w writable) = tt
    by_body (body.Accessor get set) = either_in_range t set (seen.setter key v) (outcome.Security S4) (met.setters key v given) tt

    by_found : (found : Result Descriptor Rule) → IsOutcomeInRange t (set_foreign seen key v found)
    by_found (Err rule) = tt
    by_found (Ok p) = by_body p.body

truth_in_range : (t : Tree) (a : SetAnswer) → IsOutcomeInRange t (truth_of a)
truth_in_range t (settled.Truth b) = tt
truth_in_range t settled.Setter = tt
truth_in_range t settled.TypeFault = tt

pub defined_in_range : (t : Tree) (seen : Seen) (props : Store) (key : Key) (change : Change) → IsOutcomeInRange t (access.defined seen props key change)
unfolding access.defined
defined_in_range t seen props key change = either_in_range t seen.own _ (outcome.Security S5) (by_index (seen.index key)) tt
  where
    by_index : (i : Option ℕ) → IsOutcomeInRange t (elim i as (λ _. Outcome) [ Some i ↦ outcome.Truth false | None ↦ truth_of (answer_in props (access.call_of key (Define change))) ])
    by_index (Some i) = tt
    by_index None = truth_in_range t (answer_in props (access.call_of key (Define change)))

pub deleted_in_range : (t : Tree) (seen : Seen) (props : Store) (key : Key) → IsOutcomeInRange t (access.deleted seen props key)
unfolding access.deleted
deleted_in_range t seen props key = either_in_range t seen.own _ (outcome.Security S6) (by_index (seen.index key)) tt
  where
    by_index : (i : Option ℕ) → IsOutcomeInRange t (elim i as (λ _. Outcome) [ Some i ↦ outcome.Truth (is_none (seen.child i)) | None ↦ truth_of (answer_in props (access.call_of key Delete)) ])
    by_index (Some i) = tt
    by_index None = truth_in_range t (answer_in props (access.call_of key Delete))

-- SETTERS AND CALLS

text_in_range : (t : Tree) (v : Value) (f : List ℕ → Outcome) → is_at_hand t v ≡ true → ((x : List ℕ) → is_short x ≡ true → IsOutcomeInRange t (f x)) → IsOutcomeInRange t (with_text v f)
text_in_range t v f given h = by_text (text_of v) (short_text t v given)
  where
    by_text : (o : Option (List ℕ)) → IsShortIfAny o → IsOutcomeInRange t (elim o as (λ _. Outcome) [ None ↦ outcome.TypeFault | Some x ↦ f x ])
    by_text None short = tt
    by_text (Some x) short = h x short

gone_in_range : (t : Tree) (urls : ℕ → List ℕ) (asker doc : ℕ) (text : List ℕ) (other : Outcome) → IsOutcomeInRange t other → IsOutcomeInRange t (or_else_outcome other (go t urls asker doc text))
unfolding go
gone_in_range t urls asker doc text other h = by_test (is_active t doc)
  where
    by_page : (r : Result (List ℕ) UrlError) → IsOutcomeInRange t (gone_to doc r)
    by_page (Ok page) = tt
    by_page (Err url.SchemeOut) = tt
    by_page (Err e) = tt

    by_test : (b : Bool) → IsOutcomeInRange t (or_else_outcome other (if b then Some (gone_to doc (read_page (Some (urls asker)) text)) else None))
    by_test true = by_page (read_page (Some (urls asker)) text)
    by_test false = h

-- each value of the list is at hand
abbrev pub AreAllAtHand : Tree → List Value → Type 0
AreAllAtHand t [] = Unit {0}
AreAllAtHand t (v ∷ vs) = (is_at_hand t v ≡ true) × AreAllAtHand t vs

posted_in_range : (t : Tree) (sender : OriginValue) (doc : ℕ) (args : List Value) → AreAllAtHand t args → IsOutcomeInRange t (posted sender doc args)
unfolding posted
posted_in_range t sender doc [] given = tt
posted_in_range t sender doc (v ∷ more) given = by_text (target_text (slice_get more 0))
  where
    by_value : (to : Target) (v : Value) → is_at_hand t v ≡ true → IsOutcomeInRange t (posted_clone doc to v)
    by_value to (value.Plain x) h = h
    by_value to v h = tt

    by_target : (to : Option Target) → IsOutcomeInRange t (posted_to doc v to)
    by_target None = tt
    by_target (Some to) = by_value to v given.0

    by_text : (o : Option (List ℕ)) → IsOutcomeInRange t (elim o as (λ _. Outcome) [ None ↦ outcome.TypeFault | Some text ↦ posted_to doc v (target_of sender text) ])
    by_text None = tt
    by_text (Some text) = by_target (target_of sender text)

sent_in_range : (t : Tree) (urls : ℕ → List ℕ) (asker doc : ℕ) (args : List Value) → AreAllAtHand t args → IsOutcomeInRange t (sent t urls asker doc args)
unfolding sent
sent_in_range t urls asker doc [] given = tt
sent_in_range t urls asker doc (v ∷ more) given = text_in_range t v _ given.0 (λ text short. gone_in_range t urls asker doc text (outcome.Value undefined) undefined_within)

run_in_range : (t : Tree) (urls : ℕ → List ℕ) (asker : ℕ) (o : Object) (m : Method) (args : List Value) → AreAllAtHand t args → IsOutcomeInRange t (run t urls asker o m args)
run_in_range t urls asker (object.Window e) Close args given = tt
run_in_range t urls asker (object.Window e) Focus args given = undefined_within
run_in_range t urls asker (object.Window e) Blur args given = undefined_within
run_in_range t urls asker (object.Window e) PostMessage args given = posted_in_range t (origin_of t asker) e args given
run_in_range t urls asker (object.Location e) Assign args given = sent_in_range t urls asker e args given
run_in_range t urls asker (object.Location e) Replace args given = sent_in_range t urls asker e args given
run_in_range t urls asker o m args given = tt

pub called_in_range : (t : Tree) (urls : ℕ → List ℕ) (asker : ℕ) (seen : Seen) (props : Store) (key : Key) (args : List Value)
    → IsMetAtHand t seen → is_property_at_hand t (props.at key) ≡ true → AreAllAtHand t args → IsOutcomeInRange t (called t urls asker seen props key args)
unfolding called
called_in_range t urls asker seen props key args met own given = by_got (got seen props key) (got_in_range t seen props key met own)
  where
    by_found : (m : Option Method) → IsOutcomeInRange t (run_found t urls asker seen.object args m)
    by_found None = tt
    by_found (Some m) = run_in_range t urls asker seen.object m args given

    by_got : (a : Outcome) → IsOutcomeInRange t a → IsOutcomeInRange t (run_got t urls asker seen.object key args a)
    by_got (outcome.Value v) h = by_found (built_in seen.object key v)
    by_got other h = h

href_in_range : (t : Tree) (urls : ℕ → List ℕ) (asker doc : ℕ) (v : Value) → is_at_hand t v ≡ true → IsOutcomeInRange t (set_href t urls asker doc v)
href_in_range t urls asker doc v given = text_in_range t v _ given (λ text short. gone_in_range t urls asker doc text (outcome.Truth true) tt)

set_by_in_range : (t : Tree) (name : Option Platform) (f : Platform → Outcome) → ((p : Platform) → IsOutcomeInRange t (f p)) → IsOutcomeInRange t (set_by name f)
set_by_in_range t None f h = tt
set_by_in_range t (Some p) f h = h p

got_by_at_hand : (t : Tree) (name : Option Platform) (f : Platform → Value) → ((p : Platform) → is_at_hand t (f p) ≡ true) → is_at_hand t (got_by name f) ≡ true
got_by_at_hand t None f h = undefined_within
got_by_at_hand t (Some p) f h = h p

window_set_in_range : (t : Tree) (urls : ℕ → List ℕ) (asker doc : ℕ) (p : Platform) (v : Value) → is_at_hand t v ≡ true → IsOutcomeInRange t (window_set t urls asker doc p v)
unfolding window_set
window_set_in_range t urls asker doc Location v given = href_in_range t urls asker doc v given
window_set_in_range t urls asker doc Name v given = text_in_range t v _ given (λ name short. short)
window_set_in_range t urls asker doc Opener v given = tt
window_set_in_range t urls asker doc p v given = tt

location_set_in_range : (t : Tree) (urls : ℕ → List ℕ) (asker doc : ℕ) (p : Platform) (v : Value) → is_at_hand t v ≡ true → IsOutcomeInRange t (location_set t urls asker doc p v)
unfolding location_set
location_set_in_range t urls asker doc Href v given = href_in_range t urls asker doc v given
location_set_in_range t urls asker doc p v given = tt

-- WINDOWS AND LOCATIONS

pub window_met : (t : Tree) (urls : ℕ → List ℕ) (d n : ℕ) → KeepsLimits t urls → is_at_hand t (value.Window n) ≡ true → IsMetAtHand t (window t urls d n)
unfolding window_of
window_met t urls d n kept there = record {
  children = λ i. child_below t kept.well (t.nav n).active i;
  names = by_key;
  getters = λ key. got_by_at_hand t (named (object.Window (t.nav n).active) key) (window_value t n) (window_value_at_hand t urls kept n (lt_of n t.navs there));
  setters = λ key v given. set_by_in_range t (named (object.Window (t.nav n).active) key) _ (λ p. window_set_in_range t urls d (t.nav n).active p v given);
}
  where
    by_test : (name : List ℕ) (b : Bool) → IsBelow t.navs (if b then None else child_named t (t.nav n).active name)
    by_test name true = tt
    by_test name false = named_below t kept.well (t.nav n).active name

    by_key : (key : Key) → IsBelow t.navs (child_by (child_named t (t.nav n).active) key)
    by_key (key.Text name) = by_test name (is_some (array_index (key.Text name)))
    by_key key = tt

pub location_met : (t : Tree) (urls : ℕ → List ℕ) (d e : ℕ) → KeepsLimits t urls → IsMetAtHand t (location t urls d e)
unfolding location
location_met t urls d e kept = record {
  children = λ i. tt;
  names = λ key. tt;
  getters = λ key. got_by_at_hand t (named (object.Location e) key) (location_value t urls e) (location_value_at_hand t urls kept e);
  setters = λ key v given. set_by_in_range t (named (object.Location e) key) _ (λ p. location_set_in_range t urls d e p v given);
}
