-- What a step answers is at hand, what it asks for is within the limits of requests, and what it leaves in the properties of objects
-- is at hand too.
use Rattle.std.proofs.Common.{◌≡◌, ℕ, List, [], ◌∷◌, map, Option, Some, None, Bool, true, false, refl, subst, if◌then◌else◌}
use Rattle.std.specs.Prelude.{Result, Ok, Err, slice_get, unwrap_or, is_some, is_none, ◌&&◌, ◌||◌}
use Rattle.std.specs.List.{list_all}
use Rattle.std.specs.Option.{option_map, option_map_or}
use Rattle.plain_data.specs.DataLimits.{is_short}
use Rattle.origin_core.specs.Flags.{flags_of}
use Rattle.origin_core.specs.declared.page.UrlError.{UrlError}
use Rattle.origin_core.specs.declared.page.UrlError.TheVariants as url
use Rattle.window_props.specs.declared.key.Key.{Key}
use Rattle.window_props.specs.declared.value.Value.{Value}
use Rattle.window_props.specs.declared.value.Value.TheVariants as value
use Rattle.window_props.specs.declared.platform.Object.{Object}
use Rattle.window_props.specs.declared.descriptor.Body.{Body}
use Rattle.window_props.specs.declared.descriptor.Body.TheVariants as body
use Rattle.window_props.specs.declared.descriptor.Change.{Change}
use Rattle.window_props.specs.declared.descriptor.Descriptor.{Descriptor}
use Rattle.window_props.specs.declared.platform.Role.{Role}
use Rattle.window_props.specs.declared.platform.Role.TheVariants.{Fixed, Replaceable, Opening, Runs}
use Rattle.window_props.specs.Keys.{same_key}
use Rattle.window_props.specs.Values.{same_object}
use Rattle.window_props.specs.Ordinary.{Act, Define, Set, Delete, Done, nothing, is_refused, body_after, ordinary_define, is_null, set_accessor, set_by, set_to, ordinary_delete, role_at, is_default, acted}
use Rattle.window_props.specs.History.{Store, acted_in, store_after}
use Rattle.tree_log.specs.Tree.{Tree, children_of}
use Rattle.tree_log.proofs.Admitted.{both}
use Rattle.agent_terms.specs.declared.step.Operand.{Operand}
use Rattle.agent_terms.specs.declared.step.Step.{Step}
use Rattle.agent_terms.specs.declared.step.Step.TheVariants as step
use Rattle.agent_terms.specs.declared.act.Performed.{Performed}
use Rattle.agent_terms.specs.declared.act.Performed.TheVariants.{Answer, Ask}
use Rattle.agent_terms.specs.declared.outcome.Ask as wishes
use Rattle.agent_terms.specs.declared.outcome.Ask.TheVariants as wish
use Rattle.agent_terms.specs.declared.outcome.Outcome.{Outcome}
use Rattle.agent_terms.specs.declared.outcome.Outcome.TheVariants as outcome
use Rattle.agent_terms.specs.declared.request.Request.{Request}
use Rattle.object_access.specs.Access as access
use Rattle.object_access.specs.Access.{Seen}
use Rattle.object_access.specs.WindowAccess.{window}
use Rattle.object_access.specs.LocationAccess.{location}
use Rattle.object_access.specs.StepAnswer.{Sight, held, operand_value, object_of, request_for, performed, on_object, change_of, if_any, frame_at, frame_step, open_at, open_step, link_at, gives_no_opener, read_at, drop_step, perform, step_stores}
use Rattle.agent_laws.proofs.Blanked.BlankedSteps.{done_with, left_by}
use Rattle.step_ranges.specs.Ranges.{is_at_hand, is_body_at_hand, is_property_at_hand, StoresAtHand, is_operand_short, is_short_if_any, is_step_short, is_request_short}
use Rattle.step_ranges.proofs.Texts.{undefined_within}
use Rattle.step_ranges.proofs.Reached.{IsSightInRange, held_at_hand, operand_at_hand, IsWishShort, IsOutcomeInRange, IsMetAtHand, AreAllAtHand, got_in_range, has_in_range, described_in_range, keys_in_range, prototype_in_range, set_in_range, defined_in_range, deleted_in_range, called_in_range, window_met, location_met}

-- ANSWERS

-- what is answered is at hand, and what is asked is within the limits of requests
abbrev IsInRange : Tree → Performed → Type 0
IsInRange t (Answer o) = IsOutcomeInRange t o
IsInRange t (Ask q) = is_request_short q ≡ true

request_in_range : (d : ℕ) (user : Bool) (a : wishes.Ask) → IsWishShort a → is_request_short (request_for d user a) ≡ true
unfolding is_request_short
request_in_range d user (wish.Go doc page) h = refl
request_in_range d user (wish.Name doc name) h = h
request_in_range d user (wish.Disown doc) h = refl
request_in_range d user (wish.Close doc) h = refl
request_in_range d user (wish.Post doc target given) h = h

performed_in_range : (t : Tree) (d : ℕ) (user : Bool) (o : Outcome) → IsOutcomeInRange t o → IsInRange t (performed d user o)
performed_in_range t d user (outcome.Ask a) h = request_in_range d user a h
performed_in_range t d user (outcome.Value v) h = h
performed_in_range t d user o h = tt

object_in_range : (s : Sight) (d : ℕ) (user : Bool) (of : List ℕ) (f : Seen → Outcome) → IsSightInRange s d → ((seen : Seen) → IsMetAtHand s.tree seen → IsOutcomeInRange s.tree (f seen))
    → IsInRange s.tree (on_object s d user of f)
unfolding on_object
object_in_range s d user of f range h = performed_in_range s.tree d user _ (by_value (held s d of) (held_at_hand s d range of))
  where
    by_value : (v : Value) → is_at_hand s.tree v ≡ true → IsOutcomeInRange s.tree (done_with (object_of s d v) f)
    by_value (value.Window n) there = h (window s.tree s.urls d n) (window_met s.tree s.urls d n range.kept there)
    by_value (value.Location e) there = h (location s.tree s.urls d e) (location_met s.tree s.urls d e range.kept)
    by_value v there = tt

name_short : (name : Option (List ℕ)) → is_short_if_any name ≡ true → is_short (unwrap_or name []) ≡ true
name_short None h = refl
name_short (Some name) h = h

framed_in_range : (t : Tree) (s : Sight) (d : ℕ) (name : List ℕ) (flags : ℕ) (text : Option (List ℕ)) → is_short name ≡ true → IsInRange t (frame_step s d name flags text)
unfolding frame_step is_request_short
framed_in_range t s d name flags None short = short
framed_in_range t s d name flags (Some text) short = by_page (read_at s d text)
  where
    by_page : (r : Result (List ℕ) UrlError) → IsInRange t (frame_at d name flags r)
    by_page (Ok page) = short
    by_page (Err url.SchemeOut) = tt
    by_page (Err e) = short

opened_in_range : (t : Tree) (s : Sight) (d : ℕ) (target : List ℕ) (noopener user : Bool) (text : Option (List ℕ)) → is_short target ≡ true → IsInRange t (open_step s d target noopener user text)
unfolding open_step is_request_short
opened_in_range t s d target noopener user None short = short
opened_in_range t s d target noopener user (Some text) short = by_page (read_at s d text)
  where
    by_page : (r : Result (List ℕ) UrlError) → IsInRange t (open_at d target noopener user r)
    by_page (Ok page) = short
    by_page (Err url.SchemeOut) = tt
    by_page (Err e) = tt

linked_in_range : (t : Tree) (d : ℕ) (target : List ℕ) (noopener user : Bool) (r : Result (List ℕ) UrlError) → is_short target ≡ true → IsInRange t (link_at d target noopener user r)
unfolding is_request_short
linked_in_range t d target noopener user (Ok page) short = short
linked_in_range t d target noopener user (Err url.SchemeOut) short = tt
linked_in_range t d target noopener user (Err e) short = undefined_within

dropped_in_range : (t : Tree) (d : ℕ) (nav : Option ℕ) → IsInRange t (drop_step d nav)
unfolding is_request_short
dropped_in_range t d None = undefined_within
dropped_in_range t d (Some nav) = refl

operands_at_hand : (s : Sight) (d : ℕ) → IsSightInRange s d → (args : List Operand) → list_all is_operand_short args ≡ true → AreAllAtHand s.tree (map (operand_value s d) args)
operands_at_hand s d range [] short = tt
operands_at_hand s d range (x ∷ xs) short =
    let two = both (is_operand_short x) (list_all is_operand_short xs) short in
    (operand_at_hand s d range x two.0, operands_at_hand s d range xs two.1)

perform_in_range : (s : Sight) (d : ℕ) → IsSightInRange s d → (does : Step) → is_step_short does ≡ true → IsInRange s.tree (perform s d does)
unfolding perform is_step_short is_request_short
perform_in_range s d range (step.Let to given) short = operand_at_hand s d range given short
perform_in_range s d range (step.Get of key to) short =
    object_in_range s d false of _ range (λ seen met. got_in_range s.tree seen (s.stores seen.object) key met (range.stores seen.object key))
perform_in_range s d range (step.Has of key) short = object_in_range s d false of _ range (λ seen met. has_in_range s.tree seen (s.stores seen.object) key)
perform_in_range s d range (step.Describe of key) short = object_in_range s d false of _ range (λ seen met. described_in_range s.tree seen (s.stores seen.object) key)
perform_in_range s d range (step.Keys of) short = object_in_range s d false of _ range (λ seen met. keys_in_range s.tree seen (s.stores seen.object))
perform_in_range s d range (step.Proto of) short = object_in_range s d false of _ range (λ seen met. prototype_in_range s.tree seen)
perform_in_range s d range (step.SetProto of) short = object_in_range s d false of _ range (λ seen met. tt)
perform_in_range s d range (step.Extensible of) short = object_in_range s d false of _ range (λ seen met. tt)
perform_in_range s d range (step.Prevent of) short = object_in_range s d false of _ range (λ seen met. tt)
perform_in_range s d range (step.Set of key given user) short =
    object_in_range s d user of _ range (λ seen met. set_in_range s.tree seen (s.stores seen.object) key (operand_value s d given) met (operand_at_hand s d range given short))
perform_in_range s d range (step.Define of key given writable enumerable configurable) short =
    object_in_range s d false of _ range (λ seen met. defined_in_range s.tree seen (s.stores seen.object) key (change_of s d given writable enumerable configurable))
perform_in_range s d range (step.Delete of key) short = object_in_range s d false of _ range (λ seen met. deleted_in_range s.tree seen (s.stores seen.object) key)
perform_in_range s d range (step.Call of key args to user) short =
    object_in_range s d user of _ range
    (λ seen met. called_in_range s.tree s.urls d seen (s.stores seen.object) key (map (operand_value s d) args) met (range.stores seen.object key) (operands_at_hand s d range args short))
perform_in_range s d range (step.Frame text name sandbox to) short =
    framed_in_range s.tree s d (unwrap_or name []) (option_map_or flags_of sandbox 0) (if_any text) (name_short name short)
perform_in_range s d range (step.Open text target noopener user to) short = opened_in_range s.tree s d target noopener user (if_any text) short
perform_in_range s d range (step.Link text target rel user) short = linked_in_range s.tree d target (gives_no_opener rel target) user (read_at s d text) short
perform_in_range s d range step.Sync short = refl
perform_in_range s d range (step.Domain text) short = short
perform_in_range s d range (step.Drop index) short = dropped_in_range s.tree d (slice_get (children_of s.tree d) index)

-- a value that a step answers
pub answer_at_hand : (s : Sight) (d : ℕ) → IsSightInRange s d → (does : Step) (v : Value) → is_step_short does ≡ true → perform s d does ≡ Answer (outcome.Value v) → is_at_hand s.tree v ≡ true
answer_at_hand s d range does v short is = subst (IsInRange s.tree) is (perform_in_range s d range does short)

-- a request that a step asks
pub asked_in_range : (s : Sight) (d : ℕ) → IsSightInRange s d → (does : Step) (q : Request) → is_step_short does ≡ true → perform s d does ≡ Ask q → is_request_short q ≡ true
asked_in_range s d range does q short is = subst (IsInRange s.tree) is (perform_in_range s d range does short)

-- ACTS

abbrev IsGivenAtHand : Tree → Option Value → Type 0
IsGivenAtHand t None = Unit {0}
IsGivenAtHand t (Some v) = is_at_hand t v ≡ true

-- the value that an act puts into a property
abbrev IsActAtHand : Tree → Act → Type 0
IsActAtHand t (Define change) = IsGivenAtHand t change.value
IsActAtHand t (Set v) = is_at_hand t v ≡ true
IsActAtHand t Delete = Unit {0}

-- the property afterwards
abbrev IsDoneAtHand : Tree → Done → Type 0
IsDoneAtHand t x = is_property_at_hand t x.property ≡ true

either_done : (t : Tree) (b : Bool) (x y : Done) → IsDoneAtHand t x → IsDoneAtHand t y → IsDoneAtHand t (if b then x else y)
either_done t true x y h k = h
either_done t false x y h k = k

given_or : (t : Tree) (o : Option Value) (v : Value) → IsGivenAtHand t o → is_at_hand t v ≡ true → is_at_hand t (unwrap_or o v) ≡ true
given_or t None v h k = k
given_or t (Some w) v h k = h

body_after_at_hand : (t : Tree) (given : Option Value) (writable : Option Bool) (b : Body) → IsGivenAtHand t given → is_body_at_hand t b ≡ true
    → is_body_at_hand t (body_after given writable b) ≡ true
body_after_at_hand t given writable (body.Value v was) h k = given_or t given v h k
body_after_at_hand t given writable (body.Accessor get set) h k = by_test (is_some given || is_some writable)
  where
    by_test : (b : Bool) → is_body_at_hand t (if b then body.Value (unwrap_or given nothing) (unwrap_or writable false) else body.Accessor get set) ≡ true
    by_test true = given_or t given nothing h undefined_within
    by_test false = refl

define_done : (t : Tree) (change : Change) (p : Option Descriptor) → IsGivenAtHand t change.value → is_property_at_hand t p ≡ true → IsDoneAtHand t (ordinary_define change p)
unfolding ordinary_define
define_done t change None h k = given_or t change.value nothing h undefined_within
define_done t change (Some p) h k = either_done t (is_refused change p) _ _ k (body_after_at_hand t change.value change.writable p.body h k)

set_done : (t : Tree) (role : Role) (v : Value) (p : Option Descriptor) → is_at_hand t v ≡ true → is_property_at_hand t p ≡ true → IsDoneAtHand t (set_to role v p)
unfolding set_to
set_done t role v None h k = h
set_done t role v (Some p) h k = by_body p.body
  where
    by_role : (r : Role) → IsDoneAtHand t (set_accessor r v p)
    by_role Fixed = k
    by_role Runs = k
    by_role Replaceable = either_done t p.configurable _ _ h k
    by_role Opening = either_done t (is_null v) _ _ k (either_done t p.configurable _ _ h k)

    by_body : (b : Body) → IsDoneAtHand t (set_by role v p b)
    by_body (body.Accessor get set) = by_role role
    by_body (body.Value w true) = h
    by_body (body.Value w false) = k

delete_done : (t : Tree) (p : Option Descriptor) → is_property_at_hand t p ≡ true → IsDoneAtHand t (ordinary_delete p)
unfolding ordinary_delete
delete_done t None k = refl
delete_done t (Some p) k = either_done t p.configurable _ _ refl k

acted_at_hand : (t : Tree) (o : Object) (key : Key) (act : Act) (p : Option Descriptor) → IsActAtHand t act → is_property_at_hand t p ≡ true → IsDoneAtHand t (acted o key act p)
unfolding acted
acted_at_hand t o key (Define change) p h k = either_done t (is_default o key) _ _ k (define_done t change p h k)
acted_at_hand t o key (Set v) p h k = set_done t (role_at o key) v p h k
acted_at_hand t o key Delete p h k = either_done t (is_default o key) _ _ k (delete_done t p k)

-- PROPERTIES AFTERWARDS

left_at_hand : (t : Tree) (seen : Seen) (props : Store) (key : Key) (act : Act) → IsActAtHand t act → ((k : Key) → is_property_at_hand t (props.at k) ≡ true)
    → (other : Key) → is_property_at_hand t ((access.store_left seen props key act).at other) ≡ true
unfolding access.store_left store_after
left_at_hand t seen props key act h there other = by_test (seen.own && is_none (seen.index key))
  where
    by_key : (b : Bool) → is_property_at_hand t (if b then acted_in props (access.call_of key act) else props.at other) ≡ true
    by_key true = acted_at_hand t props.object key act (props.at key) h (there key)
    by_key false = there other

    by_test : (b : Bool) → is_property_at_hand t ((if b then store_after props (access.call_of key act) else props).at other) ≡ true
    by_test true = by_key (same_key key other)
    by_test false = there other

stores_left : (t : Tree) (stores : Object → Store) (key : Key) (act : Act) (o : Option Seen) → StoresAtHand t stores → IsActAtHand t act → StoresAtHand t (left_by stores key act o)
stores_left t stores key act None there h = there
stores_left t stores key act (Some seen) there h = λ o other. by_test o other (same_object o seen.object)
  where
    by_test : (o : Object) (other : Key) (b : Bool) → is_property_at_hand t ((if b then access.store_left seen (stores seen.object) key act else stores o).at other) ≡ true
    by_test o other true = left_at_hand t seen (stores seen.object) key act h (there seen.object) other
    by_test o other false = there o other

-- the properties of objects after a step
pub changed_at_hand : (s : Sight) (d : ℕ) → IsSightInRange s d → (does : Step) → is_step_short does ≡ true → StoresAtHand s.tree (step_stores s d does)
unfolding step_stores is_step_short
changed_at_hand s d range (step.Set of key given user) short =
    stores_left s.tree s.stores key (Set (operand_value s d given)) (object_of s d (held s d of)) range.stores (operand_at_hand s d range given short)
changed_at_hand s d range (step.Define of key given writable enumerable configurable) short =
    stores_left s.tree s.stores key (Define (change_of s d given writable enumerable configurable)) (object_of s d (held s d of)) range.stores (by_given given short)
  where
    by_given : (given : Option Operand) → option_map_or is_operand_short given true ≡ true → IsGivenAtHand s.tree (option_map (operand_value s d) given)
    by_given None short = tt
    by_given (Some x) short = operand_at_hand s d range x short
changed_at_hand s d range (step.Delete of key) short = stores_left s.tree s.stores key Delete (object_of s d (held s d of)) range.stores tt
changed_at_hand s d range does short = range.stores
