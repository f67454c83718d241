-- What a document's step answers belongs to its group, and so does what it leaves in the properties of objects.
use Rattle.std.proofs.Common.{◌≡◌, ℕ, ◌<◌, List, [], map, Option, Some, None, Bool, true, false, refl, sym, subst, if◌then◌else◌}
use Rattle.std.specs.Prelude.{Result, Ok, Err, slice_get, unwrap_or, is_some, is_none, ◌&&◌, ◌||◌}
use Rattle.std.proofs.lemmas.Bool.{false≢true, eqb-true}
use Rattle.std.specs.Option.{option_map, option_map_or}
use Rattle.origin_core.specs.Flags.{flags_of}
use Rattle.origin_core.specs.declared.page.UrlError.{UrlError}
use Rattle.origin_core.specs.declared.page.UrlError.TheVariants as url
use Rattle.window_props.specs.declared.key.Key.{Key}
use Rattle.window_props.specs.declared.value.Value.{Value}
use Rattle.window_props.specs.declared.value.Value.TheVariants as value
use Rattle.window_props.specs.declared.platform.Object.{Object}
use Rattle.window_props.specs.declared.platform.Object.TheVariants as object
use Rattle.window_props.specs.declared.descriptor.Body.{Body}
use Rattle.window_props.specs.declared.descriptor.Body.TheVariants as body
use Rattle.window_props.specs.declared.descriptor.Change.{Change}
use Rattle.window_props.specs.declared.descriptor.Descriptor.{Descriptor}
use Rattle.window_props.specs.declared.platform.Role.{Role}
use Rattle.window_props.specs.declared.platform.Role.TheVariants.{Fixed, Replaceable, Opening, Runs}
use Rattle.window_props.specs.Keys.{same_key}
use Rattle.window_props.specs.Values.{same_object}
use Rattle.window_props.specs.Ordinary.{Act, Define, Set, Delete, Done, nothing, is_refused, body_after, ordinary_define, is_null, set_accessor, set_by, set_to, ordinary_delete, role_at, is_default, acted}
use Rattle.window_props.specs.History.{Store, acted_in, store_after}
use Rattle.tree_log.specs.Tree.{Tree, nav_of, children_of, same_group}
use Rattle.agent_terms.specs.declared.step.Operand.{Operand}
use Rattle.agent_terms.specs.declared.step.Step.{Step}
use Rattle.agent_terms.specs.declared.step.Step.TheVariants as step
use Rattle.agent_terms.specs.declared.act.Performed.{Performed}
use Rattle.agent_terms.specs.declared.act.Performed.TheVariants.{Answer, Ask}
use Rattle.agent_terms.specs.declared.outcome.Outcome.{Outcome}
use Rattle.agent_terms.specs.declared.outcome.Outcome.TheVariants as outcome
use Rattle.object_access.specs.Access as access
use Rattle.object_access.specs.Access.{Seen}
use Rattle.object_access.specs.WindowAccess.{window}
use Rattle.object_access.specs.LocationAccess.{location}
use Rattle.object_access.specs.StepAnswer.{Sight, held, operand_value, object_of, performed, on_object, change_of, if_any, frame_at, frame_step, open_at, open_step, link_at, gives_no_opener, read_at, drop_step, perform, step_stores}
use Rattle.single_agent.specs.Shown.{document_of}
use Rattle.agent_laws.specs.Belonging.{Belongs, RegistersBelong, BodyBelongs, PropertyBelongs, StoresBelong, IsClosed}
use Rattle.agent_laws.proofs.Blanked.BlankedSteps.{sight_with, done_with, left_by}
use Rattle.agent_laws.proofs.Groups.Grouped.{same_back, belongs_with}
use Rattle.agent_laws.proofs.Groups.Reached.{held_belongs, operand_belongs, OutcomeBelongs, IsMetWith, got_belongs, has_belongs, described_belongs, keys_belong, prototype_belongs, set_belongs, defined_belongs, deleted_belongs, called_belongs, window_met, location_met, property_with}

-- ANSWERS

abbrev AnswerBelongs : Tree → ℕ → Performed → Type 0
AnswerBelongs t d (Answer o) = OutcomeBelongs t d o
AnswerBelongs t d (Ask q) = Unit {0}

performed_belongs : (t : Tree) (d : ℕ) (user : Bool) (o : Outcome) → OutcomeBelongs t d o → AnswerBelongs t d (performed d user o)
performed_belongs t d user (outcome.Ask a) h = tt
performed_belongs t d user (outcome.Value v) h = h
performed_belongs t d user o h = tt

object_belongs : (t : Tree) (urls : ℕ → List ℕ) (registers : ℕ → List ℕ → Value) (stores : Object → Store) (d : ℕ) (user : Bool) (of : List ℕ) (f : Seen → Outcome)
    → IsClosed t → d < t.docs → RegistersBelong t registers → ((seen : Seen) → IsMetWith t d seen → OutcomeBelongs t d (f seen))
    → AnswerBelongs t d (on_object (sight_with t urls registers stores) d user of f)
unfolding on_object
object_belongs t urls registers stores d user of f closed here holds h =
    performed_belongs t d user _ (by_value (held (sight_with t urls registers stores) d of) (held_belongs t urls registers stores d closed here holds of))
  where
    by_value : (v : Value) → Belongs t d v → OutcomeBelongs t d (done_with (object_of (sight_with t urls registers stores) d v) f)
    by_value (value.Window n) b = h (window t urls d n) (window_met t urls d n closed b)
    by_value (value.Location e) b = h (location t urls d e) (location_met t urls d e b)
    by_value v b = tt

framed_belongs : (t : Tree) (s : Sight) (d : ℕ) (name : List ℕ) (flags : ℕ) (text : Option (List ℕ)) → AnswerBelongs t d (frame_step s d name flags text)
unfolding frame_step
framed_belongs t s d name flags None = tt
framed_belongs t s d name flags (Some text) = by_page (read_at s d text)
  where
    by_page : (r : Result (List ℕ) UrlError) → AnswerBelongs t d (frame_at d name flags r)
    by_page (Ok page) = tt
    by_page (Err url.SchemeOut) = tt
    by_page (Err e) = tt

opened_belongs : (t : Tree) (s : Sight) (d : ℕ) (target : List ℕ) (noopener user : Bool) (text : Option (List ℕ)) → AnswerBelongs t d (open_step s d target noopener user text)
unfolding open_step
opened_belongs t s d target noopener user None = tt
opened_belongs t s d target noopener user (Some text) = by_page (read_at s d text)
  where
    by_page : (r : Result (List ℕ) UrlError) → AnswerBelongs t d (open_at d target noopener user r)
    by_page (Ok page) = tt
    by_page (Err url.SchemeOut) = tt
    by_page (Err e) = tt

linked_belongs : (t : Tree) (d : ℕ) (target : List ℕ) (noopener user : Bool) (r : Result (List ℕ) UrlError) → AnswerBelongs t d (link_at d target noopener user r)
linked_belongs t d target noopener user (Ok page) = tt
linked_belongs t d target noopener user (Err url.SchemeOut) = tt
linked_belongs t d target noopener user (Err e) = tt

dropped_belongs : (t : Tree) (d : ℕ) (nav : Option ℕ) → AnswerBelongs t d (drop_step d nav)
dropped_belongs t d None = tt
dropped_belongs t d (Some nav) = tt

perform_belongs : (t : Tree) (urls : ℕ → List ℕ) (registers : ℕ → List ℕ → Value) (stores : Object → Store) (d : ℕ) → IsClosed t → d < t.docs → RegistersBelong t registers → StoresBelong t stores → (s : Step)
    → AnswerBelongs t d (perform (sight_with t urls registers stores) d s)
unfolding perform
perform_belongs t urls registers stores d closed here holds kept (step.Let to given) = operand_belongs t urls registers stores d closed here holds given
perform_belongs t urls registers stores d closed here holds kept (step.Get of key to) = object_belongs t urls registers stores d false of _ closed here holds
    (λ seen met. got_belongs t d seen (stores seen.object) key met (property_with t d seen here met ((stores seen.object).at key) (kept seen.object key)))
perform_belongs t urls registers stores d closed here holds kept (step.Has of key) = object_belongs t urls registers stores d false of _ closed here holds
    (λ seen met. has_belongs t d seen (stores seen.object) key)
perform_belongs t urls registers stores d closed here holds kept (step.Describe of key) = object_belongs t urls registers stores d false of _ closed here holds
    (λ seen met. described_belongs t d seen (stores seen.object) key)
perform_belongs t urls registers stores d closed here holds kept (step.Keys of) = object_belongs t urls registers stores d false of _ closed here holds
    (λ seen met. keys_belong t d seen (stores seen.object))
perform_belongs t urls registers stores d closed here holds kept (step.Proto of) = object_belongs t urls registers stores d false of _ closed here holds (λ seen met. prototype_belongs t d seen)
perform_belongs t urls registers stores d closed here holds kept (step.SetProto of) = object_belongs t urls registers stores d false of _ closed here holds (λ seen met. tt)
perform_belongs t urls registers stores d closed here holds kept (step.Extensible of) = object_belongs t urls registers stores d false of _ closed here holds (λ seen met. tt)
perform_belongs t urls registers stores d closed here holds kept (step.Prevent of) = object_belongs t urls registers stores d false of _ closed here holds (λ seen met. tt)
perform_belongs t urls registers stores d closed here holds kept (step.Set of key given user) = object_belongs t urls registers stores d user of _ closed here holds
    (λ seen met. set_belongs t d seen (stores seen.object) key (operand_value (sight_with t urls registers stores) d given) met)
perform_belongs t urls registers stores d closed here holds kept (step.Define of key given writable enumerable configurable) = object_belongs t urls registers stores d false of _ closed here holds
    (λ seen met. defined_belongs t d seen (stores seen.object) key (change_of (sight_with t urls registers stores) d given writable enumerable configurable))
perform_belongs t urls registers stores d closed here holds kept (step.Delete of key) = object_belongs t urls registers stores d false of _ closed here holds
    (λ seen met. deleted_belongs t d seen (stores seen.object) key)
perform_belongs t urls registers stores d closed here holds kept (step.Call of key args to user) = object_belongs t urls registers stores d user of _ closed here holds
    (λ seen met. called_belongs t urls d d seen (stores seen.object) key (map (operand_value (sight_with t urls registers stores) d) args))
perform_belongs t urls registers stores d closed here holds kept (step.Frame text name sandbox to) =
    framed_belongs t (sight_with t urls registers stores) d (unwrap_or name []) (option_map_or flags_of sandbox 0) (if_any text)
perform_belongs t urls registers stores d closed here holds kept (step.Open text target noopener user to) = opened_belongs t (sight_with t urls registers stores) d target noopener user (if_any text)
perform_belongs t urls registers stores d closed here holds kept (step.Link text target rel user) =
    linked_belongs t d target (gives_no_opener rel target) user (read_at (sight_with t urls registers stores) d text)
perform_belongs t urls registers stores d closed here holds kept step.Sync = tt
perform_belongs t urls registers stores d closed here holds kept (step.Domain text) = tt
perform_belongs t urls registers stores d closed here holds kept (step.Drop index) = dropped_belongs t d (slice_get (children_of t d) index)

-- a value that a step answers
pub answer_belongs : (t : Tree) (urls : ℕ → List ℕ) (registers : ℕ → List ℕ → Value) (stores : Object → Store) (d : ℕ) → IsClosed t → d < t.docs → RegistersBelong t registers → StoresBelong t stores
    → (s : Step) (v : Value) → perform (sight_with t urls registers stores) d s ≡ Answer (outcome.Value v) → Belongs t d v
answer_belongs t urls registers stores d closed here holds kept s v is = subst (AnswerBelongs t d) is (perform_belongs t urls registers stores d closed here holds kept s)

-- ACTS

abbrev GivenBelongs : Tree → ℕ → Option Value → Type 0
GivenBelongs t d None = Unit {0}
GivenBelongs t d (Some v) = Belongs t d v

-- the value that an act puts into a property
abbrev ActBelongs : Tree → ℕ → Act → Type 0
ActBelongs t d (Define change) = GivenBelongs t d change.value
ActBelongs t d (Set v) = Belongs t d v
ActBelongs t d Delete = Unit {0}

-- the property afterwards
abbrev DoneBelongs : Tree → ℕ → Done → Type 0
DoneBelongs t d x = PropertyBelongs t d x.property

either_done : (t : Tree) (d : ℕ) (b : Bool) (x y : Done) → DoneBelongs t d x → DoneBelongs t d y → DoneBelongs t d (if b then x else y)
either_done t d true x y h k = h
either_done t d false x y h k = k

given_or : (t : Tree) (d : ℕ) (o : Option Value) (v : Value) → GivenBelongs t d o → Belongs t d v → Belongs t d (unwrap_or o v)
given_or t d None v h k = k
given_or t d (Some w) v h k = h

body_after_belongs : (t : Tree) (d : ℕ) (given : Option Value) (writable : Option Bool) (b : Body) → GivenBelongs t d given → BodyBelongs t d b → BodyBelongs t d (body_after given writable b)
body_after_belongs t d given writable (body.Value v was) h k = given_or t d given v h k
body_after_belongs t d given writable (body.Accessor get set) h k = by_test (is_some given || is_some writable)
  where
    by_test : (b : Bool) → BodyBelongs t d (if b then body.Value (unwrap_or given nothing) (unwrap_or writable false) else body.Accessor get set)
    by_test true = given_or t d given nothing h tt
    by_test false = tt

define_done : (t : Tree) (d : ℕ) (change : Change) (p : Option Descriptor) → GivenBelongs t d change.value → PropertyBelongs t d p → DoneBelongs t d (ordinary_define change p)
unfolding ordinary_define
define_done t d change None h k = given_or t d change.value nothing h tt
define_done t d change (Some p) h k = either_done t d (is_refused change p) _ _ k (body_after_belongs t d change.value change.writable p.body h k)

set_done : (t : Tree) (d : ℕ) (role : Role) (v : Value) (p : Option Descriptor) → Belongs t d v → PropertyBelongs t d p → DoneBelongs t d (set_to role v p)
unfolding set_to
set_done t d role v None h k = h
set_done t d role v (Some p) h k = by_body p.body
  where
    by_role : (r : Role) → DoneBelongs t d (set_accessor r v p)
    by_role Fixed = k
    by_role Runs = k
    by_role Replaceable = either_done t d p.configurable _ _ h k
    by_role Opening = either_done t d (is_null v) _ _ k (either_done t d p.configurable _ _ h k)

    by_body : (b : Body) → DoneBelongs t d (set_by role v p b)
    by_body (body.Accessor get set) = by_role role
    by_body (body.Value w true) = h
    by_body (body.Value w false) = k

delete_done : (t : Tree) (d : ℕ) (p : Option Descriptor) → PropertyBelongs t d p → DoneBelongs t d (ordinary_delete p)
unfolding ordinary_delete
delete_done t d None k = tt
delete_done t d (Some p) k = either_done t d p.configurable _ _ tt k

acted_belongs : (t : Tree) (d : ℕ) (o : Object) (key : Key) (act : Act) (p : Option Descriptor) → ActBelongs t d act → PropertyBelongs t d p → DoneBelongs t d (acted o key act p)
unfolding acted
acted_belongs t d o key (Define change) p h k = either_done t d (is_default o key) _ _ k (define_done t d change p h k)
acted_belongs t d o key (Set v) p h k = set_done t d (role_at o key) v p h k
acted_belongs t d o key Delete p h k = either_done t d (is_default o key) _ _ k (delete_done t d p k)

-- the same for another document of the group
act_with : (t : Tree) (d e : ℕ) (act : Act) → d < t.docs → same_group t (nav_of t d) (nav_of t e) ≡ true → ActBelongs t e act → ActBelongs t d act
act_with t d e (Define change) here same h = by_given change.value h
  where
    by_given : (given : Option Value) → GivenBelongs t e given → GivenBelongs t d given
    by_given None h = tt
    by_given (Some v) h = belongs_with t d e v here same h
act_with t d e (Set v) here same h = belongs_with t d e v here same h
act_with t d e Delete here same h = tt

-- PROPERTIES AFTERWARDS

left_belongs : (t : Tree) (d : ℕ) (seen : Seen) (props : Store) (key : Key) (act : Act) → ActBelongs t d act → ((k : Key) → PropertyBelongs t d (props.at k))
    → (other : Key) → PropertyBelongs t d ((access.store_left seen props key act).at other)
unfolding access.store_left store_after
left_belongs t d seen props key act h kept other = by_test (seen.own && is_none (seen.index key))
  where
    by_key : (b : Bool) → PropertyBelongs t d (if b then acted_in props (access.call_of key act) else props.at other)
    by_key true = acted_belongs t d props.object key act (props.at key) h (kept key)
    by_key false = kept other

    by_test : (b : Bool) → PropertyBelongs t d ((if b then store_after props (access.call_of key act) else props).at other)
    by_test true = by_key (same_key key other)
    by_test false = kept other

same_document : (a b : Object) → same_object a b ≡ true → document_of a ≡ document_of b
same_document (object.Window a) (object.Window b) h = eqb-true a b h
same_document (object.Location a) (object.Location b) h = eqb-true a b h
same_document (object.Window a) (object.Location b) h = absurd (false≢true h)
same_document (object.Location a) (object.Window b) h = absurd (false≢true h)

left_in_group : (t : Tree) (stores : Object → Store) (d : ℕ) (key : Key) (act : Act) (seen : Seen) → StoresBelong t stores → ActBelongs t d act → IsMetWith t d seen → StoresBelong t (left_by stores key act (Some seen))
left_in_group t stores d key act seen kept h met o other = by_test (same_object o seen.object) refl
  where
    theirs : ActBelongs t (document_of seen.object) act
    theirs = act_with t (document_of seen.object) d act met.there (same_back t (nav_of t d) (nav_of t (document_of seen.object)) met.group) h

    by_test : (b : Bool) → same_object o seen.object ≡ b → PropertyBelongs t (document_of o) ((if b then access.store_left seen (stores seen.object) key act else stores o).at other)
    by_test true is =
        subst (λ (e : ℕ). PropertyBelongs t e ((access.store_left seen (stores seen.object) key act).at other)) (sym (same_document o seen.object is))
        (left_belongs t (document_of seen.object) seen (stores seen.object) key act theirs (kept seen.object) other)
    by_test false is = kept o other

left_belong : (t : Tree) (urls : ℕ → List ℕ) (registers : ℕ → List ℕ → Value) (stores : Object → Store) (d : ℕ) (key : Key) (act : Act) → IsClosed t → StoresBelong t stores → ActBelongs t d act
    → (v : Value) → Belongs t d v → StoresBelong t (left_by stores key act (object_of (sight_with t urls registers stores) d v))
left_belong t urls registers stores d key act closed kept h (value.Window n) b = left_in_group t stores d key act (window t urls d n) kept h (window_met t urls d n closed b)
left_belong t urls registers stores d key act closed kept h (value.Location e) b = left_in_group t stores d key act (location t urls d e) kept h (location_met t urls d e b)
left_belong t urls registers stores d key act closed kept h v b = kept

-- the properties of objects after a step
pub changed_belongs : (t : Tree) (urls : ℕ → List ℕ) (registers : ℕ → List ℕ → Value) (stores : Object → Store) (d : ℕ) → IsClosed t → d < t.docs → RegistersBelong t registers → StoresBelong t stores
    → (s : Step) → StoresBelong t (step_stores (sight_with t urls registers stores) d s)
unfolding step_stores
changed_belongs t urls registers stores d closed here holds kept (step.Set of key given user) =
    left_belong t urls registers stores d key (Set (operand_value (sight_with t urls registers stores) d given)) closed kept (operand_belongs t urls registers stores d closed here holds given)
    (held (sight_with t urls registers stores) d of) (held_belongs t urls registers stores d closed here holds of)
changed_belongs t urls registers stores d closed here holds kept (step.Define of key given writable enumerable configurable) =
    left_belong t urls registers stores d key (Define (change_of (sight_with t urls registers stores) d given writable enumerable configurable)) closed kept (by_given given)
    (held (sight_with t urls registers stores) d of) (held_belongs t urls registers stores d closed here holds of)
  where
    by_given : (given : Option Operand) → GivenBelongs t d (option_map (operand_value (sight_with t urls registers stores) d) given)
    by_given None = tt
    by_given (Some x) = operand_belongs t urls registers stores d closed here holds x
changed_belongs t urls registers stores d closed here holds kept (step.Delete of key) =
    left_belong t urls registers stores d key Delete closed kept tt (held (sight_with t urls registers stores) d of) (held_belongs t urls registers stores d closed here holds of)
changed_belongs t urls registers stores d closed here holds kept s = kept
