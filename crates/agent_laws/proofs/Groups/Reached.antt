-- What a document reaches through an object of its group belongs to its group.
use Rattle.std.proofs.Common.{◌≡◌, ℕ, ◌<◌, List, [], ◌∷◌, codes, Option, Some, None, Bool, true, false, refl, ap, ◌∙◌, if◌then◌else◌}
use Rattle.std.specs.Prelude.{Result, Ok, Err, bytes_eq, slice_get, is_some, is_none}
use Rattle.std.specs.Option.{option_map, option_or}
use Rattle.origin_core.specs.declared.origin.Origin.{Origin as OriginValue}
use Rattle.origin_core.specs.Page.{read_page}
use Rattle.origin_core.specs.declared.page.UrlError.{UrlError}
use Rattle.origin_core.specs.declared.page.UrlError.TheVariants as url
use Rattle.window_props.specs.declared.key.Key.{Key}
use Rattle.window_props.specs.declared.key.Key.TheVariants as key
use Rattle.window_props.specs.declared.value.Value.{Value}
use Rattle.window_props.specs.declared.value.Value.TheVariants as value
use Rattle.window_props.specs.declared.value.Method.{Method}
use Rattle.window_props.specs.declared.value.Method.TheVariants.{Close, Focus, Blur, PostMessage, Assign, Replace}
use Rattle.window_props.specs.declared.platform.Object.{Object}
use Rattle.window_props.specs.declared.platform.Object.TheVariants as object
use Rattle.window_props.specs.declared.platform.Platform.{Platform}
use Rattle.window_props.specs.declared.platform.Platform.TheVariants.{Location, Opener, Name, Origin, Href}
use Rattle.window_props.specs.declared.descriptor.Body.{Body}
use Rattle.window_props.specs.declared.descriptor.Body.TheVariants as body
use Rattle.window_props.specs.declared.descriptor.Change.{Change}
use Rattle.window_props.specs.declared.descriptor.Descriptor.{Descriptor}
use Rattle.window_props.specs.declared.props.SetAnswer.{SetAnswer}
use Rattle.window_props.specs.declared.props.SetAnswer.TheVariants as settled
use Rattle.window_props.specs.Keys.{array_index}
use Rattle.window_props.specs.Platform.{named, method_of}
use Rattle.window_props.specs.Ordinary.{Define, Set, Delete}
use Rattle.window_props.specs.History.{Store, answer_in}
use Rattle.window_props.specs.Cross.{listed, cross_named, made_for_others, is_fallback}
use Rattle.tree_log.specs.declared.entry.Target.{Target}
use Rattle.tree_log.specs.Tree.{Tree, nav_of, origin_of, is_active, children_of, same_group}
use Rattle.tree_log.specs.NamedChildren.{child_named}
use Rattle.agent_terms.specs.declared.step.Operand.{Operand}
use Rattle.agent_terms.specs.declared.step.Operand.TheVariants as operand
use Rattle.agent_terms.specs.declared.outcome.Outcome.{Outcome}
use Rattle.agent_terms.specs.declared.outcome.Outcome.TheVariants as outcome
use Rattle.agent_terms.specs.declared.outcome.Rule.{Rule}
use Rattle.agent_terms.specs.declared.outcome.Rule.TheVariants.{S1, S2, S3, S4, S5, S6}
use Rattle.object_access.specs.Values.{undefined, null, window_or, text_of}
use Rattle.object_access.specs.Going.{go, gone_to, or_else_outcome, with_text, set_href}
use Rattle.object_access.specs.Access as access
use Rattle.object_access.specs.Access.{Seen, got, got_own, got_foreign, has_foreign, described_foreign, settled_own, set_foreign, truth_of, at_index, own_property, foreign_property, foreign_named, or_refused, fallback_property, constant, child_property}
use Rattle.object_access.specs.WindowAccess.{window, window_of, window_set, set_by, got_by, child_by}
use Rattle.object_access.specs.LocationAccess.{location, location_value, location_set}
use Rattle.object_access.specs.Methods.{posted, posted_to, posted_clone, target_text, target_of, sent, built_in, run, run_found, run_got, called}
use Rattle.object_access.specs.StepAnswer.{held, operand_value}
use Rattle.single_agent.specs.Shown.{document_of}
use Rattle.agent_laws.specs.Belonging.{Belongs, RegistersBelong, BodyBelongs, PropertyBelongs, IsClosed}
use Rattle.agent_laws.proofs.Blanked.BlankedSteps.{sight_with}
use Rattle.agent_laws.proofs.Groups.Grouped.{belongs_itself, belongs_with, child_belongs, named_belongs, attribute_belongs}

-- OPERANDS

pub held_belongs : (t : Tree) (urls : ℕ → List ℕ) (registers : ℕ → List ℕ → Value) (stores : Object → Store) (d : ℕ) → IsClosed t → d < t.docs → RegistersBelong t registers → (name : List ℕ)
    → Belongs t d (held (sight_with t urls registers stores) d name)
unfolding held
held_belongs t urls registers stores d closed here holds name = by_test (bytes_eq name (codes "window")) (bytes_eq name (codes "undefined"))
  where
    by_test : (a b : Bool) → Belongs t d (if a then value.Window (nav_of t d) else if b then undefined else registers d name)
    by_test true b = belongs_itself t closed.well d here
    by_test false true = tt
    by_test false false = holds d name

pub operand_belongs : (t : Tree) (urls : ℕ → List ℕ) (registers : ℕ → List ℕ → Value) (stores : Object → Store) (d : ℕ) → IsClosed t → d < t.docs → RegistersBelong t registers → (given : Operand)
    → Belongs t d (operand_value (sight_with t urls registers stores) d given)
unfolding operand_value
operand_belongs t urls registers stores d closed here holds (operand.Register name) = held_belongs t urls registers stores d closed here holds name
operand_belongs t urls registers stores d closed here holds (operand.Plain given) = tt

-- OUTCOMES

-- the value that it is, if it is one
abbrev pub OutcomeBelongs : Tree → ℕ → Outcome → Type 0
OutcomeBelongs t d (outcome.Value v) = Belongs t d v
OutcomeBelongs t d _ = Unit {0}

-- the window of that child, if there is one
abbrev pub ChildBelongs : Tree → ℕ → Option ℕ → Type 0
ChildBelongs t d None = Unit {0}
ChildBelongs t d (Some c) = Belongs t d (value.Window c)

abbrev FoundBelongs : Tree → ℕ → Result Descriptor Rule → Type 0
FoundBelongs t d (Err rule) = Unit {0}
FoundBelongs t d (Ok p) = BodyBelongs t d p.body

either_belongs : (t : Tree) (d : ℕ) (b : Bool) (x y : Outcome) → OutcomeBelongs t d x → OutcomeBelongs t d y → OutcomeBelongs t d (if b then x else y)
either_belongs t d true x y h k = h
either_belongs t d false x y h k = k

given_child : (t : Tree) (d : ℕ) (o : Option ℕ) → ((c : ℕ) → o ≡ Some c → Belongs t d (value.Window c)) → ChildBelongs t d o
given_child t d None h = tt
given_child t d (Some c) h = h c refl

-- AN OBJECT

-- an object as a document of its group meets it
pub record IsMetWith (t : Tree) (d : ℕ) (seen : Seen) : Type 0 where
  pub there : document_of seen.object < t.docs
  pub group : same_group t (nav_of t d) (nav_of t (document_of seen.object)) ≡ true
  pub children : (i : ℕ) → ChildBelongs t d (seen.child i)
  pub names : (key : Key) → ChildBelongs t d (seen.child_named key)
  pub getters : (key : Key) → Belongs t d (seen.getter key)
  pub setters : (key : Key) (v : Value) → OutcomeBelongs t d (seen.setter key v)

-- its own properties
child_property_belongs : (t : Tree) (d : ℕ) (enumerable : Bool) (c : Option ℕ) → ChildBelongs t d c → PropertyBelongs t d (option_map (child_property enumerable) c)
child_property_belongs t d enumerable None h = tt
child_property_belongs t d enumerable (Some c) h = h

own_property_belongs : (t : Tree) (d : ℕ) (seen : Seen) (props : Store) (key : Key) → IsMetWith t d seen → PropertyBelongs t d (props.at key) → PropertyBelongs t d (own_property seen props key)
unfolding own_property
own_property_belongs t d seen props key met own = by_index (seen.index key)
  where
    by_index : (i : Option ℕ) → PropertyBelongs t d (elim i as (λ _. Option Descriptor) [ Some i ↦ at_index (seen.child i) | None ↦ props.at key ])
    by_index (Some i) = child_property_belongs t d true (seen.child i) (met.children i)
    by_index None = own

got_own_belongs : (t : Tree) (d : ℕ) (seen : Seen) (key : Key) → IsMetWith t d seen → (p : Option Descriptor) → PropertyBelongs t d p → Belongs t d (got_own seen key p)
got_own_belongs t d seen key met None h = by_child (seen.child_named key) (met.names key)
  where
    by_child : (c : Option ℕ) → ChildBelongs t d c → Belongs t d (window_or undefined c)
    by_child None h = tt
    by_child (Some c) h = h
got_own_belongs t d seen key met (Some p) h = by_body p.body h
  where
    by_body : (b : Body) → BodyBelongs t d b → Belongs t d (elim b as (λ _. Value) [ body.Value v _ ↦ v | body.Accessor _ _ ↦ seen.getter key ])
    by_body (body.Value v writable) h = h
    by_body (body.Accessor get set) h = met.getters key

-- what it shows to others
listed_belongs : (t : Tree) (d : ℕ) (o : Object) (key : Key) → PropertyBelongs t d (listed o key)
unfolding listed made_for_others
listed_belongs t d o key = by_name (cross_named o key)
  where
    by_method : (m : Option Method) (get set : Bool) → BodyBelongs t d (elim m as (λ _. Body) [ Some m ↦ body.Value (value.Function m o) false | None ↦ body.Accessor get set ])
    by_method (Some m) get set = tt
    by_method None get set = tt

    by_name : (name : Option Platform) → PropertyBelongs t d (option_map (made_for_others o) name)
    by_name None = tt
    by_name (Some name) = by_method (method_of name) _ _

first_belongs : (t : Tree) (d : ℕ) (a b : Option Descriptor) → PropertyBelongs t d a → PropertyBelongs t d b → PropertyBelongs t d (option_or a b)
first_belongs t d None b h k = k
first_belongs t d (Some p) b h k = h

fallback_belongs : (t : Tree) (d : ℕ) (b : Bool) → PropertyBelongs t d (if b then Some (constant undefined false) else None)
fallback_belongs t d true = tt
fallback_belongs t d false = tt

or_refused_belongs : (t : Tree) (d : ℕ) (rule : Rule) (p : Option Descriptor) → PropertyBelongs t d p → FoundBelongs t d (or_refused rule p)
or_refused_belongs t d rule None h = tt
or_refused_belongs t d rule (Some p) h = h

foreign_property_belongs : (t : Tree) (d : ℕ) (seen : Seen) (key : Key) → IsMetWith t d seen → FoundBelongs t d (foreign_property seen key)
unfolding foreign_property
foreign_property_belongs t d seen key met = by_index (seen.index key)
  where
    by_index : (i : Option ℕ) → FoundBelongs t d (elim i as (λ _. Result Descriptor Rule) [ Some i ↦ or_refused S2 (at_index (seen.child i)) | None ↦ foreign_named seen key ])
    by_index (Some i) = or_refused_belongs t d S2 (at_index (seen.child i)) (child_property_belongs t d true (seen.child i) (met.children i))
    by_index None =
        let child : PropertyBelongs t d (option_map (child_property false) (seen.child_named key)) = child_property_belongs t d false (seen.child_named key) (met.names key) in
        or_refused_belongs t d S1 _
        (first_belongs t d (listed seen.object key) _ (listed_belongs t d seen.object key) (first_belongs t d _ (fallback_property key) child (fallback_belongs t d (is_fallback key))))

got_foreign_belongs : (t : Tree) (d : ℕ) (seen : Seen) (key : Key) → IsMetWith t d seen → (found : Result Descriptor Rule) → FoundBelongs t d found → OutcomeBelongs t d (got_foreign seen key found)
got_foreign_belongs t d seen key met (Err rule) h = tt
got_foreign_belongs t d seen key met (Ok p) h = by_body p.body h
  where
    by_body : (b : Body) → BodyBelongs t d b
        → OutcomeBelongs t d (elim b as (λ _. Outcome) [ body.Value v _ ↦ outcome.Value v | body.Accessor get _ ↦ if get then outcome.Value (seen.getter key) else outcome.Security S3 ])
    by_body (body.Value v writable) h = h
    by_body (body.Accessor get set) h = either_belongs t d get (outcome.Value (seen.getter key)) (outcome.Security S3) (met.getters key) tt

-- ACCESSES

pub got_belongs : (t : Tree) (d : ℕ) (seen : Seen) (props : Store) (key : Key) → IsMetWith t d seen → PropertyBelongs t d (props.at key) → OutcomeBelongs t d (got seen props key)
unfolding got
got_belongs t d seen props key met own =
    either_belongs t d seen.own (outcome.Value (got_own seen key (own_property seen props key))) (got_foreign seen key (foreign_property seen key))
    (got_own_belongs t d seen key met (own_property seen props key) (own_property_belongs t d seen props key met own))
    (got_foreign_belongs t d seen key met (foreign_property seen key) (foreign_property_belongs t d seen key met))

pub has_belongs : (t : Tree) (d : ℕ) (seen : Seen) (props : Store) (key : Key) → OutcomeBelongs t d (access.has seen props key)
unfolding access.has
has_belongs t d seen props key = either_belongs t d seen.own _ (has_foreign (foreign_property seen key)) tt (by_found (foreign_property seen key))
  where
    by_found : (found : Result Descriptor Rule) → OutcomeBelongs t d (has_foreign found)
    by_found (Err rule) = tt
    by_found (Ok p) = tt

pub described_belongs : (t : Tree) (d : ℕ) (seen : Seen) (props : Store) (key : Key) → OutcomeBelongs t d (access.described seen props key)
unfolding access.described
described_belongs t d seen props key = either_belongs t d seen.own _ (described_foreign (foreign_property seen key)) tt (by_found (foreign_property seen key))
  where
    by_found : (found : Result Descriptor Rule) → OutcomeBelongs t d (described_foreign found)
    by_found (Err rule) = tt
    by_found (Ok p) = tt

pub keys_belong : (t : Tree) (d : ℕ) (seen : Seen) (props : Store) → OutcomeBelongs t d (access.keys seen props)
unfolding access.keys
keys_belong t d seen props = tt

pub prototype_belongs : (t : Tree) (d : ℕ) (seen : Seen) → OutcomeBelongs t d (access.prototype seen)
unfolding access.prototype
prototype_belongs t d seen = by_test seen.own
  where
    by_test : (b : Bool) → Belongs t d (if b then value.Prototype seen.kind else null)
    by_test true = tt
    by_test false = tt

pub set_belongs : (t : Tree) (d : ℕ) (seen : Seen) (props : Store) (key : Key) (v : Value) → IsMetWith t d seen → OutcomeBelongs t d (access.set seen props key v)
unfolding access.set
set_belongs t d seen props key v met = either_belongs t d seen.own _ (set_foreign seen key v (foreign_property seen key)) (by_index (seen.index key)) (by_found (foreign_property seen key))
  where
    by_answer : (a : SetAnswer) → OutcomeBelongs t d (settled_own seen key v a)
    by_answer (settled.Truth b) = tt
    by_answer settled.Setter = met.setters key v
    by_answer settled.TypeFault = tt

    by_index : (i : Option ℕ) → OutcomeBelongs t d (elim i as (λ _. Outcome) [ Some i ↦ outcome.Truth false | None ↦ settled_own seen key v (answer_in props (access.call_of key (Set v))) ])
    by_index (Some i) = tt
    by_index None = by_answer (answer_in props (access.call_of key (Set v)))

    by_body : (b : Body) → OutcomeBelongs t d (elim b as (λ _. Outcome) [ body.Value _ _ ↦ outcome.Security S4 | body.Accessor _ set ↦ if set then seen.setter key v else outcome.Security S4 ])
    by_body (body.Value w writable) = tt
    by_body (body.Accessor get set) = either_belongs t d set (seen.setter key v) (outcome.Security S4) (met.setters key v) tt

    by_found : (found : Result Descriptor Rule) → OutcomeBelongs t d (set_foreign seen key v found)
    by_found (Err rule) = tt
    by_found (Ok p) = by_body p.body

truth_belongs : (t : Tree) (d : ℕ) (a : SetAnswer) → OutcomeBelongs t d (truth_of a)
truth_belongs t d (settled.Truth b) = tt
truth_belongs t d settled.Setter = tt
truth_belongs t d settled.TypeFault = tt

pub defined_belongs : (t : Tree) (d : ℕ) (seen : Seen) (props : Store) (key : Key) (change : Change) → OutcomeBelongs t d (access.defined seen props key change)
unfolding access.defined
defined_belongs t d seen props key change = either_belongs t d seen.own _ (outcome.Security S5) (by_index (seen.index key)) tt
  where
    by_index : (i : Option ℕ) → OutcomeBelongs t d (elim i as (λ _. Outcome) [ Some i ↦ outcome.Truth false | None ↦ truth_of (answer_in props (access.call_of key (Define change))) ])
    by_index (Some i) = tt
    by_index None = truth_belongs t d (answer_in props (access.call_of key (Define change)))

pub deleted_belongs : (t : Tree) (d : ℕ) (seen : Seen) (props : Store) (key : Key) → OutcomeBelongs t d (access.deleted seen props key)
unfolding access.deleted
deleted_belongs t d seen props key = either_belongs t d seen.own _ (outcome.Security S6) (by_index (seen.index key)) tt
  where
    by_index : (i : Option ℕ) → OutcomeBelongs t d (elim i as (λ _. Outcome) [ Some i ↦ outcome.Truth (is_none (seen.child i)) | None ↦ truth_of (answer_in props (access.call_of key Delete)) ])
    by_index (Some i) = tt
    by_index None = truth_belongs t d (answer_in props (access.call_of key Delete))

-- SETTERS AND CALLS

text_belongs : (t : Tree) (d : ℕ) (v : Value) (f : List ℕ → Outcome) → ((x : List ℕ) → OutcomeBelongs t d (f x)) → OutcomeBelongs t d (with_text v f)
text_belongs t d v f h = by_text (text_of v)
  where
    by_text : (o : Option (List ℕ)) → OutcomeBelongs t d (elim o as (λ _. Outcome) [ None ↦ outcome.TypeFault | Some x ↦ f x ])
    by_text None = tt
    by_text (Some x) = h x

gone_belongs : (t : Tree) (urls : ℕ → List ℕ) (d asker doc : ℕ) (text : List ℕ) (other : Outcome) → OutcomeBelongs t d other → OutcomeBelongs t d (or_else_outcome other (go t urls asker doc text))
unfolding go
gone_belongs t urls d asker doc text other h = by_test (is_active t doc)
  where
    by_page : (r : Result (List ℕ) UrlError) → OutcomeBelongs t d (gone_to doc r)
    by_page (Ok page) = tt
    by_page (Err url.SchemeOut) = tt
    by_page (Err e) = tt

    by_test : (b : Bool) → OutcomeBelongs t d (or_else_outcome other (if b then Some (gone_to doc (read_page (Some (urls asker)) text)) else None))
    by_test true = by_page (read_page (Some (urls asker)) text)
    by_test false = h

posted_belongs : (t : Tree) (d : ℕ) (sender : OriginValue) (doc : ℕ) (args : List Value) → OutcomeBelongs t d (posted sender doc args)
unfolding posted
posted_belongs t d sender doc [] = tt
posted_belongs t d sender doc (v ∷ more) = by_text (target_text (slice_get more 0))
  where
    by_value : (to : Target) (v : Value) → OutcomeBelongs t d (posted_clone doc to v)
    by_value to (value.Plain x) = tt
    by_value to v = tt

    by_target : (to : Option Target) → OutcomeBelongs t d (posted_to doc v to)
    by_target None = tt
    by_target (Some to) = by_value to v

    by_text : (o : Option (List ℕ)) → OutcomeBelongs t d (elim o as (λ _. Outcome) [ None ↦ outcome.TypeFault | Some text ↦ posted_to doc v (target_of sender text) ])
    by_text None = tt
    by_text (Some text) = by_target (target_of sender text)

sent_belongs : (t : Tree) (urls : ℕ → List ℕ) (d asker doc : ℕ) (args : List Value) → OutcomeBelongs t d (sent t urls asker doc args)
unfolding sent
sent_belongs t urls d asker doc [] = tt
sent_belongs t urls d asker doc (v ∷ more) = text_belongs t d v _ (λ text. gone_belongs t urls d asker doc text (outcome.Value undefined) tt)

run_belongs : (t : Tree) (urls : ℕ → List ℕ) (d asker : ℕ) (o : Object) (m : Method) (args : List Value) → OutcomeBelongs t d (run t urls asker o m args)
run_belongs t urls d asker (object.Window e) Close args = tt
run_belongs t urls d asker (object.Window e) Focus args = tt
run_belongs t urls d asker (object.Window e) Blur args = tt
run_belongs t urls d asker (object.Window e) PostMessage args = posted_belongs t d (origin_of t asker) e args
run_belongs t urls d asker (object.Location e) Assign args = sent_belongs t urls d asker e args
run_belongs t urls d asker (object.Location e) Replace args = sent_belongs t urls d asker e args
run_belongs t urls d asker o m args = tt

pub called_belongs : (t : Tree) (urls : ℕ → List ℕ) (d asker : ℕ) (seen : Seen) (props : Store) (key : Key) (args : List Value)
    → OutcomeBelongs t d (called t urls asker seen props key args)
unfolding called
called_belongs t urls d asker seen props key args = by_got (got seen props key)
  where
    by_found : (m : Option Method) → OutcomeBelongs t d (run_found t urls asker seen.object args m)
    by_found None = tt
    by_found (Some m) = run_belongs t urls d asker seen.object m args

    by_got : (a : Outcome) → OutcomeBelongs t d (run_got t urls asker seen.object key args a)
    by_got (outcome.Value v) = by_found (built_in seen.object key v)
    by_got other = tt

href_belongs : (t : Tree) (urls : ℕ → List ℕ) (d asker doc : ℕ) (v : Value) → OutcomeBelongs t d (set_href t urls asker doc v)
href_belongs t urls d asker doc v = text_belongs t d v _ (λ text. gone_belongs t urls d asker doc text (outcome.Truth true) tt)

set_by_belongs : (t : Tree) (d : ℕ) (name : Option Platform) (f : Platform → Outcome) → ((p : Platform) → OutcomeBelongs t d (f p)) → OutcomeBelongs t d (set_by name f)
set_by_belongs t d None f h = tt
set_by_belongs t d (Some p) f h = h p

got_by_belongs : (t : Tree) (d : ℕ) (name : Option Platform) (f : Platform → Value) → ((p : Platform) → Belongs t d (f p)) → Belongs t d (got_by name f)
got_by_belongs t d None f h = tt
got_by_belongs t d (Some p) f h = h p

window_set_belongs : (t : Tree) (urls : ℕ → List ℕ) (d asker doc : ℕ) (p : Platform) (v : Value) → OutcomeBelongs t d (window_set t urls asker doc p v)
unfolding window_set
window_set_belongs t urls d asker doc Location v = href_belongs t urls d asker doc v
window_set_belongs t urls d asker doc Name v = text_belongs t d v _ (λ name. tt)
window_set_belongs t urls d asker doc Opener v = tt
window_set_belongs t urls d asker doc p v = tt

location_set_belongs : (t : Tree) (urls : ℕ → List ℕ) (d asker doc : ℕ) (p : Platform) (v : Value) → OutcomeBelongs t d (location_set t urls asker doc p v)
unfolding location_set
location_set_belongs t urls d asker doc Href v = href_belongs t urls d asker doc v
location_set_belongs t urls d asker doc p v = tt

location_value_belongs : (t : Tree) (urls : ℕ → List ℕ) (d e : ℕ) (p : Platform) → Belongs t d (location_value t urls e p)
unfolding location_value
location_value_belongs t urls d e Href = tt
location_value_belongs t urls d e Origin = tt
location_value_belongs t urls d e p = tt

-- WINDOWS AND LOCATIONS

pub window_met : (t : Tree) (urls : ℕ → List ℕ) (d n : ℕ) → IsClosed t → Belongs t d (value.Window n) → IsMetWith t d (window t urls d n)
unfolding window_of
window_met t urls d n closed b = record {
  there = closed.well.active n b.1;
  group = ap (λ (m : ℕ). same_group t (nav_of t d) m) (closed.well.placed n b.1) ∙ b.2;
  children = λ i. given_child t d (slice_get (children_of t (t.nav n).active) i) (λ c is. child_belongs t closed d n i c b is);
  names = by_key;
  getters = λ key. got_by_belongs t d (named (object.Window (t.nav n).active) key) _ (attribute_belongs t closed d n b);
  setters = λ key v. set_by_belongs t d (named (object.Window (t.nav n).active) key) _ (λ p. window_set_belongs t urls d d (t.nav n).active p v);
}
  where
    by_test : (name : List ℕ) (b : Bool) → ChildBelongs t d (if b then None else child_named t (t.nav n).active name)
    by_test name true = tt
    by_test name false = given_child t d (child_named t (t.nav n).active name) (λ c is. named_belongs t closed d n name c b is)

    by_key : (key : Key) → ChildBelongs t d (child_by (child_named t (t.nav n).active) key)
    by_key (key.Text name) = by_test name (is_some (array_index (key.Text name)))
    by_key key = tt

pub location_met : (t : Tree) (urls : ℕ → List ℕ) (d e : ℕ) → Belongs t d (value.Location e) → IsMetWith t d (location t urls d e)
unfolding location
location_met t urls d e b = record {
  there = b.1;
  group = b.2;
  children = λ i. tt;
  names = λ key. tt;
  getters = λ key. got_by_belongs t d (named (object.Location e) key) _ (location_value_belongs t urls d e);
  setters = λ key v. set_by_belongs t d (named (object.Location e) key) _ (λ p. location_set_belongs t urls d d e p v);
}

-- a property of an object of the group
pub property_with : (t : Tree) (d : ℕ) (seen : Seen) → d < t.docs → IsMetWith t d seen → (p : Option Descriptor) → PropertyBelongs t (document_of seen.object) p → PropertyBelongs t d p
property_with t d seen here met None h = tt
property_with t d seen here met (Some p) h = by_body p.body h
  where
    by_body : (b : Body) → BodyBelongs t (document_of seen.object) b → BodyBelongs t d b
    by_body (body.Value v writable) h = belongs_with t d (document_of seen.object) v here met.group h
    by_body (body.Accessor get set) h = tt
