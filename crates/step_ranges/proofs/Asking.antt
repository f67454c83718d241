-- A step that asks the coordinator changes no property: of the steps that could, a set alone asks, by a setter of the platform, and it
-- leaves the accessor there.
use Rattle.std.proofs.Common.{◌≡◌, ℕ, List, Option, Some, None, Bool, true, false, refl, sym, ap, ◌∙◌, if◌then◌else◌}
use Rattle.std.specs.Prelude.{is_none, ◌&&◌}
use Rattle.std.proofs.lemmas.Bool.{eqb-true}
use Rattle.window_props.specs.declared.key.Key.{Key}
use Rattle.window_props.specs.declared.value.Value.{Value}
use Rattle.window_props.specs.declared.descriptor.Body.{Body}
use Rattle.window_props.specs.declared.descriptor.Body.TheVariants as body
use Rattle.window_props.specs.declared.descriptor.Change.{Change}
use Rattle.window_props.specs.declared.descriptor.Descriptor.{Descriptor}
use Rattle.window_props.specs.declared.platform.Object.{Object}
use Rattle.window_props.specs.declared.platform.Object.TheVariants as object
use Rattle.window_props.specs.declared.platform.Role.{Role}
use Rattle.window_props.specs.declared.platform.Role.TheVariants.{Fixed, Replaceable, Opening, Runs}
use Rattle.window_props.specs.declared.props.SetAnswer.{SetAnswer}
use Rattle.window_props.specs.declared.props.SetAnswer.TheVariants as settled
use Rattle.window_props.specs.Keys.{same_key}
use Rattle.window_props.specs.Values.{same_object}
use Rattle.window_props.specs.Ordinary.{Act, Define, Set, Delete, Done, is_null, set_accessor, set_by, set_to, role_at, acted}
use Rattle.window_props.specs.History.{Store, Call, keys_after, acted_in, answer_in, store_after}
use Rattle.window_props.proofs.RowLaws.{same_key-true}
use Rattle.agent_terms.specs.declared.step.Step.{Step}
use Rattle.agent_terms.specs.declared.step.Step.TheVariants as step
use Rattle.agent_terms.specs.declared.act.Performed.TheVariants.{Ask}
use Rattle.agent_terms.specs.declared.outcome.Outcome.{Outcome}
use Rattle.agent_terms.specs.declared.outcome.Outcome.TheVariants as outcome
use Rattle.agent_terms.specs.declared.request.Request.{Request}
use Rattle.object_access.specs.Access as access
use Rattle.object_access.specs.Access.{Seen, foreign_property}
use Rattle.object_access.specs.StepAnswer.{Sight, held, operand_value, object_of, performed, on_object, change_of, perform, step_stores}
use Rattle.agent_laws.proofs.Blanked.BlankedAccess.{same_everywhere}
use Rattle.agent_laws.proofs.Blanked.BlankedSteps.{done_with, left_by}

-- WHERE A SET COMES TO A SETTER

-- a setter leaves the property as it was
abbrev IsKept : Option Descriptor → Done → Type 0
IsKept before x = x.answer ≡ settled.Setter → x.property ≡ before

either_kept : (before : Option Descriptor) (b : Bool) (x y : Done) → IsKept before x → IsKept before y → IsKept before (if b then x else y)
either_kept before true x y h k = h
either_kept before false x y h k = k

set_kept : (role : Role) (v : Value) (before : Option Descriptor) → IsKept before (set_to role v before)
unfolding set_to
set_kept role v None = λ e. absurd cc
set_kept role v (Some p) = by_body p.body
  where
    by_role : (r : Role) → IsKept (Some p) (set_accessor r v p)
    by_role Fixed = λ e. refl
    by_role Runs = λ e. refl
    by_role Replaceable = either_kept (Some p) p.configurable _ _ (λ e. absurd cc) (λ e. refl)
    by_role Opening = either_kept (Some p) (is_null v) _ _ (λ e. refl) (either_kept (Some p) p.configurable _ _ (λ e. absurd cc) (λ e. refl))

    by_body : (b : Body) → IsKept (Some p) (set_by role v p b)
    by_body (body.Accessor get set) = by_role role
    by_body (body.Value w true) = λ e. absurd cc
    by_body (body.Value w false) = λ e. refl

setter_kept : (props : Store) (key : Key) (v : Value) → answer_in props (access.call_of key (Set v)) ≡ settled.Setter → acted_in props (access.call_of key (Set v)) ≡ props.at key
unfolding acted
setter_kept props key v = set_kept (role_at props.object key) v (props.at key)

-- PROPERTIES AFTERWARDS

same_keys : (key : Key) (before : Option Descriptor) (keys : List Key) → keys_after key before before keys ≡ keys
same_keys key None keys = refl
same_keys key (Some p) keys = refl

-- a call that leaves its property as it was leaves all as it was
same_store : (props : Store) (call : Call) → acted_in props call ≡ props.at call.key → store_after props call ≡ props
unfolding store_after
same_store props call h = λ i. record { object = props.object; at = everywhere i; keys = keys i }
  where
    by_key : (key : Key) (b : Bool) → same_key call.key key ≡ b → (if b then acted_in props call else props.at key) ≡ props.at key
    by_key key true e = h ∙ ap props.at (same_key-true call.key key e)
    by_key key false e = refl

    everywhere : (λ key. if same_key call.key key then acted_in props call else props.at key) ≡ props.at
    everywhere = same_everywhere _ _ (λ key. by_key key (same_key call.key key) refl)

    keys : keys_after call.key (props.at call.key) (acted_in props call) props.keys ≡ props.keys
    keys = ap (λ (p : Option Descriptor). keys_after call.key (props.at call.key) p props.keys) h ∙ same_keys call.key (props.at call.key) props.keys

abbrev asks : Outcome → Bool
asks (outcome.Ask a) = true
asks _ = false

-- a set that asks
set_left : (seen : Seen) (props : Store) (key : Key) (v : Value) → asks (access.set seen props key v) ≡ true → access.store_left seen props key (Set v) ≡ props
unfolding access.set access.store_left
set_left seen props key v = by_own seen.own
  where
    by_answer : (a : SetAnswer) → answer_in props (access.call_of key (Set v)) ≡ a → asks (access.settled_own seen key v a) ≡ true → store_after props (access.call_of key (Set v)) ≡ props
    by_answer settled.Setter e h = same_store props (access.call_of key (Set v)) (setter_kept props key v e)
    by_answer (settled.Truth b) e h = absurd cc
    by_answer settled.TypeFault e h = absurd cc

    by_index : (i : Option ℕ) → asks (elim i as (λ _. Outcome) [ Some n ↦ outcome.Truth false | None ↦ access.settled_own seen key v (answer_in props (access.call_of key (Set v))) ]) ≡ true
        → (if is_none i then store_after props (access.call_of key (Set v)) else props) ≡ props
    by_index (Some n) h = refl
    by_index None h = by_answer (answer_in props (access.call_of key (Set v))) refl h

    by_own : (own : Bool)
        → asks (if own then elim (seen.index key) as (λ _. Outcome) [ Some n ↦ outcome.Truth false | None ↦ access.settled_own seen key v (answer_in props (access.call_of key (Set v))) ] else access.set_foreign seen key v (foreign_property seen key)) ≡ true
        → (if own && is_none (seen.index key) then store_after props (access.call_of key (Set v)) else props) ≡ props
    by_own true h = by_index (seen.index key) h
    by_own false h = refl

-- WHAT NEVER ASKS

if_none_asks : (b : Bool) (x y : Outcome) → asks x ≡ false → asks y ≡ false → asks (if b then x else y) ≡ false
if_none_asks true x y h k = h
if_none_asks false x y h k = k

truth_answers : (a : SetAnswer) → asks (access.truth_of a) ≡ false
truth_answers (settled.Truth b) = refl
truth_answers settled.Setter = refl
truth_answers settled.TypeFault = refl

-- at an index, or by the properties
index_answers : (i : Option ℕ) (at : ℕ → Bool) (a : SetAnswer) → asks (elim i as (λ _. Outcome) [ Some n ↦ outcome.Truth (at n) | None ↦ access.truth_of a ]) ≡ false
index_answers (Some n) at a = refl
index_answers None at a = truth_answers a

defined_answers : (seen : Seen) (props : Store) (key : Key) (change : Change) → asks (access.defined seen props key change) ≡ false
unfolding access.defined
defined_answers seen props key change = if_none_asks seen.own _ _ (index_answers (seen.index key) (λ n. false) (answer_in props (access.call_of key (Define change)))) refl

deleted_answers : (seen : Seen) (props : Store) (key : Key) → asks (access.deleted seen props key) ≡ false
unfolding access.deleted
deleted_answers seen props key = if_none_asks seen.own _ _ (index_answers (seen.index key) (λ n. is_none (seen.child n)) (answer_in props (access.call_of key Delete))) refl

never : {A : Type 0} (b : Bool) → b ≡ false → b ≡ true → A
never b h e = absurd cc

-- STEPS

outcome_asks : (d : ℕ) (user : Bool) (o : Outcome) (q : Request) → performed d user o ≡ Ask q → asks o ≡ true
outcome_asks d user (outcome.Ask a) q e = refl
outcome_asks d user o q e = absurd cc

same_object-true : (a b : Object) → same_object a b ≡ true → a ≡ b
same_object-true (object.Window a) (object.Window b) h = ap object.Window (eqb-true a b h)
same_object-true (object.Location a) (object.Location b) h = ap object.Location (eqb-true a b h)
same_object-true (object.Window a) (object.Location b) h = absurd cc
same_object-true (object.Location a) (object.Window b) h = absurd cc

stores_kept : (stores : Object → Store) (key : Key) (act : Act) (d : ℕ) (user : Bool) (q : Request) (f : Seen → Outcome)
    → ((seen : Seen) → asks (f seen) ≡ true → access.store_left seen (stores seen.object) key act ≡ stores seen.object)
    → (o : Option Seen) → performed d user (done_with o f) ≡ Ask q → left_by stores key act o ≡ stores
stores_kept stores key act d user q f kept None e = refl
stores_kept stores key act d user q f kept (Some seen) e = same_everywhere _ stores (λ o. by_test o (same_object o seen.object) refl)
  where
    by_test : (o : Object) (b : Bool) → same_object o seen.object ≡ b → (if b then access.store_left seen (stores seen.object) key act else stores o) ≡ stores o
    by_test o true t = kept seen (outcome_asks d user (f seen) q e) ∙ ap stores (sym (same_object-true o seen.object t))
    by_test o false t = refl

acted_kept : (s : Sight) (d : ℕ) (q : Request) (user : Bool) (of : List ℕ) (key : Key) (act : Act) (f : Seen → Outcome)
    → ((seen : Seen) → asks (f seen) ≡ true → access.store_left seen (s.stores seen.object) key act ≡ s.stores seen.object)
    → on_object s d user of f ≡ Ask q → left_by s.stores key act (object_of s d (held s d of)) ≡ s.stores
unfolding on_object
acted_kept s d q user of key act f kept e = stores_kept s.stores key act d user q f kept (object_of s d (held s d of)) e

-- a step that asks leaves the properties as they are
pub unchanged_by_asking : (s : Sight) (d : ℕ) (st : Step) (q : Request) → perform s d st ≡ Ask q → step_stores s d st ≡ s.stores
unfolding perform step_stores
unchanged_by_asking s d (step.Set of key given user) q e =
    acted_kept s d q user of key (Set (operand_value s d given)) _ (λ seen. set_left seen (s.stores seen.object) key (operand_value s d given)) e
unchanged_by_asking s d (step.Define of key given writable enumerable configurable) q e =
    acted_kept s d q false of key (Define (change_of s d given writable enumerable configurable)) _
    (λ seen. never _ (defined_answers seen (s.stores seen.object) key (change_of s d given writable enumerable configurable))) e
unchanged_by_asking s d (step.Delete of key) q e = acted_kept s d q false of key Delete _ (λ seen. never _ (deleted_answers seen (s.stores seen.object) key)) e
unchanged_by_asking s d st q e = refl
