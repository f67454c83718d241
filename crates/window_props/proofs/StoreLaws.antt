-- Laws of the properties, whatever was done on them.
use Rattle.std.proofs.Common.{◌≡◌, List, Option, Some, None, Bool, true, false, if◌then◌else◌, refl, ap, ◌∙◌}
use Rattle.window_props.specs.declared.key.Key.{Key}
use Rattle.window_props.specs.declared.platform.Object.{Object}
use Rattle.window_props.specs.declared.platform.Role.{Role}
use Rattle.window_props.specs.declared.platform.Role.TheVariants.{Fixed, Replaceable, Opening, Runs}
use Rattle.window_props.specs.declared.value.Value.{Value}
use Rattle.window_props.specs.declared.descriptor.Body.{Body}
use Rattle.window_props.specs.declared.descriptor.Body.TheVariants as body
use Rattle.window_props.specs.declared.descriptor.Descriptor.{Descriptor}
use Rattle.window_props.specs.declared.props.SetAnswer.TheVariants.{Truth, Setter, TypeFault}
use Rattle.window_props.specs.Keys.{same_key}
use Rattle.window_props.specs.declared.descriptor.Change.{Change}
use Rattle.window_props.specs.Ordinary.{Act, Define, Set, Delete, Done, acted, ordinary_define, ordinary_delete, ordinary_change, is_refused, is_default, set_to, set_by, set_accessor, role_at, is_null, plain, done}
use Rattle.window_props.specs.Invariants.{is_refusal, value_of}
use Rattle.window_props.specs.History.{Store, Call, set_at, delete_at, store_after, keys_after, answer_in, acted_in}
use Rattle.window_props.proofs.RowLaws.{same_key-true, same_key-itself, yes, no}

keys_same : (key : Key) (p : Option Descriptor) (ks : List Key) → keys_after key p p ks ≡ ks
keys_same key None ks = refl
keys_same key (Some d) ks = refl

-- an act that leaves the property leaves all
pub unchanged : (s : Store) (call : Call) → acted_in s call ≡ s.at call.key → store_after s call ≡ s
unfolding store_after
unchanged s call is =
    let at : (k : Key) → (if same_key call.key k then acted_in s call else s.at k) ≡ s.at k = λ k. by k (same_key call.key k) refl in
    let keys : keys_after call.key (s.at call.key) (acted_in s call) s.keys ≡ s.keys = ap (λ p. keys_after call.key (s.at call.key) p s.keys) is ∙ keys_same call.key (s.at call.key) s.keys in
    λ i. record { object = s.object; at = λ k. at k i; keys = keys i }
  where
    by : (k : Key) (b : Bool) → same_key call.key k ≡ b → (if same_key call.key k then acted_in s call else s.at k) ≡ s.at k
    by k true e = yes _ _ _ e ∙ is ∙ ap (λ x. s.at x) (same_key-true call.key k e)
    by k false e = no _ _ _ e

-- REFUSALS

done_kept : (b : Bool) (d : Descriptor) (later : Option Descriptor) → is_refusal (if b then done true later else done false (Some d)).answer ≡ true → (if b then done true later else done false (Some d)).property ≡ Some d
done_kept true d later h = cc
done_kept false d later h = refl

opening_kept : (n b : Bool) (v : Value) (d : Descriptor) → is_refusal (if n then record { answer = Setter; property = Some d } else if b then done true (Some (plain v)) else record { answer = TypeFault; property = Some d }).answer ≡ true
    → (if n then record { answer = Setter; property = Some d } else if b then done true (Some (plain v)) else record { answer = TypeFault; property = Some d }).property ≡ Some d
opening_kept true b v d h = refl
opening_kept false true v d h = cc
opening_kept false false v d h = refl

set_accessor_kept : (role : Role) (v : Value) (d : Descriptor) → is_refusal (set_accessor role v d).answer ≡ true → (set_accessor role v d).property ≡ Some d
set_accessor_kept Fixed v d h = refl
set_accessor_kept Runs v d h = refl
set_accessor_kept Replaceable v d h = done_kept d.configurable d (Some (plain v)) h
set_accessor_kept Opening v d h = opening_kept (is_null v) d.configurable v d h

refused_set : (role : Role) (v : Value) (p : Option Descriptor) → is_refusal (set_to role v p).answer ≡ true → (set_to role v p).property ≡ p
unfolding set_to
refused_set role v None h = cc
refused_set role v (Some d) h = by d.body h
  where
    by : (b : Body) → is_refusal (set_by role v d b).answer ≡ true → (set_by role v d b).property ≡ Some d
    by (body.Accessor g s) h = set_accessor_kept role v d h
    by (body.Value w true) h = cc
    by (body.Value w false) h = refl

kept_unless : (b : Bool) (p : Option Descriptor) (x : Done) → (is_refusal x.answer ≡ true → x.property ≡ p) → is_refusal (if b then done false p else x).answer ≡ true → (if b then done false p else x).property ≡ p
kept_unless true p x f h = refl
kept_unless false p x f h = f h

refused_define : (c : Change) (p : Option Descriptor) → is_refusal (ordinary_define c p).answer ≡ true → (ordinary_define c p).property ≡ p
unfolding ordinary_define
refused_define c None h = cc
refused_define c (Some d) h = kept_unless (is_refused c d) (Some d) (done true (Some (ordinary_change c d))) (λ h. cc) h

refused_delete : (p : Option Descriptor) → is_refusal (ordinary_delete p).answer ≡ true → (ordinary_delete p).property ≡ p
unfolding ordinary_delete
refused_delete None h = cc
refused_delete (Some d) h = done_kept d.configurable d None h

refused_act : (o : Object) (key : Key) (act : Act) (p : Option Descriptor) → is_refusal (acted o key act p).answer ≡ true → (acted o key act p).property ≡ p
unfolding acted
refused_act o key (Define c) p h = kept_unless (is_default o key) p (ordinary_define c p) (refused_define c p) h
refused_act o key (Set v) p h = refused_set (role_at o key) v p h
refused_act o key Delete p h = kept_unless (is_default o key) p (ordinary_delete p) (refused_delete p) h

-- a call that is refused, or asks for a setter, leaves all as before
pub refused_keeps : (s : Store) (call : Call) → is_refusal (answer_in s call) ≡ true → store_after s call ≡ s
refused_keeps s call h = unchanged s call (refused_act s.object call.key call.act (s.at call.key) h)

-- where the setter must run, nothing changed
pub setter_keeps : (s : Store) (key : Key) (v : Value) → answer_in s (set_at key v) ≡ Setter → store_after s (set_at key v) ≡ s
setter_keeps s key v h = refused_keeps s (set_at key v) (ap is_refusal h)

-- WHAT A CALL THAT ANSWERS TRUE LEAVES

-- the property at the call's own key afterwards
at_own_key : (s : Store) (call : Call) → (store_after s call).at call.key ≡ acted_in s call
unfolding store_after
at_own_key s call = yes _ _ _ (same_key-itself call.key)

if_plain : (b : Bool) (v : Value) (d : Descriptor) → (if b then done true (Some (plain v)) else done false (Some d)).answer ≡ Truth true → value_of (if b then done true (Some (plain v)) else done false (Some d)).property ≡ Some v
if_plain true v d h = refl
if_plain false v d h = cc

opening_plain : (n b : Bool) (v : Value) (d : Descriptor) → (if n then record { answer = Setter; property = Some d } else if b then done true (Some (plain v)) else record { answer = TypeFault; property = Some d }).answer ≡ Truth true
    → value_of (if n then record { answer = Setter; property = Some d } else if b then done true (Some (plain v)) else record { answer = TypeFault; property = Some d }).property ≡ Some v
opening_plain true b v d h = cc
opening_plain false true v d h = refl
opening_plain false false v d h = cc

accessor_given : (role : Role) (v : Value) (d : Descriptor) → (set_accessor role v d).answer ≡ Truth true → value_of (set_accessor role v d).property ≡ Some v
accessor_given Fixed v d h = cc
accessor_given Runs v d h = cc
accessor_given Replaceable v d h = if_plain d.configurable v d h
accessor_given Opening v d h = opening_plain (is_null v) d.configurable v d h

set_given : (role : Role) (v : Value) (p : Option Descriptor) → (set_to role v p).answer ≡ Truth true → value_of (set_to role v p).property ≡ Some v
unfolding set_to
set_given role v None h = refl
set_given role v (Some d) h = by d.body h
  where
    by : (b : Body) → (set_by role v d b).answer ≡ Truth true → value_of (set_by role v d b).property ≡ Some v
    by (body.Accessor g s) h = accessor_given role v d h
    by (body.Value w true) h = refl
    by (body.Value w false) h = cc

-- a set that answers true is read back
pub set_read_back : (s : Store) (key : Key) (v : Value) → answer_in s (set_at key v) ≡ Truth true → value_of ((store_after s (set_at key v)).at key) ≡ Some v
unfolding acted
set_read_back s key v h = ap value_of (at_own_key s (set_at key v)) ∙ set_given (role_at s.object key) v (s.at key) h

deleted_gone : (b : Bool) (p : Option Descriptor) → (if b then done false p else ordinary_delete p).answer ≡ Truth true → (if b then done false p else ordinary_delete p).property ≡ None
unfolding ordinary_delete
deleted_gone true p h = cc
deleted_gone false None h = refl
deleted_gone false (Some d) h = by d.configurable h
  where
    by : (b : Bool) → (if b then done true None else done false (Some d)).answer ≡ Truth true → (if b then done true None else done false (Some d)).property ≡ None
    by true h = refl
    by false h = cc

-- a delete that answers true leaves nothing at the key
pub delete_leaves_none : (s : Store) (key : Key) → answer_in s (delete_at key) ≡ Truth true → (store_after s (delete_at key)).at key ≡ None
unfolding acted
delete_leaves_none s key h = at_own_key s (delete_at key) ∙ deleted_gone (is_default s.object key) (s.at key) h
