-- ECMA's invariants: what no act takes from a property that can't be configured.
use Rattle.std.proofs.Common.{◌≡◌, List, [], ◌∷◌, ◌++◌, Option, Some, None, Bool, true, false, not, ◌||◌, ◌&&◌, if◌then◌else◌, refl, sym, ap, ◌∙◌, subst, unwrap_or}
use Rattle.plain_data.proofs.SameLaw.{same_data-Decides}
use Rattle.std.proofs.lemmas.Bool.Decides.{Decides-eqb}
use Rattle.window_props.specs.declared.key.Key.{Key}
use Rattle.window_props.specs.declared.platform.Object.{Object}
use Rattle.window_props.specs.declared.platform.Object.TheVariants as object
use Rattle.window_props.specs.declared.platform.Role.{Role}
use Rattle.window_props.specs.declared.platform.Role.TheVariants.{Fixed, Replaceable, Opening, Runs}
use Rattle.window_props.specs.declared.value.Method.{Method}
use Rattle.window_props.specs.declared.value.Method.TheVariants.{Close, Focus, Blur, PostMessage, Assign, Replace}
use Rattle.window_props.specs.declared.value.Kind.{Kind}
use Rattle.window_props.specs.declared.value.Kind.TheVariants as kind
use Rattle.window_props.specs.declared.value.Value.{Value}
use Rattle.window_props.specs.declared.value.Value.TheVariants as value
use Rattle.window_props.specs.declared.descriptor.Body.{Body}
use Rattle.window_props.specs.declared.descriptor.Body.TheVariants as body
use Rattle.window_props.specs.declared.descriptor.Change.{Change}
use Rattle.window_props.specs.declared.descriptor.Descriptor.{Descriptor}
use Rattle.window_props.specs.Keys.{same_key}
use Rattle.window_props.specs.Values.{same_value, same_method, same_object, same_kind}
use Rattle.window_props.specs.Ordinary.{Act, Define, Set, Delete, Done, acted, ordinary_define, ordinary_delete, set_to, set_by, set_accessor, role_at, is_default, is_null, is_refused, is_refused_by_body, is_given, is_other, ordinary_change, body_after}
use Rattle.window_props.specs.History.{Call, property}
use Rattle.window_props.specs.Invariants.{is_writable, is_fixed, BodyKept, Keeps, IsKept}
use Rattle.window_props.proofs.RowLaws.{same_key-true, yes, no}

-- THE SAME VALUE IS EQUAL

both : (a b : Bool) → a && b ≡ true → (a ≡ true) × (b ≡ true)
both true b h = (refl, h)
both false b h = cc

method-true : (a b : Method) → same_method a b ≡ true → a ≡ b
method-true Close Close h = refl
method-true Focus Focus h = refl
method-true Blur Blur h = refl
method-true PostMessage PostMessage h = refl
method-true Assign Assign h = refl
method-true Replace Replace h = refl
method-true _ _ h = cc

object-true : (a b : Object) → same_object a b ≡ true → a ≡ b
object-true (object.Window a) (object.Window b) h = ap object.Window ((Decides-eqb a b).0 h)
object-true (object.Location a) (object.Location b) h = ap object.Location ((Decides-eqb a b).0 h)
object-true _ _ h = cc

kind-true : (a b : Kind) → same_kind a b ≡ true → a ≡ b
kind-true kind.Window kind.Window h = refl
kind-true kind.Location kind.Location h = refl
kind-true _ _ h = cc

pub same_value-true : (a b : Value) → same_value a b ≡ true → a ≡ b
unfolding same_value
same_value-true (value.Plain a) (value.Plain b) h = ap value.Plain ((same_data-Decides a b).0 h)
same_value-true (value.Window a) (value.Window b) h = ap value.Window ((Decides-eqb a b).0 h)
same_value-true (value.Location a) (value.Location b) h = ap value.Location ((Decides-eqb a b).0 h)
same_value-true (value.Function m a) (value.Function n b) h = let p = both (same_method m n) (same_object a b) h in let e = method-true m n p.0 in let f = object-true a b p.1 in cc
same_value-true (value.Prototype a) (value.Prototype b) h = ap value.Prototype (kind-true a b h)
same_value-true _ _ h = cc

-- THE LAW

body_itself : (b : Body) → BodyKept b b
body_itself (body.Accessor g s) = refl
body_itself (body.Value v true) = tt
body_itself (body.Value v false) = refl

itself : (d : Descriptor) → d.configurable ≡ false → Keeps d d
itself d h = record { configurable = h; enumerable = refl; body = body_itself d.body }

or-false : (a b : Bool) → a || b ≡ false → (a ≡ false) × (b ≡ false)
or-false true b h = cc
or-false false b h = (refl, h)

not_made : (given : Option Bool) (now : Bool) → is_given given true ≡ false → now ≡ false → unwrap_or given now ≡ false
not_made None now h e = e
not_made (Some true) now h e = cc
not_made (Some false) now h e = refl

stays_same : (given : Option Bool) (now : Bool) → is_given given (not now) ≡ false → unwrap_or given now ≡ now
stays_same None now h = refl
stays_same (Some true) true h = refl
stays_same (Some true) false h = cc
stays_same (Some false) true h = cc
stays_same (Some false) false h = refl

value_same : (given : Option Value) (v : Value) → is_other given v ≡ false → unwrap_or given v ≡ v
value_same None v h = refl
value_same (Some w) v h = by (same_value w v) refl
  where
    by : (b : Bool) → same_value w v ≡ b → w ≡ v
    by true e = same_value-true w v e
    by false e = absurd (let n : true ≡ false = sym (ap not e) ∙ h in cc)

body_kept : (c : Change) (b : Body) → is_refused_by_body c b ≡ false → BodyKept b (body_after c.value c.writable b)
body_kept c (body.Accessor g s) h = no _ _ _ h
body_kept c (body.Value v true) h = tt
body_kept c (body.Value v false) h =
    let p = or-false (is_given c.writable true) (is_other c.value v) h in
    ap (λ w. body.Value (unwrap_or c.value v) w) (not_made c.writable false p.0 refl) ∙ ap (λ w. body.Value w false) (value_same c.value v p.1)

changed_keeps : (c : Change) (d : Descriptor) → d.configurable ≡ false → is_refused c d ≡ false → Keeps d (ordinary_change c d)
changed_keeps c d h r =
    let open_up : is_given c.configurable true || is_given c.enumerable (not d.enumerable) || is_refused_by_body c d.body ≡ false = ap (λ b. not b && (is_given c.configurable true || is_given c.enumerable (not d.enumerable) || is_refused_by_body c d.body)) (sym h) ∙ r in
    let p = or-false (is_given c.configurable true || is_given c.enumerable (not d.enumerable)) (is_refused_by_body c d.body) open_up in
    let q = or-false (is_given c.configurable true) (is_given c.enumerable (not d.enumerable)) p.0 in
    record {
      configurable = not_made c.configurable d.configurable q.0 h;
      enumerable = stays_same c.enumerable d.enumerable q.1;
      body = body_kept c d.body p.1;
    }

kept_if : (d : Descriptor) (b : Bool) (x y : Done) → (b ≡ true → IsKept d x.property) → (b ≡ false → IsKept d y.property) → IsKept d (if b then x else y).property
kept_if d true x y f g = f refl
kept_if d false x y f g = g refl

accessor_keeps : (role : Role) (v : Value) (d : Descriptor) → d.configurable ≡ false → IsKept d (set_accessor role v d).property
accessor_keeps Fixed v d h = itself d h
accessor_keeps Runs v d h = itself d h
accessor_keeps Replaceable v d h = kept_if d d.configurable _ _ (λ e. absurd (let n : true ≡ false = sym e ∙ h in cc)) (λ e. itself d h)
accessor_keeps Opening v d h = kept_if d (is_null v) _ _ (λ e. itself d h) (λ e. kept_if d d.configurable _ _ (λ e. absurd (let n : true ≡ false = sym e ∙ h in cc)) (λ e. itself d h))

set_keeps : (role : Role) (v : Value) (d : Descriptor) (b : Body) → d.body ≡ b → d.configurable ≡ false → IsKept d (set_by role v d b).property
set_keeps role v d (body.Accessor g s) is h = accessor_keeps role v d h
set_keeps role v d (body.Value w true) is h = record { configurable = h; enumerable = refl; body = subst (λ (b : Body). BodyKept b (body.Value v true)) (sym is) tt }
set_keeps role v d (body.Value w false) is h = itself d h

acted_keeps : (o : Object) (key : Key) (act : Act) (d : Descriptor) → d.configurable ≡ false → IsKept d (acted o key act (Some d)).property
unfolding acted ordinary_define ordinary_delete set_to
acted_keeps o key (Define c) d h = kept_if d (is_default o key) _ _ (λ e. itself d h) (λ e. kept_if d (is_refused c d) _ _ (λ r. itself d h) (λ r. changed_keeps c d h r))
acted_keeps o key (Set v) d h = set_keeps (role_at o key) v d d.body refl h
acted_keeps o key Delete d h = kept_if d (is_default o key) _ _ (λ e. itself d h) (λ e. kept_if d d.configurable _ _ (λ f. absurd (let n : true ≡ false = sym f ∙ h in cc)) (λ f. itself d h))

-- one more call, at whatever key, keeps a property that can't be configured
pub fixed_stays : (o : Object) (call : Call) (older : List Call) (key : Key) (d : Descriptor) → property o older key ≡ Some d → d.configurable ≡ false → IsKept d (property o (call ∷ older) key)
fixed_stays o call older key d is h = by (same_key call.key key) refl
  where
    by : (b : Bool) → same_key call.key key ≡ b → IsKept d (property o (call ∷ older) key)
    by true e =
        let at_key : property o older call.key ≡ Some d = ap (λ k. property o older k) (same_key-true call.key key e) ∙ is in
        subst (IsKept d) (sym (yes (same_key call.key key) (acted o call.key call.act (property o older call.key)).property (property o older key) e ∙ ap (λ p. (acted o call.key call.act p).property) at_key)) (acted_keeps o call.key call.act d h)
    by false e = subst (IsKept d) (sym (no (same_key call.key key) (acted o call.key call.act (property o older call.key)).property (property o older key) e ∙ is)) (itself d h)

-- OVER WHOLE HISTORIES

body_stays : (b later : Body) → is_writable b ≡ false → BodyKept b later → later ≡ b
body_stays (body.Accessor g s) later h kept = kept
body_stays (body.Value v false) later h kept = kept
body_stays (body.Value v true) later h kept = cc

not_true : (b : Bool) → not b ≡ true → b ≡ false
not_true true h = cc
not_true false h = refl

stays_whole : (d : Descriptor) (p : Option Descriptor) → is_fixed d ≡ true → IsKept d p → p ≡ Some d
stays_whole d None h kept = absurd kept
stays_whole d (Some later) h kept =
    let p = both (not d.configurable) (not (is_writable d.body)) h in
    let configurable : later.configurable ≡ d.configurable = kept.configurable ∙ sym (not_true d.configurable p.0) in
    let body : later.body ≡ d.body = body_stays d.body later.body (not_true (is_writable d.body) p.1) kept.body in
    λ i. Some (record { body = body i; enumerable = kept.enumerable i; configurable = configurable i })

-- whatever is done later, a property that is neither configurable nor writable is as it was
pub fixed_for_ever : (o : Object) (newer older : List Call) (key : Key) (d : Descriptor) → property o older key ≡ Some d → is_fixed d ≡ true → property o (newer ++ older) key ≡ Some d
fixed_for_ever o [] older key d is h = is
fixed_for_ever o (call ∷ newer) older key d is h =
    let p = both (not d.configurable) (not (is_writable d.body)) h in
    stays_whole d (property o (call ∷ (newer ++ older)) key) h (fixed_stays o call (newer ++ older) key d (fixed_for_ever o newer older key d is h) (not_true d.configurable p.0))
