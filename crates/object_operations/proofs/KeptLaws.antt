-- An answer other than true leaves the properties as they were.
use Rattle.std.proofs.Common.{◌≡◌, Bool, true, false, Option, Result, Ok, Err, refl, ap, sym, subst, ◌∙◌}
use Rattle.std.specs.Prelude.{IfOk, OnErr}
use Rattle.window_props.specs.declared.key.Key.{Key}
use Rattle.window_props.specs.declared.value.Value.{Value}
use Rattle.window_props.specs.declared.platform.Object.{Object}
use Rattle.window_props.specs.declared.props.Props.{Props}
use Rattle.window_props.specs.Shown.{store_in}
use Rattle.window_props.specs.declared.props.SetAnswer.{SetAnswer}
use Rattle.window_props.specs.declared.props.SetAnswer.TheVariants.{Truth, Setter, TypeFault}
use Rattle.window_props.specs.History.{Store, Call, store_after, answer_in, set_at}
use Rattle.window_props.specs.Invariants.{is_refusal}
use Rattle.window_props.proofs.StoreLaws.{refused_keeps}
use Rattle.agent_terms.specs.declared.outcome.Outcome.{Outcome}
use Rattle.agent_terms.specs.declared.outcome.Outcome.TheVariants as outcome
use Rattle.object_access.specs.Access.{Seen, settled_own}

-- the answer by which the properties were left, which isn't true
abbrev IsKept : Store → Call → Outcome → Type 0
IsKept props call o = ¬ (o ≡ outcome.Truth true) → store_after props call ≡ props

kept_settled : (s : Seen) (props : Store) (key : Key) (v : Value) (a : SetAnswer) → answer_in props (set_at key v) ≡ a → IsKept props (set_at key v) (settled_own s key v a)
kept_settled s props key v (Truth true) e h = absurd (h refl)
kept_settled s props key v (Truth false) e h = refused_keeps props (set_at key v) (ap is_refusal e)
kept_settled s props key v Setter e h = refused_keeps props (set_at key v) (ap is_refusal e)
kept_settled s props key v TypeFault e h = refused_keeps props (set_at key v) (ap is_refusal e)

-- a set of an own property that comes to another answer than true
pub set_kept : {E : Type 0} → (r : Result Outcome E) (s : Seen) (old new : Store) (key : Key) (v : Value)
    → IfOk r (λ o. o ≡ settled_own s key v (answer_in old (set_at key v)))
    → IfOk r (λ _. new ≡ store_after old (set_at key v))
    → IfOk r (λ o. ¬ (o ≡ outcome.Truth true) → new ≡ old)
set_kept (Ok o) s old new key v ok after = λ other. after ∙ kept_settled s old key v _ refl (λ e. other (ok ∙ e))
set_kept (Err e) s old new key v ok after = tt

answer_kept : (old : Store) (call : Call) (b : Bool) → Truth b ≡ answer_in old call → ¬ (outcome.Truth b ≡ outcome.Truth true) → store_after old call ≡ old
answer_kept old call true e other = absurd (other refl)
answer_kept old call false e other = refused_keeps old call (ap is_refusal (sym e))

-- a define or a delete of one
pub done_kept : (o met : Object) (old new : Option Props) (call : Call) (b : Bool) → o ≡ met
    → Truth b ≡ answer_in (store_in o old) call → store_in o new ≡ store_after (store_in o old) call
    → ¬ (outcome.Truth b ≡ outcome.Truth true) → store_in met new ≡ store_in met old
done_kept o met old new call b same e after other =
    subst (λ (x : Object). store_in x new ≡ store_in x old) same (after ∙ answer_kept (store_in o old) call b e other)

-- a set that comes to the platform's setter
pub setter_kept : (o met : Object) (old new : Option Props) (key : Key) (v : Value) (a : SetAnswer) → o ≡ met
    → a ≡ answer_in (store_in o old) (set_at key v) → store_in o new ≡ store_after (store_in o old) (set_at key v)
    → a ≡ Setter → store_in met new ≡ store_in met old
setter_kept o met old new key v a same e after is =
    subst (λ (x : Object). store_in x new ≡ store_in x old) same (after ∙ refused_keeps (store_in o old) (set_at key v) (ap is_refusal (sym e ∙ is)))

pub on_err : {A E P : Type 0} → (r : Result A E) → P → OnErr r P
on_err (Ok a) p = tt
on_err (Err e) p = p
