-- What comes of an operation on an object, by what is kept of the object before and after.
use Rattle.std.proofs.Common.{◌≡◌, ℕ, List, Option, false, Result, Ok, Err, refl, sym, subst}
use Rattle.std.specs.Prelude.{IfOk, OnErr}
use Rattle.window_props.specs.declared.key.Key.{Key}
use Rattle.window_props.specs.declared.platform.Object.{Object}
use Rattle.window_props.specs.declared.props.Props.{Props}
use Rattle.window_props.specs.Values.{same_object}
use Rattle.window_props.specs.History.{Store}
use Rattle.window_props.specs.Shown.{store_in}
use Rattle.tree_log.specs.Tree.{Tree}
use Rattle.agent_terms.specs.declared.outcome.Outcome.{Outcome}
use Rattle.object_access.specs.Access.{Seen, store_left}
use Rattle.script_steps.specs.declared.stores.Stores.{Stores}
use Rattle.script_steps.specs.declared.operation.Operation.{Operation}
use Rattle.script_steps.specs.declared.operation.Operation.TheVariants.{Read}
use Rattle.script_steps.specs.declared.operation.Reading.{Reading}
use Rattle.script_steps.specs.declared.operation.Changing.{Changing}
use Rattle.script_steps.specs.Stored.{props_at, stored, placed}
use Rattle.script_steps.specs.Asked.{asked, done, act_of, outcome_of, stores_left}
use Rattle.script_steps.proofs.StoredLaws.{stored_at, left_put, err_put}

pub reads : {E : Type 0} → (r : Result Outcome E) (t : Tree) (urls : ℕ → List ℕ) (d : ℕ) (op : Operation) (reading : Reading) (seen : Seen) (o : Object) (stores : Stores) (kept : Option Props)
    → op ≡ Read reading → o ≡ seen.object → kept ≡ props_at stores o
    → IfOk r (λ x. x ≡ asked t urls d reading seen (store_in seen.object kept))
    → IfOk r (λ x. x ≡ outcome_of t urls d op seen (stored stores seen.object))
reads r t urls d op reading seen o stores kept is same at h =
    subst (λ (p : Operation). IfOk r (λ x. x ≡ outcome_of t urls d p seen (stored stores seen.object))) (sym is)
    (subst (λ (s : Store). IfOk r (λ x. x ≡ asked t urls d reading seen s)) (sym (stored_at stores seen.object kept (subst (λ (x : Object). props_at stores x ≡ kept) same (sym at)))) h)

any : {A E P : Type 0} → (r : Result A E) → P → IfOk r (λ _. P)
any (Ok x) p = p
any (Err e) p = tt

pub reads_leave : {E : Type 0} → (r : Result Outcome E) (op : Operation) (reading : Reading) (seen : Seen) (old : Object → Store) → op ≡ Read reading → IfOk r (λ _. old ≡ stores_left op seen old)
reads_leave r op reading seen old is = subst (λ (p : Operation). IfOk r (λ _. old ≡ stores_left p seen old)) (sym is) (any r refl)

pub changes : {E : Type 0} → (r : Result Outcome E) (t : Tree) (urls : ℕ → List ℕ) (d : ℕ) (op : Operation) (key : Key) (changing : Changing) (seen : Seen) (o : Object) (before : Option Props) (stores : Object → Store)
    → (outcome_of t urls d op seen (stores seen.object) ≡ done changing seen (stores seen.object) key) → o ≡ seen.object → store_in o before ≡ stores o
    → IfOk r (λ x. x ≡ done changing seen (store_in seen.object before) key)
    → IfOk r (λ x. x ≡ outcome_of t urls d op seen (stores seen.object))
changes r t urls d op key changing seen o before stores is same value h =
    subst (λ (y : Outcome). IfOk r (λ x. x ≡ y)) (sym is)
    (subst (λ (s : Store). IfOk r (λ x. x ≡ done changing seen s key)) (subst (λ (x : Object). store_in x before ≡ stores x) same value) h)

pub leaves : {E : Type 0} → (r : Result Outcome E) (op : Operation) (key : Key) (changing : Changing) (seen : Seen) (o : Object) (before after : Option Props) (old mid new : Object → Store)
    → (stores_left op seen old ≡ placed seen.object (store_left seen (old seen.object) key (act_of changing)) old) → o ≡ seen.object → store_in o before ≡ old o
    → ((other : Object) → same_object other o ≡ false → mid other ≡ old other)
    → new ≡ placed o (store_in o after) mid
    → IfOk r (λ _. store_in seen.object after ≡ store_left seen (store_in seen.object before) key (act_of changing))
    → IfOk r (λ _. new ≡ stores_left op seen old)
leaves r op key changing seen o before after old mid new is same value rest put left =
    subst (λ (s : Object → Store). IfOk r (λ _. new ≡ s)) (sym is)
    (subst (λ (x : Object). store_in x before ≡ old x → ((other : Object) → same_object other x ≡ false → mid other ≡ old other) → new ≡ placed x (store_in x after) mid
    → IfOk r (λ _. new ≡ placed seen.object (store_left seen (old seen.object) key (act_of changing)) old))
    (sym same) (λ v f p. left_put r seen.object (λ s. store_left seen s key (act_of changing)) before after old mid new v f p left) value rest put)

pub undone : {E : Type 0} → (r : Result Outcome E) (seen : Seen) (o : Object) (before after : Option Props) (old mid new : Object → Store)
    → o ≡ seen.object → store_in o before ≡ old o
    → ((other : Object) → same_object other o ≡ false → mid other ≡ old other)
    → new ≡ placed o (store_in o after) mid
    → OnErr r (store_in seen.object after ≡ store_in seen.object before)
    → OnErr r (new ≡ old)
undone r seen o before after old mid new same value rest put kept =
    subst (λ (x : Object). store_in x before ≡ old x → ((other : Object) → same_object other x ≡ false → mid other ≡ old other) → new ≡ placed x (store_in x after) mid → OnErr r (new ≡ old))
    (sym same) (λ v f p. err_put r seen.object before after old mid new v f p kept) value rest put
