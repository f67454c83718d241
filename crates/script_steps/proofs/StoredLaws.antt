-- What is stored, by what is kept.
use Rattle.std.proofs.Common.{◌≡◌, ℕ, Option, None, [], Result, Ok, Err, Bool, true, false, refl, ap, sym, ◌∙◌}
use Rattle.std.specs.Prelude.{if◌then◌else◌, IfOk, OnErr}
use Rattle.std.proofs.lemmas.Bool.{eqb-true}
use Rattle.window_props.specs.declared.platform.Object.{Object}
use Rattle.window_props.specs.declared.platform.Object.TheVariants as object
use Rattle.window_props.specs.declared.props.Props.{Props}
use Rattle.window_props.specs.Values.{same_object}
use Rattle.window_props.specs.History.{Store, store_of}
use Rattle.window_props.proofs.RowLaws.{yes, no}
use Rattle.agent_terms.specs.declared.outcome.Outcome.{Outcome}
use Rattle.object_access.specs.StepAnswer.{first_stores}
use Rattle.script_steps.specs.declared.stores.Stores.{Stores}
use Rattle.script_steps.specs.Slots.{slot}
use Rattle.window_props.specs.Shown.{store_in}
use Rattle.script_steps.specs.Stored.{props_at, stored, placed}

pub same_object-true : (a b : Object) → same_object a b ≡ true → a ≡ b
same_object-true (object.Window a) (object.Window b) h = ap (λ n. object.Window n) (eqb-true a b h)
same_object-true (object.Location a) (object.Location b) h = ap (λ n. object.Location n) (eqb-true a b h)
same_object-true (object.Window a) (object.Location b) h = cc
same_object-true (object.Location a) (object.Window b) h = cc

pub stored_same : (old new : Stores) → ((o : Object) → props_at new o ≡ props_at old o) → stored new ≡ stored old
unfolding stored
stored_same old new h = λ i o. store_in o (h o i)

-- what is kept of one object is another
pub stored_put : (old new : Stores) (o : Object) (p : Option Props)
    → ((other : Object) → props_at new other ≡ (if same_object other o then p else props_at old other))
    → stored new ≡ placed o (store_in o p) (stored old)
unfolding stored
stored_put old new o p h = λ i other. by other (same_object other o) refl i
  where
    by : (other : Object) (b : Bool) → same_object other o ≡ b → store_in other (props_at new other) ≡ (if same_object other o then store_in o p else store_in other (props_at old other))
    by other true e = ap (λ s. store_in other s) (h other ∙ yes _ _ _ e) ∙ ap (λ x. store_in x p) (same_object-true other o e) ∙ sym (yes _ _ _ e)
    by other false e = ap (λ s. store_in other s) (h other ∙ no _ _ _ e) ∙ sym (no _ _ _ e)

pub stored_at : (s : Stores) (o : Object) (kept : Option Props) → props_at s o ≡ kept → stored s o ≡ store_in o kept
unfolding stored
stored_at s o kept h = ap (λ k. store_in o k) h

pub stored_rest : (old new : Stores) (o : Object) → ((other : Object) → same_object other o ≡ false → props_at new other ≡ props_at old other)
    → (other : Object) → same_object other o ≡ false → stored new other ≡ stored old other
unfolding stored
stored_rest old new o h other e = ap (λ k. store_in other k) (h other e)

-- what was there already is put there
pub placed_itself : (o : Object) (stores : Object → Store) → placed o (stores o) stores ≡ stores
placed_itself o stores = λ i other. by other (same_object other o) refl i
  where
    by : (other : Object) (b : Bool) → same_object other o ≡ b → (if same_object other o then stores o else stores other) ≡ stores other
    by other true e = yes _ _ _ e ∙ ap stores (sym (same_object-true other o e))
    by other false e = no _ _ _ e

-- only the others count
pub placed_over : (o : Object) (store : Store) (old mid : Object → Store) → ((other : Object) → same_object other o ≡ false → mid other ≡ old other) → placed o store mid ≡ placed o store old
placed_over o store old mid h = λ i other. by other (same_object other o) refl i
  where
    by : (other : Object) (b : Bool) → same_object other o ≡ b → (if same_object other o then store else mid other) ≡ (if same_object other o then store else old other)
    by other true e = yes _ _ _ e ∙ sym (yes _ _ _ e)
    by other false e = no _ _ _ e ∙ h other e ∙ sym (no _ _ _ e)

-- an operation's store in its object's place
pub left_put : {E : Type 0} → (r : Result Outcome E) (o : Object) (f : Store → Store) (before after : Option Props) (old mid new : Object → Store)
    → store_in o before ≡ old o
    → ((other : Object) → same_object other o ≡ false → mid other ≡ old other)
    → new ≡ placed o (store_in o after) mid
    → IfOk r (λ _. store_in o after ≡ f (store_in o before))
    → IfOk r (λ _. new ≡ placed o (f (old o)) old)
left_put (Ok x) o f before after old mid new value rest put left = put ∙ placed_over o (store_in o after) old mid rest ∙ ap (λ (s : Store). placed o s old) (left ∙ ap f value)
left_put (Err e) o f before after old mid new value rest put left = tt

pub err_put : {E : Type 0} → (r : Result Outcome E) (o : Object) (before after : Option Props) (old mid new : Object → Store)
    → store_in o before ≡ old o
    → ((other : Object) → same_object other o ≡ false → mid other ≡ old other)
    → new ≡ placed o (store_in o after) mid
    → OnErr r (store_in o after ≡ store_in o before)
    → OnErr r (new ≡ old)
err_put (Ok x) o before after old mid new value rest put same = tt
err_put (Err e) o before after old mid new value rest put same = put ∙ placed_over o (store_in o after) old mid rest ∙ ap (λ (s : Store). placed o s old) (same ∙ value) ∙ placed_itself o old

-- the stores where nothing is kept
pub stored_fresh : (s : Stores) → ((d : ℕ) → slot s.windows.slots.items d ≡ None) → ((d : ℕ) → slot s.locations.slots.items d ≡ None) → stored s ≡ first_stores
unfolding stored
stored_fresh s windows locations = λ i o. by o i
  where
    by : (o : Object) → store_in o (props_at s o) ≡ store_of o []
    by (object.Window d) = ap (λ k. store_in (object.Window d) k) (windows d)
    by (object.Location d) = ap (λ k. store_in (object.Location d) k) (locations d)
