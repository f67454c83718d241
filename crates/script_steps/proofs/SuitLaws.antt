-- What is kept of a Location is a store of a Location.
use Rattle.std.proofs.Common.{◌≡◌, ℕ, Option, Some, None, Bool, true, false, Result, Ok, Err, refl, ap, ◌∙◌}
use Rattle.std.specs.Prelude.{◌&&◌, is_none, IsTrue, IfOk, OnErr, if◌then◌else◌}
use Rattle.window_props.specs.declared.key.Key.{Key}
use Rattle.window_props.specs.declared.platform.Object.{Object}
use Rattle.window_props.specs.declared.platform.Object.TheVariants as object
use Rattle.window_props.specs.declared.props.Props.{Props}
use Rattle.window_props.specs.Holding.{can_hold}
use Rattle.window_props.specs.History.{Store, store_of, store_after}
use Rattle.window_props.specs.Ordinary.{Act}
use Rattle.window_props.specs.Shown.{store_in}
use Rattle.agent_terms.specs.declared.outcome.Outcome.{Outcome}
use Rattle.object_access.specs.Access.{Seen, store_left, call_of}
use Rattle.script_steps.specs.declared.stores.Stores.{Stores}
use Rattle.script_steps.specs.Stored.{props_at}
use Rattle.script_steps.specs.Kind.{is_location, suits}

-- nothing suits each object
pub suits_none : (o : Object) → suits o None ≡ true
unfolding store_of
suits_none (object.Window d) = refl
suits_none (object.Location d) = refl

suits_any : (d e : ℕ) (p : Option Props) → suits (object.Location d) p ≡ true → suits (object.Location e) p ≡ true
unfolding store_of
suits_any d e None h = refl
suits_any d e (Some p) h = h

pub suits_placed : (doc d : ℕ) (b : Bool) (x y : Option Props) → suits (object.Location doc) x ≡ true → suits (object.Location d) y ≡ true → suits (object.Location d) (if b then x else y) ≡ true
suits_placed doc d true x y h k = suits_any doc d x h
suits_placed doc d false x y h k = k

-- what is kept of an object suits it
pub kept_suits : (s : Stores) (o : Object) → suits o (props_at s o) ≡ true
kept_suits s (object.Window d) = refl
kept_suits s (object.Location d) = s.suiting d

-- a store of a Location can hold every key
pub location_holds : (d : ℕ) (p : Option Props) (key : Key) → suits (object.Location d) p ≡ true → IsTrue (can_hold (store_in (object.Location d) p).object key)
location_holds d p key h = by (store_in (object.Location d) p).object h
  where
    by : (o : Object) → is_location o ≡ true → can_hold o key ≡ true
    by (object.Window e) h = cc
    by (object.Location e) h = refl

-- an act leaves a store of the same object
left_object : (seen : Seen) (s : Store) (key : Key) (act : Act) → (store_left seen s key act).object ≡ s.object
unfolding store_left store_after
left_object seen s key act = by (seen.own && is_none (seen.index key))
  where
    by : (b : Bool) → (if b then store_after s (call_of key act) else s).object ≡ s.object
    by true = refl
    by false = refl

suits_as : (o : Object) (old new : Option Props) → (store_in o new).object ≡ (store_in o old).object → suits o old ≡ true → suits o new ≡ true
suits_as (object.Window d) old new e h = refl
suits_as (object.Location d) old new e h = ap is_location e ∙ h

pub suits_changed : {E : Type 0} → (r : Result Outcome E) (o : Object) (seen : Seen) (old new : Option Props) (key : Key) (act : Act)
    → IfOk r (λ _. store_in o new ≡ store_left seen (store_in o old) key act)
    → OnErr r (store_in o new ≡ store_in o old)
    → IsTrue (suits o old) → IsTrue (suits o new)
suits_changed (Ok x) o seen old new key act left same h = suits_as o old new (ap (λ (s : Store). s.object) left ∙ left_object seen (store_in o old) key act) h
suits_changed (Err e) o seen old new key act left same h = suits_as o old new (ap (λ (s : Store). s.object) same) h
