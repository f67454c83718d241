-- What comes of an operation on what a register holds.
use Rattle.std.proofs.Common.{◌≡◌, ℕ, List, Option, Some, None, Bool, refl, ap}
use Rattle.window_props.specs.declared.value.Value.TheVariants as value
use Rattle.agent_terms.specs.declared.outcome.Outcome.{Outcome}
use Rattle.agent_terms.specs.declared.outcome.Outcome.TheVariants as outcome
use Rattle.agent_terms.specs.declared.act.Performed.{Performed}
use Rattle.agent_terms.specs.declared.act.Performed.TheVariants.{Answer}
use Rattle.object_access.specs.Access.{Seen, store_left}
use Rattle.object_access.specs.WindowAccess.{window}
use Rattle.object_access.specs.LocationAccess.{location}
use Rattle.object_access.specs.StepAnswer.{Sight, held, object_of, on_object, performed}
use Rattle.script_steps.specs.declared.operation.Operation.{Operation}
use Rattle.script_steps.specs.declared.operation.Operation.TheVariants.{Read, Change}
use Rattle.script_steps.specs.Stored.{placed}
use Rattle.script_steps.specs.Asked.{act_of, stores_left, stores_after}

abbrev answered : ℕ → Bool → (Seen → Outcome) → Option Seen → Performed
answered d user f found = performed d user (elim found [ None ↦ outcome.TypeFault | Some seen ↦ f seen ])

pub on_window : (s : Sight) (d : ℕ) (user : Bool) (of : List ℕ) (f : Seen → Outcome) (n : ℕ) → held s d of ≡ value.Window n → on_object s d user of f ≡ performed d user (f (window s.tree s.urls d n))
unfolding on_object
on_window s d user of f n h = ap (λ v. answered d user f (object_of s d v)) h

pub on_location : (s : Sight) (d : ℕ) (user : Bool) (of : List ℕ) (f : Seen → Outcome) (e : ℕ) → held s d of ≡ value.Location e → on_object s d user of f ≡ performed d user (f (location s.tree s.urls d e))
unfolding on_object
on_location s d user of f e h = ap (λ v. answered d user f (object_of s d v)) h

pub on_none : (s : Sight) (d : ℕ) (user : Bool) (of : List ℕ) (f : Seen → Outcome) → object_of s d (held s d of) ≡ None → on_object s d user of f ≡ Answer outcome.TypeFault
unfolding on_object
on_none s d user of f h = ap (answered d user f) h

pub after_window : (o : Operation) (s : Sight) (d : ℕ) (of : List ℕ) (n : ℕ) → held s d of ≡ value.Window n → stores_after o s d of ≡ stores_left o (window s.tree s.urls d n) s.stores
after_window (Read reading) s d of n h = refl
after_window (Change key changing) s d of n h =
    ap (λ v. elim (object_of s d v) [ None ↦ s.stores | Some seen ↦ placed seen.object (store_left seen (s.stores seen.object) key.now (act_of changing)) s.stores ]) h

pub after_location : (o : Operation) (s : Sight) (d : ℕ) (of : List ℕ) (e : ℕ) → held s d of ≡ value.Location e → stores_after o s d of ≡ stores_left o (location s.tree s.urls d e) s.stores
after_location (Read reading) s d of e h = refl
after_location (Change key changing) s d of e h =
    ap (λ v. elim (object_of s d v) [ None ↦ s.stores | Some seen ↦ placed seen.object (store_left seen (s.stores seen.object) key.now (act_of changing)) s.stores ]) h

pub after_none : (o : Operation) (s : Sight) (d : ℕ) (of : List ℕ) → object_of s d (held s d of) ≡ None → stores_after o s d of ≡ s.stores
after_none (Read reading) s d of h = refl
after_none (Change key changing) s d of h =
    ap (λ found. elim found [ None ↦ s.stores | Some seen ↦ placed seen.object (store_left seen (s.stores seen.object) key.now (act_of changing)) s.stores ]) h
