-- What registers hold, after a write.
use Rattle.std.proofs.Common.{◌≡◌, ℕ, List, Option, Some, None, Bool, true, false, refl, ap, sym, ◌∙◌, Result, Ok, Err}
use Rattle.std.specs.Prelude.{◌==◌, ◌&&◌, if◌then◌else◌, bytes_eq, unwrap_or, OnOk}
use Rattle.std.proofs.lemmas.Bool.{eqb-true}
use Rattle.window_props.specs.declared.value.Value.{Value}
use Rattle.window_props.proofs.RowLaws.{yes, no}
use Rattle.object_access.specs.Values.{undefined}
use Rattle.script_steps.specs.declared.registers.Rows.{Rows}
use Rattle.script_steps.specs.declared.registers.Row.{Row}
use Rattle.script_steps.specs.Slots.{slot}
use Rattle.script_steps.specs.Rows.{found, IsWritten}
use Rattle.script_steps.specs.Kept.{rows_of}

abbrev pub held : Option Rows → List ℕ → Value
held rows name = unwrap_or (found (rows_of rows) name) undefined

pub on_ok : {A E P Q : Type 0} → (r : Result A E) → OnOk r P → (P → Q) → OnOk r Q
on_ok (Ok a) p f = f p
on_ok (Err e) p f = tt

-- the rows of one document are written, and no others
pub held_set : (old mid out new : List (Option Rows)) (doc : ℕ) (name : List ℕ) (v : Value) (before : List Row) (rows : Rows)
    → ((d : ℕ) → slot mid d ≡ slot old d)
    → ((d : ℕ) → slot out d ≡ (if d == doc then None else slot mid d))
    → ((d : ℕ) → slot new d ≡ (if d == doc then Some rows else slot out d))
    → before ≡ rows_of (slot mid doc)
    → IsWritten before rows.rows.items name v
    → (d : ℕ) (other : List ℕ) → held (slot new d) other ≡ (if (d == doc) && bytes_eq other name then v else held (slot old d) other)
held_set old mid out new doc name v before rows same taken put was written d other = by (d == doc) refl (bytes_eq other name) refl
  where
    by : (here : Bool) → (d == doc) ≡ here → (there : Bool) → bytes_eq other name ≡ there
        → held (slot new d) other ≡ (if here && there then v else held (slot old d) other)
    by true e there f =
        let at : d ≡ doc = eqb-true d doc e in
        let now : held (slot new d) other ≡ unwrap_or (found rows.rows.items other) undefined = ap (λ s. held s other) (put d ∙ yes _ _ _ e) in
        now ∙ ap (λ o. unwrap_or o undefined) (written other) ∙ pick there f at
      where
        pick : (there : Bool) → bytes_eq other name ≡ there → d ≡ doc
            → unwrap_or (if bytes_eq other name then Some v else found before other) undefined ≡ (if there then v else held (slot old d) other)
        pick true f at = rw f refl
        pick false f at = rw f (ap (λ items. unwrap_or (found items other) undefined) (was ∙ ap rows_of (same doc ∙ ap (λ m. slot old m) (sym at))))
    by false e there f = ap (λ s. held s other) (put d ∙ no _ _ _ e ∙ taken d ∙ no _ _ _ e ∙ same d)
