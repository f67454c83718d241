-- Where bytes are no frame, and why: what a decoder answers.
use Rattle.std.specs.Prelude.{◌≡◌, ℕ, ◌-◌, List, length, Result, Ok, Err}
use Rattle.agent_terms.specs.declared.request.Why.{Why}
use Rattle.agent_terms.specs.declared.request.Why.TheVariants as whys
use Rattle.link_fields.specs.declared.fault.Flaw.{Flaw}
use Rattle.link_fields.specs.declared.fault.Flaw.TheVariants as flaws
use Rattle.link_fields.specs.declared.fault.ReadError.{ReadError}
use Rattle.link_fields.specs.declared.fault.ReadError.TheVariants as read_errors
use Rattle.link_wire.specs.declared.bad.Bad.{Bad}
use Rattle.link_wire.specs.declared.bad.DecodeError.{DecodeError}
use Rattle.link_wire.specs.declared.bad.DecodeError.TheVariants as errors

-- what is read, or where and why it is none
abbrev pub Decoded : Type 0 → Type 0
Decoded A = Result A Bad

abbrev pub bad_at : ℕ → Why → Bad
bad_at place why = record { place = place; why = why }

-- the reason for which a field's flaw makes the frame bad
abbrev pub why_of_flaw : Flaw → Why
why_of_flaw flaws.Short = whys.Short
why_of_flaw flaws.Text = whys.Text
why_of_flaw flaws.Range = whys.Range
why_of_flaw flaws.Url = whys.Url

-- a field of these bytes that was not read
abbrev pub field_error : List ℕ → ReadError → DecodeError
field_error bytes read_errors.Memory = errors.Memory
field_error bytes (read_errors.Fault f) = errors.Bad (bad_at (length bytes - f.left) (why_of_flaw f.why))

-- What a call answered is what the format says, unless memory ran out.
abbrev pub Fails : {A : Type 0} → DecodeError → Decoded A → Type 0
Fails errors.Memory expected = Unit {0}
Fails (errors.Bad bad) expected = expected ≡ Err bad

-- the same, the answer seen by a view
abbrev pub Reads : {X A : Type 0} → (X → A) → Result X DecodeError → Decoded A → Type 0
Reads view (Ok x) expected = expected ≡ Ok (view x)
Reads view (Err e) expected = Fails e expected

abbrev pub Decodes : {A : Type 0} → Result A DecodeError → Decoded A → Type 0
Decodes (Ok a) expected = expected ≡ Ok a
Decodes (Err e) expected = Fails e expected
