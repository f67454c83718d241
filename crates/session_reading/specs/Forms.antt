-- Readers of an object's fields, one after the other. Which fields were read is kept, so that no other is overlooked.
use Rattle.std.specs.Prelude.{List, [], ◌∷◌, ◌++◌, Option, Result, Ok, Err, ◌≡◌}
use Rattle.session_reading.specs.declared.error.SessionError.{SessionError}
use Rattle.session_reading.specs.declared.name.Name.{Name}
use Rattle.session_reading.specs.declared.form.Form.{Form}
use Rattle.serde_json.specs.View.{view}
use Rattle.session_reading.specs.Refusing.{Outcome, ◌>>=◌, Refuses}
use Rattle.session_reading.specs.Reading.{Json, an_object, field, field_or, optional, no_others}

-- an object, and the names of the fields that were read of it
pub record Fields : Type 0 where
  pub object : Json
  pub known : List Name

-- the object, of which nothing was read
unfoldable pub fields_of : Json → Outcome Fields
fields_of j = do
  object ← an_object j
  Ok (record { object = j; known = [] })

-- this field was read too
abbrev pub knowing : Name → Fields → Fields
knowing name f = record { object = f.object; known = f.known ++ name ∷ [] }

abbrev pub and_known : {A : Type 0} → Outcome A → Name → Fields → Outcome (A × Fields)
and_known read name f = read >>= λ a. Ok (a, knowing name f)

-- what the field of a name holds
unfoldable pub read_field : {A : Type 0} → Name → (Json → Outcome A) → Fields → Outcome (A × Fields)
read_field name read f = and_known (field name read f.object) name f

-- the same, and a default where there is no such field
unfoldable pub read_field_or : {A : Type 0} → Name → A → (Json → Outcome A) → Fields → Outcome (A × Fields)
read_field_or name absent read f = and_known (field_or name absent read f.object) name f

-- the same, where there is such a field
unfoldable pub read_optional : {A : Type 0} → Name → (Json → Outcome A) → Fields → Outcome (Option A × Fields)
read_optional name read f = and_known (optional name read f.object) name f

-- no field but those that were read
abbrev pub ends : Fields → Outcome (Unit {0})
ends f = no_others f.known f.object

-- what a form stands for
abbrev pub fields : Form → Fields
fields f = record { object = view f.object.now; known = f.known }

abbrev pub begun : Result Form SessionError → Result Fields SessionError
begun (Ok f) = Ok (fields f)
begun (Err e) = Err e

-- What a function returned, and what it left, is what reading gives, unless memory ran out.
abbrev pub Leaves : {A : Type 0} → Result A SessionError → Fields → Outcome (A × Fields) → Type 0
Leaves (Ok a) left read = read ≡ Ok (a, left)
Leaves (Err e) left read = Refuses e read
