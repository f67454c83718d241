-- What ECMA-262 demands of every object, whatever is done on it (Invariants of the Essential Internal Methods).
use Rattle.std.specs.Prelude.{◌≡◌, Bool, true, false, not, ◌&&◌, Option, Some, None, option_and_then}
use Rattle.window_props.specs.declared.descriptor.Body.{Body}
use Rattle.window_props.specs.declared.descriptor.Body.TheVariants as body
use Rattle.window_props.specs.declared.descriptor.Descriptor.{Descriptor}
use Rattle.window_props.specs.declared.value.Value.{Value}
use Rattle.window_props.specs.declared.props.SetAnswer.{SetAnswer}
use Rattle.window_props.specs.declared.props.SetAnswer.TheVariants.{Truth, Setter, TypeFault}

abbrev pub is_writable : Body → Bool
is_writable (body.Value _ writable) = writable
is_writable (body.Accessor _ _) = false

-- neither configurable nor writable
abbrev pub is_fixed : Descriptor → Bool
is_fixed d = not d.configurable && not (is_writable d.body)

-- data stays data; a value that can't be written stays, and so does an accessor
abbrev pub BodyKept : Body → Body → Type 0
BodyKept (body.Accessor get set) later = later ≡ body.Accessor get set
BodyKept (body.Value v false) later = later ≡ body.Value v false
BodyKept (body.Value v true) (body.Value w writable) = Unit {0}
BodyKept (body.Value v true) (body.Accessor get set) = ⊥

-- what no act takes from a property that isn't configurable
pub record Keeps (d later : Descriptor) : Type 0 where
  pub configurable : later.configurable ≡ false
  pub enumerable : later.enumerable ≡ d.enumerable
  pub body : BodyKept d.body later.body

abbrev pub IsKept : Descriptor → Option Descriptor → Type 0
IsKept d None = ⊥
IsKept d (Some later) = Keeps d later

-- an answer other than true
abbrev pub is_refusal : SetAnswer → Bool
is_refusal (Truth done) = not done
is_refusal Setter = true
is_refusal TypeFault = true

-- the value of a property, where it has one
abbrev pub body_value : Body → Option Value
body_value (body.Value v _) = Some v
body_value (body.Accessor _ _) = None

abbrev pub value_of : Option Descriptor → Option Value
value_of property = option_and_then (λ d. body_value d.body) property
