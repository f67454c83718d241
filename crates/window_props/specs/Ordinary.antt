-- One act on one property: what is answered, and what the property is afterwards (ECMA-262, Ordinary Object Internal
-- Methods: [[DefineOwnProperty]], [[Set]], [[Delete]]; HTML for the platform's accessors and a Location's defaults).
use Rattle.std.specs.Prelude.{Bool, true, false, not, ◌&&◌, ◌||◌, Option, Some, None, if◌then◌else◌, unwrap_or, is_some}
use Rattle.plain_data.specs.declared.data.Data.TheVariants.{Undefined, Null}
use Rattle.window_props.specs.declared.key.Key.{Key}
use Rattle.window_props.specs.declared.platform.Object.{Object}
use Rattle.window_props.specs.declared.platform.Object.TheVariants as object
use Rattle.window_props.specs.declared.value.Value.{Value}
use Rattle.window_props.specs.declared.value.Value.TheVariants as value
use Rattle.window_props.specs.declared.descriptor.Body.{Body}
use Rattle.window_props.specs.declared.descriptor.Body.TheVariants as body
use Rattle.window_props.specs.declared.descriptor.Descriptor.{Descriptor}
use Rattle.window_props.specs.declared.descriptor.Change.{Change}
use Rattle.window_props.specs.declared.props.SetAnswer.{SetAnswer}
use Rattle.window_props.specs.declared.props.SetAnswer.TheVariants.{Truth, Setter, TypeFault}
use Rattle.window_props.specs.Values.{same_value}
use Rattle.window_props.specs.declared.platform.Role.{Role}
use Rattle.window_props.specs.declared.platform.Role.TheVariants.{Fixed, Replaceable, Opening, Runs}
use Rattle.window_props.specs.Platform.{role_of, named}

-- an act on one property
pub data Act : Type 0 where
  Define : Change → Act
  Set : Value → Act
  Delete : Act

-- the answer, and the property afterwards
pub record Done : Type 0 where
  pub answer : SetAnswer
  pub property : Option Descriptor

abbrev pub done : Bool → Option Descriptor → Done
done b property = record { answer = Truth b; property = property }

abbrev pub nothing : Value
nothing = value.Plain Undefined

-- DEFINE (ECMA-262, ValidateAndApplyPropertyDescriptor, for generic and data descriptors)

-- a property that wasn't there, with the parts that are given
abbrev pub made : Change → Descriptor
made c = record {
  body = body.Value (unwrap_or c.value nothing) (unwrap_or c.writable false);
  enumerable = unwrap_or c.enumerable false;
  configurable = unwrap_or c.configurable false;
}

abbrev pub is_given : Option Bool → Bool → Bool  -- given as b
is_given None b = false
is_given (Some true) b = b
is_given (Some false) b = not b

abbrev pub is_other : Option Value → Value → Bool  -- given, and not the same value
is_other None v = false
is_other (Some w) v = not (same_value w v)

abbrev pub gives_data : Change → Bool
gives_data c = is_some c.value || is_some c.writable

-- whether the body refuses the change, where it can't be configured
abbrev pub is_refused_by_body : Change → Body → Bool
is_refused_by_body c (body.Accessor _ _) = gives_data c
is_refused_by_body c (body.Value v writable) = not writable && (is_given c.writable true || is_other c.value v)

-- whether the property, as it is, refuses the change
abbrev pub is_refused : Change → Descriptor → Bool
is_refused c d = not d.configurable && (is_given c.configurable true || is_given c.enumerable (not d.enumerable) || is_refused_by_body c d.body)

-- the given parts in place of the old; an accessor that is given a value or `writable` becomes data
abbrev pub body_after : Option Value → Option Bool → Body → Body
body_after value writable (body.Value v was) = body.Value (unwrap_or value v) (unwrap_or writable was)
body_after value writable (body.Accessor get set) =
    if is_some value || is_some writable then body.Value (unwrap_or value nothing) (unwrap_or writable false) else body.Accessor get set

abbrev pub ordinary_change : Change → Descriptor → Descriptor
ordinary_change c d = record {
  body = body_after c.value c.writable d.body;
  enumerable = unwrap_or c.enumerable d.enumerable;
  configurable = unwrap_or c.configurable d.configurable;
}

unfoldable pub ordinary_define : Change → Option Descriptor → Done
ordinary_define c None = done true (Some (made c))
ordinary_define c (Some d) = if is_refused c d then done false (Some d) else done true (Some (ordinary_change c d))

-- SET (ECMA-262, OrdinarySet, with the object itself as receiver)

-- what a set makes where nothing is
abbrev pub plain : Value → Descriptor
plain v = record { body = body.Value v true; enumerable = true; configurable = true }

abbrev pub is_null : Value → Bool
is_null (value.Plain Null) = true
is_null _ = false

-- what a set does to the platform's accessor, by its role
abbrev pub set_accessor : Role → Value → Descriptor → Done
set_accessor Fixed v d = done false (Some d)
set_accessor Runs v d = record { answer = Setter; property = Some d }
set_accessor Replaceable v d = if d.configurable then done true (Some (plain v)) else done false (Some d)
set_accessor Opening v d =
    if is_null v then record { answer = Setter; property = Some d }
    else if d.configurable then done true (Some (plain v))
    else record { answer = TypeFault; property = Some d }

abbrev pub set_by : Role → Value → Descriptor → Body → Done
set_by role v d (body.Accessor _ _) = set_accessor role v d
set_by role v d (body.Value _ true) = done true (Some (record d { body = body.Value v true }))
set_by role v d (body.Value _ false) = done false (Some d)

unfoldable pub set_to : Role → Value → Option Descriptor → Done
set_to role v None = done true (Some (plain v))
set_to role v (Some d) = set_by role v d d.body

-- DELETE (ECMA-262, OrdinaryDelete)

unfoldable pub ordinary_delete : Option Descriptor → Done
ordinary_delete None = done true None
ordinary_delete (Some d) = if d.configurable then done true None else done false (Some d)

-- AN ACT AT A KEY OF AN OBJECT

unfoldable pub role_at : Object → Key → Role
role_at o key = elim (named o key) [ None ↦ Fixed | Some name ↦ role_of o name ]

-- the default properties of a Location, which nothing defines or deletes (HTML, Location's [[DefineOwnProperty]] and
-- [[Delete]])
unfoldable pub is_default : Object → Key → Bool
is_default (object.Window _) key = false
is_default (object.Location d) key = is_some (named (object.Location d) key)

unfoldable pub acted : Object → Key → Act → Option Descriptor → Done
acted o key (Define c) before = if is_default o key then done false before else ordinary_define c before
acted o key (Set v) before = set_to (role_at o key) v before
acted o key Delete before = if is_default o key then done false before else ordinary_delete before
