-- What an access to an object answers, own and foreign (HTML Standard, 7.2.3.1 to 7.2.3.10, the WindowProxy exotic object,
-- and 7.2.4.1 to 7.2.4.10, the Location exotic object; ECMA-262, 10.1). It is said once, for a Window and a Location alike.
use Rattle.std.specs.Prelude.{ℕ, List, ◌++◌, ◌&&◌, not, map, Bool, true, false, Option, Some, None, Result, Ok, Err, if◌then◌else◌, is_some, is_none, option_map, decimal}
use Rattle.std.specs.List.{range_with_len}
use Rattle.std.specs.Option.{option_or}
use Rattle.object_access.specs.Names.{Key, Value, Kind, Change, Object, Outcome, Rule, S1, S2, S3, S4, S5, S6}
use Rattle.window_props.specs.declared.descriptor.Body.{Body}
use Rattle.window_props.specs.declared.descriptor.Descriptor.{Descriptor}
use Rattle.window_props.specs.declared.props.SetAnswer.{SetAnswer}
use Rattle.window_props.specs.Ordinary.{Act, Define, Set, Delete}
use Rattle.window_props.specs.History.{Store, Call, store_after, answer_in}
use Rattle.window_props.specs.Cross.{listed, list_keys, is_fallback, fallback_keys}
use Rattle.object_access.specs.Values.{undefined, null, window_or}

-- an object as the asker meets it
pub record Seen : Type 0 where
  pub own : Bool  -- whether the document is same origin-domain with the object's
  pub object : Object
  pub kind : Kind
  pub count : ℕ  -- how many children it has
  pub index : Key → Option ℕ  -- the array index that a key is
  pub child : ℕ → Option ℕ  -- the child with an index
  pub child_named : Key → Option ℕ  -- the child that a key reaches by its name
  pub getter : Key → Value  -- what the getter of the platform's accessor gives
  pub setter : Key → Value → Outcome  -- what the setter of the platform's accessor comes to

abbrev pub constant : Value → Bool → Descriptor
constant v enumerable = record { body = Body.Value v false; enumerable = enumerable; configurable = true }

abbrev pub child_property : Bool → ℕ → Descriptor
child_property enumerable n = constant (Value.Window n) enumerable

-- The property: at an array index the child there
abbrev pub at_index : Option ℕ → Option Descriptor
at_index = option_map (child_property true)

unfoldable pub own_property : Seen → Store → Key → Option Descriptor
own_property s props key = elim (s.index key) [ Some i ↦ at_index (s.child i) | None ↦ props.at key ]

abbrev pub fallback_property : Key → Option Descriptor
fallback_property key = if is_fallback key then Some (constant undefined false) else None

abbrev pub or_refused : Rule → Option Descriptor → Result Descriptor Rule
or_refused rule None = Err rule
or_refused rule (Some d) = Ok d

-- the first that fits: the list, a child of that name, the fallback
abbrev pub foreign_named : Seen → Key → Result Descriptor Rule
foreign_named s key = or_refused S1 (option_or (listed s.object key) (option_or (option_map (child_property false) (s.child_named key)) (fallback_property key)))

unfoldable pub foreign_property : Seen → Key → Result Descriptor Rule
foreign_property s key = elim (s.index key) [ Some i ↦ or_refused S2 (at_index (s.child i)) | None ↦ foreign_named s key ]

abbrev pub described_foreign : Result Descriptor Rule → Outcome
described_foreign (Err rule) = Outcome.Security rule
described_foreign (Ok d) = Outcome.Own (Some d)

unfoldable pub described : Seen → Store → Key → Outcome
described s props key = if s.own then Outcome.Own (own_property s props key) else described_foreign (foreign_property s key)

-- Get: a child that the key names comes after the own properties
abbrev pub got_own : Seen → Key → Option Descriptor → Value
got_own s key None = window_or undefined (s.child_named key)
got_own s key (Some d) = elim d.body [ Body.Value v _ ↦ v | Body.Accessor _ _ ↦ s.getter key ]

abbrev pub got_foreign : Seen → Key → Result Descriptor Rule → Outcome
got_foreign s key (Err rule) = Outcome.Security rule
got_foreign s key (Ok d) = elim d.body [
  | Body.Value v _ ↦ Outcome.Value v
  | Body.Accessor get _ ↦ if get then Outcome.Value (s.getter key) else Outcome.Security S3
]

unfoldable pub got : Seen → Store → Key → Outcome
got s props key = if s.own then Outcome.Value (got_own s key (own_property s props key)) else got_foreign s key (foreign_property s key)

-- Has: for others a property is there, or the access is refused
abbrev pub has_foreign : Result Descriptor Rule → Outcome
has_foreign (Err rule) = Outcome.Security rule
has_foreign (Ok d) = Outcome.Truth true

abbrev pub has_own : Seen → Key → Option Descriptor → Bool
has_own s key None = is_some (s.child_named key)
has_own s key (Some d) = true

unfoldable pub has : Seen → Store → Key → Outcome
has s props key = if s.own then Outcome.Truth (has_own s key (own_property s props key)) else has_foreign (foreign_property s key)

-- Set: what the ordinary set comes to, by the platform's setter where there is one
abbrev pub settled_own : Seen → Key → Value → SetAnswer → Outcome
settled_own s key v (SetAnswer.Truth b) = Outcome.Truth b
settled_own s key v SetAnswer.Setter = s.setter key v
settled_own s key v SetAnswer.TypeFault = Outcome.TypeFault

abbrev pub set_foreign : Seen → Key → Value → Result Descriptor Rule → Outcome
set_foreign s key v (Err rule) = Outcome.Security rule
set_foreign s key v (Ok d) = elim d.body [
  | Body.Value _ _ ↦ Outcome.Security S4
  | Body.Accessor _ set ↦ if set then s.setter key v else Outcome.Security S4
]

abbrev pub call_of : Key → Act → Call
call_of key act = record { key = key; act = act }

unfoldable pub set : Seen → Store → Key → Value → Outcome
set s props key v =
    if s.own then elim (s.index key) [ Some i ↦ Outcome.Truth false | None ↦ settled_own s key v (answer_in props (call_of key (Set v))) ]
    else set_foreign s key v (foreign_property s key)

-- Define and delete: neither comes to a setter
abbrev pub truth_of : SetAnswer → Outcome
truth_of (SetAnswer.Truth b) = Outcome.Truth b
truth_of SetAnswer.Setter = Outcome.TypeFault
truth_of SetAnswer.TypeFault = Outcome.TypeFault

unfoldable pub defined : Seen → Store → Key → Change → Outcome
defined s props key change =
    if s.own then elim (s.index key) [ Some i ↦ Outcome.Truth false | None ↦ truth_of (answer_in props (call_of key (Define change))) ]
    else Outcome.Security S5

unfoldable pub deleted : Seen → Store → Key → Outcome
deleted s props key =
    if s.own then elim (s.index key) [ Some i ↦ Outcome.Truth (is_none (s.child i)) | None ↦ truth_of (answer_in props (call_of key Delete)) ]
    else Outcome.Security S6

-- the properties afterwards: an act at an index, or by others, changes nothing
unfoldable pub store_left : Seen → Store → Key → Act → Store
store_left s props key act = if s.own && is_none (s.index key) then store_after props (call_of key act) else props

-- Keys and prototype: the key of an array index
abbrev pub index_key : ℕ → Key
index_key i = Key.Text (decimal i)

unfoldable pub index_keys : ℕ → List Key
index_keys count = map index_key (range_with_len 0 count)

unfoldable pub keys : Seen → Store → Outcome
keys s props = Outcome.Keys (index_keys s.count ++ (if s.own then props.keys else list_keys s.object ++ fallback_keys))

unfoldable pub prototype : Seen → Outcome
prototype s = Outcome.Value (if s.own then Value.Prototype s.kind else null)

-- a set of the prototype to null ([[SetPrototypeOf]], 7.2.3.2 and 7.2.4.2: SetImmutablePrototype): it is done where the
-- prototype is null already, as it is for others
abbrev pub prototype_set : Seen → Outcome
prototype_set s = Outcome.Truth (not s.own)

-- whether the object is extensible ([[IsExtensible]], 7.2.3.3 and 7.2.4.3): it is, for its own documents and for others
abbrev pub extensible : Seen → Outcome
extensible s = Outcome.Truth true

-- an end to its extensions ([[PreventExtensions]], 7.2.3.4 and 7.2.4.4): it is done for none
abbrev pub prevented : Seen → Outcome
prevented s = Outcome.Truth false
