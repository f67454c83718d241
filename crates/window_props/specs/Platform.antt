-- The properties that the platform makes of a Window and of a Location (HTML, The Window object and The Location
-- interface; Web IDL, attributes and operations): their names, in order, and each as it is made.
use Rattle.std.specs.Prelude.{ℕ, List, [], ◌∷◌, Bool, true, false, Option, Some, None, find, map, option_map, codes}
use Rattle.window_props.specs.declared.key.Key.{Key}
use Rattle.window_props.specs.declared.key.Key.TheVariants as key
use Rattle.window_props.specs.declared.platform.Object.{Object}
use Rattle.window_props.specs.declared.platform.Object.TheVariants as object
use Rattle.window_props.specs.declared.platform.Platform.{Platform}
use Rattle.window_props.specs.declared.platform.Platform.TheVariants.{Window, Itself, Location, Close, Closed, Focus, Blur, Frames, Length, Top, Opener, Parent, PostMessage, Name, Origin, Href, Assign, Replace}
use Rattle.window_props.specs.declared.value.Value.TheVariants as value
use Rattle.window_props.specs.declared.value.Method.{Method}
use Rattle.window_props.specs.declared.value.Method.TheVariants as method
use Rattle.window_props.specs.declared.descriptor.Body.TheVariants as body
use Rattle.window_props.specs.declared.descriptor.Descriptor.{Descriptor}
use Rattle.window_props.specs.declared.platform.Role.{Role}
use Rattle.window_props.specs.declared.platform.Role.TheVariants.{Fixed, Replaceable, Opening, Runs}
use Rattle.window_props.specs.Keys.{same_key}

unfoldable pub spelled : Platform → List ℕ
spelled Window = codes "window"
spelled Itself = codes "self"
spelled Location = codes "location"
spelled Close = codes "close"
spelled Closed = codes "closed"
spelled Focus = codes "focus"
spelled Blur = codes "blur"
spelled Frames = codes "frames"
spelled Length = codes "length"
spelled Top = codes "top"
spelled Opener = codes "opener"
spelled Parent = codes "parent"
spelled PostMessage = codes "postMessage"
spelled Name = codes "name"
spelled Origin = codes "origin"
spelled Href = codes "href"
spelled Assign = codes "assign"
spelled Replace = codes "replace"

abbrev pub key_of : Platform → Key
key_of name = key.Text (spelled name)

-- the names of the object's properties, in order
abbrev pub names_of : Object → List Platform
names_of (object.Window _) = Window ∷ Itself ∷ Location ∷ Close ∷ Closed ∷ Focus ∷ Blur ∷ Frames ∷ Length ∷ Top ∷ Opener ∷ Parent ∷ PostMessage ∷ Name ∷ Origin ∷ []
names_of (object.Location _) = Href ∷ Origin ∷ Assign ∷ Replace ∷ []

-- the method of that name, if it is one
abbrev pub method_of : Platform → Option Method
method_of Close = Some method.Close
method_of Focus = Some method.Focus
method_of Blur = Some method.Blur
method_of PostMessage = Some method.PostMessage
method_of Assign = Some method.Assign
method_of Replace = Some method.Replace
method_of _ = None

-- what a set does to the platform's accessor: nothing without setter; an own property in its place where the attribute
-- is [Replaceable] (Web IDL); the same at `opener`, but for null (HTML, opener); else the platform's setter runs
abbrev pub role_of : Object → Platform → Role
role_of _ Itself = Replaceable
role_of _ Frames = Replaceable
role_of _ Length = Replaceable
role_of _ Parent = Replaceable
role_of _ Opener = Opening
role_of _ Location = Runs
role_of _ Name = Runs
role_of _ Href = Runs
role_of (object.Window _) Origin = Replaceable
role_of _ _ = Fixed

abbrev pub has_setter : Role → Bool
has_setter Fixed = false
has_setter _ = true

-- all but [LegacyUnforgeable] (Web IDL); a Location's are described so, though no define changes one
abbrev pub is_configurable : Platform → Bool
is_configurable Window = false
is_configurable Location = false
is_configurable Top = false
is_configurable _ = true

-- the methods of a Window are writable, the [LegacyUnforgeable] ones of a Location are not
abbrev pub is_writable : Object → Bool
is_writable (object.Window _) = true
is_writable (object.Location _) = false

unfoldable pub made_by_platform : Object → Platform → Descriptor
made_by_platform o name = record {
  body = elim (method_of name) [ Some m ↦ body.Value (value.Function m o) (is_writable o) | None ↦ body.Accessor true (has_setter (role_of o name)) ];
  enumerable = true;
  configurable = is_configurable name;
}

-- the platform's name at a key of the object
unfoldable pub named : Object → Key → Option Platform
named o key = find (λ name. same_key (key_of name) key) (names_of o)

unfoldable pub platform : Object → Key → Option Descriptor
platform o key = option_map (made_by_platform o) (named o key)

unfoldable pub platform_keys : Object → List Key
platform_keys o = map key_of (names_of o)
