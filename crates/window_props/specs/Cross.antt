-- What an object shows to documents of another origin (HTML, Cross-origin objects: CrossOriginProperties,
-- CrossOriginGetOwnPropertyHelper, CrossOriginPropertyFallback).
use Rattle.std.specs.Prelude.{List, [], ◌∷◌, Bool, true, false, Option, Some, None, find, map, option_map, codes, bytes_eq}
use Rattle.window_props.specs.declared.key.Key.{Key}
use Rattle.window_props.specs.declared.key.Key.TheVariants as key
use Rattle.window_props.specs.declared.platform.Object.{Object}
use Rattle.window_props.specs.declared.platform.Object.TheVariants as object
use Rattle.window_props.specs.declared.platform.Platform.{Platform}
use Rattle.window_props.specs.declared.platform.Platform.TheVariants.{Window, Itself, Location, Close, Closed, Focus, Blur, Frames, Length, Top, Opener, Parent, PostMessage, Href, Replace}
use Rattle.window_props.specs.declared.value.Value.TheVariants as value
use Rattle.window_props.specs.declared.descriptor.Body.TheVariants as body
use Rattle.window_props.specs.declared.descriptor.Descriptor.{Descriptor}
use Rattle.window_props.specs.Keys.{same_key}
use Rattle.window_props.specs.Platform.{key_of, method_of}

-- the names that are shown, in order
abbrev pub cross_names : Object → List Platform
cross_names (object.Window _) = Window ∷ Itself ∷ Location ∷ Close ∷ Closed ∷ Focus ∷ Blur ∷ Frames ∷ Length ∷ Top ∷ Opener ∷ Parent ∷ PostMessage ∷ []
cross_names (object.Location _) = Href ∷ Replace ∷ []

-- a Location's `href` can be set, but not read
abbrev pub is_gettable : Platform → Bool
is_gettable Href = false
is_gettable _ = true

abbrev pub is_settable : Platform → Bool
is_settable Location = true
is_settable Href = true
is_settable _ = false

unfoldable pub made_for_others : Object → Platform → Descriptor
made_for_others o name = record {
  body = elim (method_of name) [ Some m ↦ body.Value (value.Function m o) false | None ↦ body.Accessor (is_gettable name) (is_settable name) ];
  enumerable = false;
  configurable = true;
}

-- the name that is shown at a key
unfoldable pub cross_named : Object → Key → Option Platform
cross_named o key = find (λ name. same_key (key_of name) key) (cross_names o)

-- the property that is shown at a key
unfoldable pub listed : Object → Key → Option Descriptor
listed o key = option_map (made_for_others o) (cross_named o key)

unfoldable pub list_keys : Object → List Key
list_keys o = map key_of (cross_names o)

unfoldable pub then_key : Key
then_key = key.Text (codes "then")

-- the keys that are undefined for documents of another origin, whatever the object
unfoldable pub is_fallback : Key → Bool
is_fallback (key.Text s) = bytes_eq s (codes "then")
is_fallback _ = true

unfoldable pub fallback_keys : List Key
fallback_keys = then_key ∷ key.ToStringTag ∷ key.HasInstance ∷ key.IsConcatSpreadable ∷ []
