-- The property history of an object: its properties by the calls that were made on it, newest first.
use Rattle.std.specs.Prelude.{true, false, not, pos, map, List, [], ◌∷◌, ◌++◌, filter, Option, Some, None, if◌then◌else◌, ◌≡◌, refl}
use Rattle.window_props.specs.declared.key.Key.{Key}
use Rattle.window_props.specs.declared.platform.Object.{Object}
use Rattle.window_props.specs.declared.value.Value.{Value}
use Rattle.window_props.specs.declared.descriptor.Descriptor.{Descriptor}
use Rattle.window_props.specs.declared.descriptor.Change.{Change}
use Rattle.window_props.specs.declared.props.SetAnswer.{SetAnswer}
use Rattle.plain_data.specs.declared.data.Data.TheVariants.{Whole}
use Rattle.window_props.specs.declared.value.Value.TheVariants as value
use Rattle.window_props.specs.declared.descriptor.Body.TheVariants as body
use Rattle.window_props.specs.declared.platform.Object.TheVariants as object
use Rattle.window_props.specs.declared.platform.Platform.TheVariants.{Window, Itself, Location, Close, Closed, Focus, Blur, Frames, Length, Top, Opener, Parent, PostMessage, Name, Origin}
use Rattle.window_props.specs.Keys.{same_key}
use Rattle.window_props.specs.Platform.{spelled, key_of, named, made_by_platform, platform, platform_keys}
use Rattle.window_props.specs.Ordinary.{Act, Define, Set, Delete, acted, ordinary_define, ordinary_delete, is_default}

-- an act at a key
pub record Call : Type 0 where
  pub key : Key
  pub act : Act

abbrev pub define_at : Key → Change → Call
define_at key change = record { key = key; act = Define change }

abbrev pub set_at : Key → Value → Call
set_at key value = record { key = key; act = Set value }

abbrev pub delete_at : Key → Call
delete_at key = record { key = key; act = Delete }

-- the property at a key: the newest change is at that key, or the property is that before it
abbrev pub property : Object → List Call → Key → Option Descriptor
property o [] key = platform o key
property o (call ∷ older) key = if same_key call.key key then (acted o call.key call.act (property o older call.key)).property else property o older key

-- a key that was made is the last one; one that was removed is gone
abbrev pub keys_after : Key → Option Descriptor → Option Descriptor → List Key → List Key
keys_after key None (Some _) keys = keys ++ key ∷ []
keys_after key (Some _) None keys = filter (λ k. not (same_key key k)) keys
keys_after key None None keys = keys
keys_after key (Some _) (Some _) keys = keys

-- the keys, in order (ECMA-262, OrdinaryOwnPropertyKeys, but that a script's symbols stand among its strings, in order
-- of creation)
abbrev pub keys : Object → List Call → List Key
keys o [] = platform_keys o
keys o (call ∷ older) = keys_after call.key (property o older call.key) (acted o call.key call.act (property o older call.key)).property (keys o older)

-- all that is known of an object's properties
pub record Store : Type 0 where
  pub object : Object
  pub at : Key → Option Descriptor
  pub keys : List Key

-- the properties after those calls
unfoldable pub store_of : Object → List Call → Store
store_of o calls = record { object = o; at = property o calls; keys = keys o calls }

-- the property at the call's key afterwards
abbrev pub acted_in : Store → Call → Option Descriptor
acted_in s call = (acted s.object call.key call.act (s.at call.key)).property

abbrev pub answer_in : Store → Call → SetAnswer
answer_in s call = (acted s.object call.key call.act (s.at call.key)).answer

-- one more call
unfoldable pub store_after : Store → Call → Store
store_after s call = record {
  object = s.object;
  at = λ key. if same_key call.key key then acted_in s call else s.at key;
  keys = keys_after call.key (s.at call.key) (acted_in s call) s.keys;
}

pub store_of_step : (o : Object) (call : Call) (older : List Call) → store_of o (call ∷ older) ≡ store_after (store_of o older) call
unfolding store_of store_after
store_of_step o call older = refl

-- ROWS: `self` of a Window

define_self : Call
define_self = define_at (key_of Itself) (record { value = Some (value.Plain (Whole (pos 1))); writable = None; enumerable = None; configurable = None })

delete_self : Call
delete_self = delete_at (key_of Itself)

defined_row : property (object.Window 1) (define_self ∷ []) (key_of Itself)
    ≡ Some (record { body = body.Value (value.Plain (Whole (pos 1))) false; enumerable = true; configurable = true })
unfolding define_self acted ordinary_define platform named same_key spelled made_by_platform is_default
defined_row = refl

-- made again, it is the last key
made_again_row : keys (object.Window 1) (define_self ∷ delete_self ∷ [])
    ≡ map key_of (Window ∷ Location ∷ Close ∷ Closed ∷ Focus ∷ Blur ∷ Frames ∷ Length ∷ Top ∷ Opener ∷ Parent ∷ PostMessage ∷ Name ∷ Origin ∷ Itself ∷ [])
unfolding define_self delete_self acted ordinary_define ordinary_delete platform platform_keys named same_key spelled made_by_platform is_default
made_again_row = refl
