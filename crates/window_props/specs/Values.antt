-- When two values are the same (ECMA-262, SameValue): data where the trees are equal, objects where they are the same object.
use Rattle.std.specs.Prelude.{Bool, true, false, ◌==◌, ◌&&◌}
use Rattle.plain_data.specs.Same.{same_data}
use Rattle.window_props.specs.declared.value.Value.{Value}
use Rattle.window_props.specs.declared.value.Value.TheVariants as value
use Rattle.window_props.specs.declared.value.Method.{Method}
use Rattle.window_props.specs.declared.value.Method.TheVariants.{Close, Focus, Blur, PostMessage, Assign, Replace}
use Rattle.window_props.specs.declared.value.Kind.{Kind}
use Rattle.window_props.specs.declared.value.Kind.TheVariants as kind
use Rattle.window_props.specs.declared.platform.Object.{Object}
use Rattle.window_props.specs.declared.platform.Object.TheVariants as object

abbrev pub same_method : Method → Method → Bool
same_method Close Close = true
same_method Focus Focus = true
same_method Blur Blur = true
same_method PostMessage PostMessage = true
same_method Assign Assign = true
same_method Replace Replace = true
same_method _ _ = false

abbrev pub same_object : Object → Object → Bool
same_object (object.Window a) (object.Window b) = a == b
same_object (object.Location a) (object.Location b) = a == b
same_object _ _ = false

abbrev pub same_kind : Kind → Kind → Bool
same_kind kind.Window kind.Window = true
same_kind kind.Location kind.Location = true
same_kind _ _ = false

unfoldable pub same_value : Value → Value → Bool
same_value (value.Plain a) (value.Plain b) = same_data a b
same_value (value.Window a) (value.Window b) = a == b
same_value (value.Location a) (value.Location b) = a == b
same_value (value.Function m a) (value.Function n b) = same_method m n && same_object a b
same_value (value.Prototype a) (value.Prototype b) = same_kind a b
same_value _ _ = false
