-- How a value and a property are printed.
use Rattle.std.specs.Prelude.{◌≡◌, refl, ℕ, List, ◌++◌, Bool, true, false, codes, if◌then◌else◌}
use Rattle.std.specs.Fmt.{decimal}
use Rattle.plain_data.specs.DataText.{data_text}
use Rattle.window_props.specs.declared.value.Value.{Value}
use Rattle.window_props.specs.declared.value.Value.TheVariants as value
use Rattle.window_props.specs.declared.value.Method.{Method}
use Rattle.window_props.specs.declared.value.Method.TheVariants.{Close, Focus, Blur, PostMessage, Assign, Replace}
use Rattle.window_props.specs.declared.value.Kind.{Kind}
use Rattle.window_props.specs.declared.value.Kind.TheVariants as kind
use Rattle.window_props.specs.declared.platform.Object.TheVariants as object
use Rattle.window_props.specs.declared.descriptor.Body.{Body}
use Rattle.window_props.specs.declared.descriptor.Body.TheVariants as body
use Rattle.window_props.specs.declared.descriptor.Descriptor.{Descriptor}

unfoldable pub method_text : Method → List ℕ
method_text Close = codes "close"
method_text Focus = codes "focus"
method_text Blur = codes "blur"
method_text PostMessage = codes "postMessage"
method_text Assign = codes "assign"
method_text Replace = codes "replace"

unfoldable pub kind_text : Kind → List ℕ
kind_text kind.Window = codes "Window"
kind_text kind.Location = codes "Location"

unfoldable pub truth_text : Bool → List ℕ
truth_text b = if b then codes "true" else codes "false"

-- data as compact text, a WindowProxy by its navigable, a Location by its document
unfoldable pub value_text : Value → List ℕ
value_text (value.Plain plain) = data_text plain
value_text (value.Window navigable) = codes "window n" ++ decimal navigable
value_text (value.Location document) = codes "location d" ++ decimal document
value_text (value.Function method _) = codes "function " ++ method_text method
value_text (value.Prototype kind) = codes "prototype " ++ kind_text kind

unfoldable pub body_text : Body → List ℕ
body_text (body.Value value writable) = codes "data value=" ++ (value_text value ++ (codes " w=" ++ truth_text writable))
body_text (body.Accessor get set) = codes "accessor get=" ++ (truth_text get ++ (codes " set=" ++ truth_text set))

unfoldable pub descriptor_text : Descriptor → List ℕ
descriptor_text d = body_text d.body ++ codes " e=" ++ truth_text d.enumerable ++ codes " c=" ++ truth_text d.configurable

-- ROWS

close_row : value_text (value.Function Close (object.Window 3)) ≡ codes "function close"
unfolding value_text method_text
close_row = refl

accessor_row : descriptor_text (record { body = body.Accessor true false; enumerable = false; configurable = true }) ≡ codes "accessor get=true set=false e=false c=true"
unfolding descriptor_text body_text truth_text
accessor_row = refl
