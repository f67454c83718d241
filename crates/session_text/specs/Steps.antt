-- The step that a JSON value is, or the first refusal: the fields of each step, in their order.
use Rattle.std.specs.Prelude.{ℕ, List, [], length, codes, Bool, false, ◌&&◌, ◌||◌, ◌==◌, nat_le, bytes_eq, if◌then◌else◌, Option, Some, None, Ok, option_and_then}
use Rattle.std.specs.List.{list_all}
use Rattle.std.specs.Option.{option_map_or}
use Rattle.serde_json.specs.Events.{members_len}
use Rattle.serde_json.specs.Find.{as_object, as_str, get}
use Rattle.window_props.specs.declared.key.Key.{Key}
use Rattle.window_props.specs.Keys.{key_read}
use Rattle.agent_terms.specs.declared.step.Operand.{Operand}
use Rattle.agent_terms.specs.declared.step.Operand.TheVariants as operand
use Rattle.agent_terms.specs.declared.step.OpName.{OpName}
use Rattle.agent_terms.specs.declared.step.OpName.TheVariants as op
use Rattle.agent_terms.specs.declared.step.Step.{Step}
use Rattle.agent_terms.specs.declared.step.Step.TheVariants as step
use Rattle.agent_terms.specs.Built.{is_built}
use Rattle.agent_terms.specs.Limits.{most_args, most_index, most_letters}
use Rattle.agent_terms.specs.Texts.{op_named}
use Rattle.session_reading.specs.declared.path.Segment.TheVariants.{Named}
use Rattle.session_reading.specs.declared.name.Name.TheVariants as its
use Rattle.session_reading.specs.Names.{text_of}
use Rattle.session_reading.specs.Refusing.{Outcome, ◌>>=◌, under, out_of_range, unknown_step}
use Rattle.session_reading.specs.Reading.{Json, or_refuse, whole, truth, text, list_of}
use Rattle.session_reading.specs.Forms.{Fields, fields_of, read_field, read_field_or, read_optional, ends}
use Rattle.session_reading.specs.PlainData.{data_read}

-- REGISTERS AND KEYS

abbrev pub is_letter : ℕ → Bool
is_letter b = nat_le 97 b && nat_le b 122

-- letters a to z, at least one
unfoldable pub is_register : List ℕ → Bool
is_register s = nat_le 1 (length s) && nat_le (length s) most_letters && list_all is_letter s

-- the name of a register
unfoldable pub register : Json → Outcome (List ℕ)
register j = do
  s ← text j
  if is_register s then Ok s else out_of_range

-- `window` and `undefined` hold what they say, and take nothing else
unfoldable pub is_kept : List ℕ → Bool
is_kept s = bytes_eq s (codes "window") || bytes_eq s (codes "undefined")

-- the name of a register that takes an answer
unfoldable pub receiver : Json → Outcome (List ℕ)
receiver j = do
  s ← register j
  if is_kept s then out_of_range else Ok s

-- the key that a text names
unfoldable pub key : Json → Outcome Key
key j = do
  s ← text j
  Ok (key_read s)

-- OPERANDS

abbrev pub one_member : Json → Bool
one_member j = option_map_or (λ ms. members_len ms == 1) (as_object j) false

-- the text in an object that has the one field `$`
unfoldable pub named_in : Json → Option (List ℕ)
named_in j = if one_member j then option_and_then as_str (get (text_of its.Dollar) j) else None

abbrev pub operand_of : Option (List ℕ) → Json → Outcome Operand
operand_of (Some name) j = if is_register name then Ok (operand.Register name) else out_of_range
operand_of None j = data_read j >>= λ value. Ok (operand.Plain value)

-- a register, or data
unfoldable pub operand_read : Json → Outcome Operand
operand_read j = operand_of (named_in j) j

abbrev pub args_read : Json → Outcome (List Operand)
args_read = list_of 0 most_args (λ _. operand_read)

abbrev pub index_read : Json → Outcome ℕ
index_read = whole 0 most_index

-- STEPS

unfoldable pub let_step : Fields → Outcome Step
let_step f = do
  (to, f) ← read_optional its.To receiver f
  (value, f) ← read_field its.Value operand_read f
  others ← ends f
  Ok (step.Let to value)

unfoldable pub get_step : Fields → Outcome Step
get_step f = do
  (of, f) ← read_field its.Of register f
  (k, f) ← read_field its.Key key f
  (to, f) ← read_optional its.To receiver f
  others ← ends f
  Ok (step.Get of k to)

unfoldable pub set_step : Fields → Outcome Step
set_step f = do
  (of, f) ← read_field its.Of register f
  (k, f) ← read_field its.Key key f
  (value, f) ← read_field its.Value operand_read f
  (user, f) ← read_field_or its.User false truth f
  others ← ends f
  Ok (step.Set of k value user)

unfoldable pub define_step : Fields → Outcome Step
define_step f = do
  (of, f) ← read_field its.Of register f
  (k, f) ← read_field its.Key key f
  (value, f) ← read_optional its.Value operand_read f
  (writable, f) ← read_optional its.Writable truth f
  (enumerable, f) ← read_optional its.Enumerable truth f
  (configurable, f) ← read_optional its.Configurable truth f
  others ← ends f
  Ok (step.Define of k value writable enumerable configurable)

unfoldable pub call_step : Fields → Outcome Step
call_step f = do
  (of, f) ← read_field its.Of register f
  (k, f) ← read_field its.Key key f
  (args, f) ← read_field its.Args args_read f
  (to, f) ← read_optional its.To receiver f
  (user, f) ← read_field_or its.User false truth f
  others ← ends f
  Ok (step.Call of k args to user)

unfoldable pub frame_step : Fields → Outcome Step
frame_step f = do
  (url, f) ← read_optional its.Url text f
  (name, f) ← read_optional its.Name text f
  (sandbox, f) ← read_optional its.Sandbox text f
  (to, f) ← read_optional its.To receiver f
  others ← ends f
  Ok (step.Frame url name sandbox to)

unfoldable pub open_step : Fields → Outcome Step
open_step f = do
  (url, f) ← read_optional its.Url text f
  (target, f) ← read_field_or its.Target (codes "_blank") text f
  (noopener, f) ← read_field_or its.Noopener false truth f
  (user, f) ← read_field_or its.User false truth f
  (to, f) ← read_optional its.To receiver f
  others ← ends f
  Ok (step.Open url target noopener user to)

unfoldable pub link_step : Fields → Outcome Step
link_step f = do
  (url, f) ← read_field its.Url text f
  (target, f) ← read_field_or its.Target [] text f
  (rel, f) ← read_field_or its.Rel [] text f
  (user, f) ← read_field_or its.User false truth f
  others ← ends f
  Ok (step.Link url target rel user)

-- the fields of steps that have an object alone, an object and a key, or an index

unfoldable pub of_alone : Fields → Outcome (List ℕ)
of_alone f = do
  (of, f) ← read_field its.Of register f
  others ← ends f
  Ok of

unfoldable pub of_and_key : Fields → Outcome (List ℕ × Key)
of_and_key f = do
  (of, f) ← read_field its.Of register f
  (k, f) ← read_field its.Key key f
  others ← ends f
  Ok (of, k)

unfoldable pub index_alone : Fields → Outcome ℕ
index_alone f = do
  (index, f) ← read_field its.Index index_read f
  others ← ends f
  Ok index

-- THE STEP BY ITS NAME

-- a step that sessions can't have is refused at its name, as a name is that no step has
abbrev pub refused_step : Outcome Step
refused_step = under (Named (text_of its.Op)) unknown_step

-- no session has a `domain` so far, so that its fields aren't read
unfoldable pub step_by : OpName → Fields → Outcome Step
step_by op.Let f = let_step f
step_by op.Get f = get_step f
step_by op.Has f = of_and_key f >>= λ it. Ok (step.Has it.0 it.1)
step_by op.Describe f = of_and_key f >>= λ it. Ok (step.Describe it.0 it.1)
step_by op.Keys f = of_alone f >>= λ of. Ok (step.Keys of)
step_by op.Proto f = of_alone f >>= λ of. Ok (step.Proto of)
step_by op.SetProto f = of_alone f >>= λ of. Ok (step.SetProto of)
step_by op.Extensible f = of_alone f >>= λ of. Ok (step.Extensible of)
step_by op.Prevent f = of_alone f >>= λ of. Ok (step.Prevent of)
step_by op.Set f = set_step f
step_by op.Define f = define_step f
step_by op.Delete f = of_and_key f >>= λ it. Ok (step.Delete it.0 it.1)
step_by op.Call f = call_step f
step_by op.Sync f = ends f >>= λ _. Ok step.Sync
step_by op.Frame f = frame_step f
step_by op.Drop f = index_alone f >>= λ index. Ok (step.Drop index)
step_by op.Open f = open_step f
step_by op.Link f = link_step f
step_by op.Domain f = refused_step

-- the name of a step
unfoldable pub op_read : Json → Outcome OpName
op_read j = do
  s ← text j
  or_refuse (op_named s) unknown_step

-- a step that sessions may have so far
unfoldable pub built_step : Step → Outcome Step
built_step s = if is_built s then Ok s else refused_step

-- the name first; whether sessions may have the step is tested once all of it was read, but for a `domain`
unfoldable pub step_read : Json → Outcome Step
step_read j = do
  f ← fields_of j
  (name, f) ← read_field its.Op op_read f
  s ← step_by name f
  built_step s
