-- How the record of a renderer prints: a line for each act, the oldest first. The texts are this project's own.
use Rattle.std.specs.Prelude.{ℕ, List, [], ◌∷◌, length, codes, decimal, map, Option, Some, None}
use Rattle.json.specs.Print.{quoted}
use Rattle.plain_data.specs.DataText.{with_commas}
use Rattle.origin_core.specs.Flags.{◌◊◌}
use Rattle.window_props.specs.declared.key.Key.{Key}
use Rattle.window_props.specs.declared.descriptor.Descriptor.{Descriptor}
use Rattle.window_props.specs.Keys.{key_text}
use Rattle.window_props.specs.ValueText.{value_text, truth_text, descriptor_text}
use Rattle.agent_terms.specs.declared.act.Act.{Act}
use Rattle.agent_terms.specs.declared.act.Act.TheVariants.{Step, Task, LostTask}
use Rattle.agent_terms.specs.declared.act.Point.{Point}
use Rattle.agent_terms.specs.declared.act.Point.TheVariants.{Script, Handler}
use Rattle.agent_terms.specs.declared.act.TaskKind.{TaskKind}
use Rattle.agent_terms.specs.declared.act.TaskKind.TheVariants as kind
use Rattle.agent_terms.specs.declared.act.Answer.{Answer}
use Rattle.agent_terms.specs.declared.act.Answer.TheVariants as answer
use Rattle.agent_terms.specs.declared.outcome.Outcome.{Outcome}
use Rattle.agent_terms.specs.declared.outcome.Outcome.TheVariants as outcome
use Rattle.agent_terms.specs.Texts.{op_text, rule_text}

abbrev pub point_words : Point → List ℕ
point_words (Script made) = codes "s" ◊ decimal made
point_words (Handler place made) = codes "h" ◊ decimal place ◊ codes "." ◊ decimal made

abbrev pub key_words : Key → List ℕ
key_words key = quoted (key_text key)

-- a list of strings, without spaces
unfoldable pub keys_words : List Key → List ℕ
keys_words keys = codes "[" ◊ with_commas (map key_words keys) ◊ codes "]"

unfoldable pub own_words : Option Descriptor → List ℕ
own_words None = codes "undefined"
own_words (Some d) = descriptor_text d

-- an act's outcome is never an ask
unfoldable pub outcome_words : Outcome → List ℕ
outcome_words (outcome.Value v) = value_text v
outcome_words (outcome.Truth b) = truth_text b
outcome_words (outcome.Keys keys) = keys_words keys
outcome_words (outcome.Own property) = own_words property
outcome_words (outcome.Security rule) = codes "SecurityError " ◊ rule_text rule
outcome_words outcome.Syntax = codes "SyntaxError"
outcome_words outcome.SchemeOut = codes "SchemeOut"
outcome_words outcome.DataClone = codes "DataCloneError"
outcome_words outcome.TypeFault = codes "TypeError"
outcome_words (outcome.Ask a) = codes "ask"

abbrev pub answer_words : Answer → List ℕ
answer_words (answer.Outcome o) = outcome_words o
answer_words answer.Unloaded = codes "unloaded"
answer_words answer.Lost = codes "lost"

unfoldable pub kind_words : TaskKind → List ℕ
kind_words kind.Commit = codes "commit"
kind_words kind.Fire = codes "fire"
kind_words kind.Lapse = codes "lapse"
kind_words kind.Gone = codes "gone"

-- the line of an act
unfoldable pub act_line : Act → List ℕ
act_line (Step at doc point op answer) =
    decimal at ◊ codes " d" ◊ decimal doc ◊ codes " " ◊ point_words point ◊ codes " " ◊ op_text op ◊ codes " -> " ◊ answer_words answer ◊ codes "\n"
act_line (Task at kind place) = decimal at ◊ codes " task " ◊ kind_words kind ◊ codes " " ◊ decimal place ◊ codes "\n"
act_line (LostTask at) = decimal at ◊ codes " task lost\n"

-- the lines of acts, which stand newest first
abbrev pub act_lines : List Act → List ℕ
act_lines [] = []
act_lines (a ∷ older) = act_lines older ◊ act_line a

-- the text of a record: its renderer, how many acts it has, and their lines
unfoldable pub record_words : ℕ → List Act → List ℕ
record_words r acts = codes "record " ◊ decimal r ◊ codes " " ◊ decimal (length acts) ◊ codes "\n" ◊ act_lines acts
