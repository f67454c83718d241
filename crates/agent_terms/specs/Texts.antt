-- How sessions and records spell the names of steps and of rules. The texts are this project's own.
use Rattle.std.specs.Prelude.{ℕ, List, [], ◌∷◌, codes, Option, bytes_eq, find}
use Rattle.agent_terms.specs.declared.step.OpName.{OpName}
use Rattle.agent_terms.specs.declared.step.OpName.TheVariants as op
use Rattle.agent_terms.specs.declared.outcome.Rule.{Rule}
use Rattle.agent_terms.specs.declared.outcome.Rule.TheVariants.{S1, S2, S3, S4, S5, S6, S7, S8, S9, S10, S11}

unfoldable pub op_text : OpName → List ℕ
op_text op.Let = codes "let"
op_text op.Get = codes "get"
op_text op.Has = codes "has"
op_text op.Describe = codes "describe"
op_text op.Keys = codes "keys"
op_text op.Proto = codes "proto"
op_text op.SetProto = codes "setproto"
op_text op.Extensible = codes "extensible"
op_text op.Prevent = codes "prevent"
op_text op.Set = codes "set"
op_text op.Define = codes "define"
op_text op.Delete = codes "delete"
op_text op.Call = codes "call"
op_text op.Sync = codes "sync"
op_text op.Frame = codes "frame"
op_text op.Drop = codes "drop"
op_text op.Open = codes "open"
op_text op.Link = codes "link"
op_text op.Domain = codes "domain"

abbrev pub all_ops : List OpName
all_ops =
    op.Let ∷ op.Get ∷ op.Has ∷ op.Describe ∷ op.Keys ∷ op.Proto ∷ op.SetProto ∷ op.Extensible ∷ op.Prevent ∷ op.Set
    ∷ op.Define ∷ op.Delete ∷ op.Call ∷ op.Sync ∷ op.Frame ∷ op.Drop ∷ op.Open ∷ op.Link ∷ op.Domain ∷ []

-- the step that a text names
unfoldable pub op_named : List ℕ → Option OpName
op_named text = find (λ name. bytes_eq (op_text name) text) all_ops

unfoldable pub rule_text : Rule → List ℕ
rule_text S1 = codes "S1"
rule_text S2 = codes "S2"
rule_text S3 = codes "S3"
rule_text S4 = codes "S4"
rule_text S5 = codes "S5"
rule_text S6 = codes "S6"
rule_text S7 = codes "S7"
rule_text S8 = codes "S8"
rule_text S9 = codes "S9"
rule_text S10 = codes "S10"
rule_text S11 = codes "S11"
