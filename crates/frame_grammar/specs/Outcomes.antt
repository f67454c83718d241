-- The outcomes of requests: the fields of each.
use Rattle.std.specs.Prelude.{ℕ, ◌==◌, nat_le, ◌&&◌, List, Option, if◌then◌else◌}
use Rattle.agent_terms.specs.declared.request.ReplyOutcome.{ReplyOutcome}
use Rattle.agent_terms.specs.declared.request.ReplyOutcome.TheVariants as outcomes
use Rattle.agent_terms.specs.declared.request.Why.{Why}
use Rattle.agent_terms.specs.declared.request.Why.TheVariants as whys
use Rattle.link_fields.specs.declared.fault.Flaw.TheVariants.{Range}
use Rattle.link_fields.specs.Field.{Field, ◌⊗◌, nothing, never, only, mapped}
use Rattle.link_fields.specs.Kinds.{Kind, kind, spelled_as, row_or}
use Rattle.link_fields.specs.Basic.{u8, u16, u32, small, optional}

-- ---- their fields

abbrev pub why_number : Why → ℕ
why_number whys.Version = 0
why_number whys.Kind = 1
why_number whys.Length = 2
why_number whys.Short = 3
why_number whys.Text = 4
why_number whys.Range = 5
why_number whys.Url = 6
why_number whys.Tail = 7

abbrev pub why_of : ℕ → Why
why_of n =
    if n == 0 then whys.Version
    else (if n == 1 then whys.Kind
    else (if n == 2 then whys.Length
    else (if n == 3 then whys.Short
    else (if n == 4 then whys.Text
    else (if n == 5 then whys.Range
    else (if n == 6 then whys.Url
    else whys.Tail))))))

abbrev pub why_field : Field Why
why_field = mapped why_of why_number (small 7)

-- the number of a security rule
abbrev pub rule_field : Field ℕ
rule_field = only Range (λ n. nat_le 1 n && nat_le n 11) u8

-- ---- the kinds of replies: the number of each, its fields, and the outcome

abbrev pub done_kind : Kind (Unit {0}) ReplyOutcome
done_kind = kind 65 (nothing tt) (λ _. outcomes.Done)

abbrev pub security_kind : Kind ℕ ReplyOutcome
security_kind = kind 66 rule_field (λ rule. outcomes.Security rule)

abbrev pub null_kind : Kind (Unit {0}) ReplyOutcome
null_kind = kind 67 (nothing tt) (λ _. outcomes.Null)

abbrev pub made_kind : Kind ℕ ReplyOutcome
made_kind = kind 68 u32 (λ nav. outcomes.Made nav)

abbrev pub task_kind : Kind ℕ ReplyOutcome
task_kind = kind 69 u32 (λ place. outcomes.Task place)

abbrev pub nothing_kind : Kind (Unit {0}) ReplyOutcome
nothing_kind = kind 70 (nothing tt) (λ _. outcomes.Nothing)

abbrev pub unloaded_kind : Kind ℕ ReplyOutcome
unloaded_kind = kind 71 u32 (λ place. outcomes.Unloaded place)

abbrev pub not_yours_kind : Kind (ℕ × Option ℕ) ReplyOutcome
not_yours_kind = kind 72 (u32 ⊗ optional u16) (λ (doc, home). outcomes.NotYours doc home)

abbrev pub bad_frame_kind : Kind (ℕ × Why) ReplyOutcome
bad_frame_kind = kind 73 (u32 ⊗ why_field) (λ (place, why). outcomes.BadFrame place why)

abbrev pub full_kind : Kind ℕ ReplyOutcome
full_kind = kind 74 u32 (λ len. outcomes.Full len)

-- the kind of an outcome, and the spelling of its fields
abbrev pub outcome_spelled : ReplyOutcome → ℕ × List ℕ
outcome_spelled outcomes.Done = spelled_as done_kind tt
outcome_spelled (outcomes.Security rule) = spelled_as security_kind rule
outcome_spelled outcomes.Null = spelled_as null_kind tt
outcome_spelled (outcomes.Made nav) = spelled_as made_kind nav
outcome_spelled (outcomes.Task place) = spelled_as task_kind place
outcome_spelled outcomes.Nothing = spelled_as nothing_kind tt
outcome_spelled (outcomes.Unloaded place) = spelled_as unloaded_kind place
outcome_spelled (outcomes.NotYours doc home) = spelled_as not_yours_kind (doc, home)
outcome_spelled (outcomes.BadFrame place why) = spelled_as bad_frame_kind (place, why)
outcome_spelled (outcomes.Full len) = spelled_as full_kind len

abbrev pub outcome_kind : ReplyOutcome → ℕ
outcome_kind outcome = (outcome_spelled outcome).0

abbrev pub outcome_body : ReplyOutcome → List ℕ
outcome_body outcome = (outcome_spelled outcome).1

-- the outcome in a reply of a kind
abbrev pub outcome_row : ℕ → Field ReplyOutcome
outcome_row tag =
    row_or outcome_spelled tag done_kind
    (row_or outcome_spelled tag security_kind
    (row_or outcome_spelled tag null_kind
    (row_or outcome_spelled tag made_kind
    (row_or outcome_spelled tag task_kind
    (row_or outcome_spelled tag nothing_kind
    (row_or outcome_spelled tag unloaded_kind
    (row_or outcome_spelled tag not_yours_kind
    (row_or outcome_spelled tag bad_frame_kind
    (row_or outcome_spelled tag full_kind
    (never Range))))))))))
