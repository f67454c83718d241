use Rattle.std.proofs.Common.{◌≡◌, length, reverse, take, string_bytes, codes, decimal}
use Rattle.origin_core.specs.Flags.{◌◊◌}
use Rattle.trace_text.specs.RecordText.{act_lines}
use Rattle.trace_text.proofs.record_lines.record_text.Given as goal

abbrev pub invariant-loop-act : goal.invariant-loop-act
invariant-loop-act l =
    string_bytes l.out ≡ codes "record " ◊ decimal l.fn.renderer ◊ codes " " ◊ decimal (length l.acts) ◊ codes "\n" ◊ act_lines (reverse (take l.act-index l.acts))
