use Rattle.std.proofs.Common.{◌≡◌, length, reverse, take, string_bytes, codes, decimal}
use Rattle.origin_core.specs.Flags.{◌◊◌}
use Rattle.trace_text.specs.LogText.{log_lines}
use Rattle.trace_text.proofs.log_lines.log_text.Given as goal

abbrev pub invariant-loop-place : goal.invariant-loop-place
invariant-loop-place l =
    string_bytes l.out ≡ codes "log " ◊ decimal (length l.log.entries) ◊ codes "\n" ◊ log_lines (reverse (take l.place l.entry-items))
