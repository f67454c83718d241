use Rattle.std.proofs.Common.{◌∙◌}
use Rattle.trace_text.proofs.LogLines.{all_lines}
use Rattle.trace_text.proofs.log_lines.log_text.Goals as goal

pub returns : goal.returns
returns c =
    c.from_string.ensures
    ∙ all_lines c.entries-entry-items.result.now c.args.log.now.entries c.loop-place.place _ c.entries-entry-items.ensures.value c.loop-place-test.false c.loop-place.invariant
