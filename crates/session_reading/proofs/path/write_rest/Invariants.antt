use Rattle.std.proofs.Common.{◌≡◌, ◌++◌, false, drop, string_bytes}
use Rattle.session_reading.specs.PathText.{segments_words}
use Rattle.session_reading.proofs.path.write_rest.Given as goal

abbrev pub invariant-loop-segment : goal.invariant-loop-segment
invariant-loop-segment l = string_bytes l.out ++ segments_words false (drop l.segment-index l.segments) ≡ string_bytes l.fn.out ++ segments_words false l.segments
