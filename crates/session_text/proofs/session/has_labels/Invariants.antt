use Rattle.std.proofs.Common.{◌≡◌, true, drop}
use Rattle.session_text.specs.Session as spec
use Rattle.session_text.proofs.session.has_labels.Given as goal

-- what is left decides
abbrev pub invariant-loop-byte : goal.invariant-loop-byte
invariant-loop-byte l = spec.has_labels l.begins (drop l.byte-index l.bytes) ≡ spec.has_labels true l.bytes
