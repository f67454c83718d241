use Rattle.std.proofs.Common.{◌≡◌, ◌++◌, codes, map, take, string_bytes}
use Rattle.plain_data.specs.DataText.{with_commas}
use Rattle.trace_text.specs.RecordText.{key_words}
use Rattle.trace_text.proofs.answer_text.keys_text.Given as goal

abbrev pub invariant-loop-i : goal.invariant-loop-i
invariant-loop-i l = string_bytes l.out ≡ codes "[" ++ with_commas (map key_words (take l.i l.keys))
