use Rattle.std.proofs.Common.{◌≡◌, ◌++◌, take, string_bytes}
use Rattle.plain_data.specs.DataText.{list_text, record_text}
use Rattle.plain_data.proofs.writing.+write.Given as goal

abbrev pub invariant-write_items-loop-i : goal.invariant-write_items-loop-i
invariant-write_items-loop-i l = string_bytes l.out ≡ string_bytes l.fn.out ++ list_text (take l.i l.items)

abbrev pub invariant-write_members-loop-i : goal.invariant-write_members-loop-i
invariant-write_members-loop-i l = string_bytes l.out ≡ string_bytes l.fn.out ++ record_text (take l.i l.members)
