use Rattle.std.proofs.Common.{◌≡◌, ◌-◌}
use Rattle.link_fields.specs.Values.{items_at}
use Rattle.link_fields.proofs.Loops.{with_front}
use Rattle.frame_grammar.specs.Entries.{entry}
use Rattle.link_wire.proofs.entry_reading.read_entries.Given as goal

abbrev pub invariant-loop : goal.invariant-loop
invariant-loop l = with_front l.entries.items (items_at entry.read (l.count - l.counter) l.rest) ≡ items_at entry.read l.count l.bytes
