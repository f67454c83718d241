use Rattle.std.proofs.Common.{◌≡◌, ◌-◌, ◌+◌, ◌*◌}
use Rattle.std.specs.Option.{option_copied}
use Rattle.link_fields.specs.Values.{value, items_at, members_at}
use Rattle.link_fields.proofs.Loops.{with_front}
use Rattle.link_fields.proofs.values.+read.Given as goal

abbrev pub decreases-read_value : goal.decreases-read_value
decreases-read_value l = 2 * l.depth

abbrev pub decreases-read_items : goal.decreases-read_items
decreases-read_items l = 2 * l.depth + 1

abbrev pub decreases-read_members : goal.decreases-read_members
decreases-read_members l = 2 * l.depth + 1

abbrev pub invariant-read_items-loop : goal.invariant-read_items-loop
invariant-read_items-loop l = with_front l.items (items_at (value l.depth).read (l.count - l.counter) l.rest) ≡ items_at (value l.depth).read l.count l.bytes

abbrev pub invariant-read_members-loop : goal.invariant-read_members-loop
invariant-read_members-loop l = with_front l.members (members_at (value l.depth) (l.count - l.counter) (option_copied l.before) l.rest) ≡ members_at (value l.depth) l.count Rattle.std.specs.Prelude.None l.bytes
