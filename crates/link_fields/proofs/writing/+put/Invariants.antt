use Rattle.std.proofs.Common.{◌≡◌, ◌++◌, ◌*◌, ◌+◌, take}
use Rattle.std.specs.List.{flat_map}
use Rattle.link_fields.specs.Field.{◌⊗◌}
use Rattle.link_fields.specs.Basic.{text}
use Rattle.link_fields.specs.Values.{value}
use Rattle.link_fields.proofs.writing.+put.Given as goal

abbrev pub decreases-put_value : goal.decreases-put_value
decreases-put_value l = 2 * l.depth

abbrev pub decreases-put_items : goal.decreases-put_items
decreases-put_items l = 2 * l.depth + 1

abbrev pub decreases-put_members : goal.decreases-put_members
decreases-put_members l = 2 * l.depth + 1

abbrev pub invariant-put_items-loop-item : goal.invariant-put_items-loop-item
invariant-put_items-loop-item l = l.out.items ≡ l.fn.out.items ++ flat_map (value l.depth).spell (take l.item-index l.items)

abbrev pub invariant-put_members-loop-member : goal.invariant-put_members-loop-member
invariant-put_members-loop-member l = l.out.items ≡ l.fn.out.items ++ flat_map (text ⊗ value l.depth).spell (take l.member-index l.members)
