use Rattle.std.proofs.Common.{◌≡◌, [], drop}
use Rattle.serde_json.specs.View.{items_view, members_view}
use Rattle.session_reading.specs.PlainData as spec
use Rattle.session_reading.proofs.data.+plain.Given as goal

abbrev pub invariant-plain_items-loop-item : goal.invariant-plain_items-loop-item
invariant-plain_items-loop-item l = spec.plain_items l.found (items_view (drop l.item-index l.item-items)) ≡ spec.plain_items [] (items_view l.item-items)

abbrev pub invariant-plain_members-loop-name : goal.invariant-plain_members-loop-name
invariant-plain_members-loop-name l = spec.plain_members l.found (members_view l.name-iterator) ≡ spec.plain_members [] (members_view l.members.entries)
