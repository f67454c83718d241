use Rattle.std.proofs.Common.{◌≡◌, map, take}
use Rattle.window_props.specs.Platform.{key_of}
use Rattle.object_operations.proofs.access.listing.list_keys.Given as goal

abbrev pub invariant-loop-name : goal.invariant-loop-name
invariant-loop-name l = l.keys ≡ map key_of (take l.name-index l.name-items)
