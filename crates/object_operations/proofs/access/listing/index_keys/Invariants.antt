use Rattle.std.proofs.Common.{◌≡◌, map}
use Rattle.std.specs.List.{range_with_len}
use Rattle.object_access.specs.Access.{index_key}
use Rattle.object_operations.proofs.access.listing.index_keys.Given as goal

abbrev pub invariant-loop-index : goal.invariant-loop-index
invariant-loop-index l = l.keys ≡ map index_key (range_with_len 0 l.index-counter)
