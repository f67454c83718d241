-- One index key more.
use Rattle.std.proofs.Common.{◌≡◌, ℕ, ◌+◌, [], ◌∷◌, ◌++◌, map, arith}
use Rattle.std.specs.List.{range_with_len}
use Rattle.std.proofs.lemmas.List.FromFn.{map-range_with_len_more}
use Rattle.object_access.specs.Access.{index_key}

pub next_index : (n : ℕ) → map index_key (range_with_len 0 (n + 1)) ≡ map index_key (range_with_len 0 n) ++ index_key n ∷ []
next_index n = map-range_with_len_more index_key 0 n n (omega arith)
