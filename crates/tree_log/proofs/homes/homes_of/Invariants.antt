use Rattle.std.proofs.Common.{◌≡◌, ◌≤◌, ◌<◌, ◌^◌, ℕ, None, length, reverse, take, get_or}
use Rattle.std.specs.Prelude.{unwrap_or}
use Rattle.tree_log.specs.Tree.{tree_of, home_of}
use Rattle.tree_log.proofs.homes.homes_of.Given as goal

abbrev pub invariant-loop-entry : goal.invariant-loop-entry
invariant-loop-entry l = record {
  count : length l.homes.items ≡ (tree_of (reverse l.entries)).docs;
  told : (d : ℕ) → d < length l.homes.items → home_of (tree_of (reverse (take l.entry-index l.entries))) d ≡ unwrap_or (get_or l.homes.items d None) 65536;
  far : (d : ℕ) → 2 ^ 32 ≤ d → get_or l.homes.items d None ≡ None;
}
