use Rattle.std.proofs.Common.{◌≤◌, ℕ, length, length-append, length-drop, length-take, drop, ◌+◌, arith}
use Rattle.std.proofs.lemmas.List.{drop_all}
use Rattle.ports.proofs.Pieces.{front-copied}
use Rattle.ports.proofs.memory_source.MemorySourceSource.read.Goals as goal

pub returns-clause-bytes : goal.returns-clause-bytes
returns-clause-bytes c =
    let source = c.args.self.now in
    let count = c.min-count.result in
    let copied = rw c.deref.ensures.value at c.copy_from_slice.ensures.after in
    let within : count ≤ length (drop source.at source.bytes.items) = omega (arith, length-drop {A = ℕ}) in (
      front-copied source.at count source.bytes.items c.copy_from_slice.new.self (drop count c.args.into.now) copied within,
      λ none room. drop_all (source.at + count) source.bytes.items
          (omega (arith, length-append {A = ℕ}, length-drop {A = ℕ}, length-take {A = ℕ})),
    )
