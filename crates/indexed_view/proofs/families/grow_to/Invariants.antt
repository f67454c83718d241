use Rattle.std.proofs.Common.{◌≡◌, ℕ, List, length, vec_capacity}
use Rattle.indexed_view.specs.Families.{children_in, named_in}
use Rattle.indexed_view.proofs.families.grow_to.Given as goal

abbrev pub invariant-loop : goal.invariant-loop
invariant-loop l = record {
  len : length l.families.items ≡ l.counter;
  capacity : vec_capacity l.families ≡ vec_capacity l.initial.families;
  children : (d : ℕ) → children_in l.families.items d ≡ children_in l.initial.families.items d;
  names : (d : ℕ) (q : List ℕ) → named_in l.families.items d q ≡ named_in l.initial.families.items d q;
}
