-- What passes for each element of a list passes for one that is found in it.
use Rattle.std.proofs.Common.{◌≡◌, List, [], ◌∷◌, Some, Bool, true, false, cond, subst}
use Rattle.std.specs.Prelude.{find}
use Rattle.std.specs.List.{list_all}
use Rattle.std.proofs.lemmas.Bool.{and_parts}

pub found_passes : {X : Type 0} (pass test : X → Bool) (xs : List X) (x : X) → list_all pass xs ≡ true → find test xs ≡ Some x → pass x ≡ true
found_passes pass test [] x all found = absurd cc
found_passes pass test (y ∷ ys) x all found = here (test y) found (found_passes pass test ys x (and_parts _ _ all).1)
  where
    here : (b : Bool) → cond b (Some y) (find test ys) ≡ Some x → (find test ys ≡ Some x → pass x ≡ true) → pass x ≡ true
    here true e later = let same : y ≡ x = cc in subst (λ z. pass z ≡ true) same (and_parts _ _ all).0
    here false e later = later e
