-- What is left of a turnstile whose passes all came back.
use Rattle.std.proofs.Common.{◌≡◌, ℕ, zero, suc, ◌+◌, List, ◌∷◌, length, Option, Some, ap, ◌∙◌, subst, arith, None}
use Rattle.std.specs.List.{slice_get}
use mathlib.Core.Option.{some, some-injective}
use lib.ListN.{get_elem?}
use Rattle.atomic_table.specs.Seated.{TableId}
use Rattle.atomic_table.specs.declared.shared.Seat.{Seat}
use Rattle.atomic_table.specs.Table.{Final, Seen}
use Rattle.turnstile.specs.declared.view.View.{View}
use Rattle.turnstile.specs.Places.{Place}
use Rattle.turnstile.specs.Histories.{Follows, Since}
use Rattle.turnstile.specs.Rule.{Kept}
use Rattle.turnstile.proofs.Gathers.{Gathering, gathered, seen_there, seen_of}
use Rattle.turnstile.proofs.KeepsRule.{closes, or_else}

pub ended : {S I : Type 0} (history : S → List I) (names : I → Option ℕ) (opening : List I) (seats : ℕ) (z : TableId) (all left : List (Place I)) (seat : Seat (Option S) (View I)) (ws : List ℕ) (xs : List (Option S))
    → length left ≡ 0 → Gathering z all seat left → length all ≡ seats → Final (Seen (Kept history names opening seats) seat.id seat.me.0) ws xs
    → (x : S) × (get_elem? xs 0 ≡ some (Some x)) × ((k : ℕ) (p : Place I) → slice_get all k ≡ Some p → Follows names k (seen_of p) (history x)) × Since names seats opening (history x)
ended {S} {I} history names opening seats z all left seat ws xs none g count final =
    let h = gathered z all left seat none g in
    let c = closes history names opening seats final.0 seat.id seat.me.0 final.1 g.number g.outside (h.1 ∙ count) in
    let stands : (k : ℕ) (l : List I) → get_elem? (seat.me.0.seen ∷ seat.me.0.kept) k ≡ some l → Follows names k l (history c.0) = each c.0 c.2 c.3 in
    (c.0, final.4 0 (Some c.0) (ap (λ hs. get_elem? hs 0) c.1), (λ k p at. stands k (seen_of p) (seen_there all (seat.me.0.seen ∷ seat.me.0.kept) k p h.0 at)), c.4)
  where
    each : (x : S) → Follows names 0 seat.me.0.seen (history x) → ((j : ℕ) (l : List I) → get_elem? seat.me.0.kept j ≡ some l → Follows names (j + 1) l (history x))
        → (k : ℕ) (l : List I) → get_elem? (seat.me.0.seen ∷ seat.me.0.kept) k ≡ some l → Follows names k l (history x)
    each x first others zero l e = subst (λ (m : List I). Follows names 0 m (history x)) (mathlib.Core.Option.some-injective _ _ e) first
    each x first others (suc j) l e = let n : j + 1 ≡ suc j = omega arith in subst (λ (m : ℕ). Follows names m l (history x)) n (others j l e)

pub some_same : {S : Type 0} (x y : S) → some (Some x) ≡ some (Some y) → x ≡ y
some_same x y e = ap (or_else x) (some-injective (Some x) (Some y) e)

pub not_none : {S : Type 0} (x : S) → some (Some x) ≡ some None → ⊥
not_none {S} x e = let f : Some x ≡ None = some-injective (Some x) None e in cc f
