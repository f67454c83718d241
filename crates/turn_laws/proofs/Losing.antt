-- Which exchange is the one that a session wants lost.
use Rattle.std.proofs.Common.{◌≡◌, ℕ, ◌+◌, ◌-◌, Option, Some, None, Bool, true, false, refl, inl, inr, arith}
use Rattle.std.specs.Prelude.{◌==◌, ◌&&◌, ◌||◌, not}
use Rattle.std.proofs.lemmas.Bool.{eq-eqb}
use Rattle.std.proofs.lemmas.Bool.Decides.{eqb_tells}
use Rattle.agent_terms.specs.declared.session.Lose.{Lose}
use Rattle.single_agent.specs.Turns.{is_named, is_served}
use Rattle.turn_laws.specs.Playing.{number_of}

at_call : (call made : ℕ) → call - made ≡ 1 → (call == made + 1) ≡ true
at_call call made h = eq-eqb call (made + 1) (omega arith)

or_not : (a b : Bool) → b ≡ false → (a || not b) ≡ true
or_not true b h = refl
or_not false true h = absurd cc
or_not false false h = refl

or_yes : (a b : Bool) → a ≡ true → (a || b) ≡ true
or_yes true b h = refl
or_yes false b h = absurd cc

two : (a b : Bool) → a ≡ true → b ≡ true → (a && b) ≡ true
two true b h k = k
two false b h k = absurd cc

-- a call that is refused is the one that is named
pub refused_named : (lose : Option Lose) (made : ℕ) (counted : Bool) → number_of lose made ≡ 1 → is_served lose ≡ false → is_named lose made counted ≡ true
refused_named None made counted n s = absurd cc
refused_named (Some l) made counted n s = two _ _ (at_call l.call made n) (or_not counted l.served s)

-- and so is one that counts, and whose reply is dropped
pub dropped_named : (lose : Option Lose) (made : ℕ) (counted : Bool) → number_of lose made ≡ 1 → counted ≡ true → is_named lose made counted ≡ true
dropped_named None made counted n s = absurd cc
dropped_named (Some l) made counted n s = two _ _ (at_call l.call made n) (or_yes counted (not l.served) s)

-- one whose reply is handed on isn't
pub heard_unnamed : (lose : Option Lose) (made : ℕ) (counted : Bool) → (number_of lose made ≡ 1 → (is_served lose ≡ true) × (counted ≡ false)) → is_named lose made counted ≡ false
heard_unnamed None made counted h = refl
heard_unnamed (Some l) made counted h =
    elim (eqb_tells l.call (made + 1)) [
      | inl p ↦ let k = h (omega (arith, p.1)) in rw (p.0, k.0, k.1) refl
      | inr p ↦ rw p.0 refl
    ]
