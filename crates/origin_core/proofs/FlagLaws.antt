-- Flags of a union and of an attribute.
use Rattle.std.proofs.Common.{◌≡◌, ℕ, ◌<◌, Bool, true, false, ◌&&◌, ◌||◌, ◌==◌, ◌∙◌, ap, refl, arith, max, List}
use Rattle.std.proofs.lemmas.Bool.{and_parts}
use Rattle.std.proofs.lemmas.Bool.Decides.{nat_tests}
use Rattle.std.proofs.lemmas.Nat.Bits.{bit_at_or, bit_at-lt}
use Rattle.std.specs.Int.{bit_at}
use Rattle.origin_core.specs.Origin.{is_same_truth}
use Rattle.origin_core.specs.Flags.{flags_sum, has_flag, union, sets_auxiliary, sets_top, sets_top_by_user, sets_origin, sets_scripts, sets_propagates, flags_of}
use Rattle.origin_core.proofs.SameLaw.{same_truth}

either : (m n : ℕ) → m < 2 → n < 2 → (max m n == 1) ≡ (m == 1 || n == 1)
either m n small_m small_n = grind (arith, nat_tests)

pub has_flag-union : (place a b : ℕ) → has_flag place (union a b) ≡ (has_flag place a || has_flag place b)
has_flag-union place a b =
    ap (λ n. n == 1) (bit_at_or a b place) ∙ either (bit_at a place) (bit_at b place) (bit_at-lt a place) (bit_at-lt b place)

-- ---- a sum of bits has just those flags: all 256 are tried

unfoldable both : (Bool → Bool) → Bool
both test = test true && test false

tried_at : (test : Bool → Bool) → both test ≡ true → (b : Bool) → test b ≡ true
unfolding both
tried_at test all true = (and_parts _ _ all).0
tried_at test all false = (and_parts _ _ all).1

-- six flags, of which one is looked at
abbrev Six : Type 0
Six = Bool → Bool → Bool → Bool → Bool → Bool → Bool

abbrev sum_of : Bool → Bool → Bool → Bool → Bool → Bool → ℕ
sum_of a t u o s p = flags_sum true a t u o s p true

abbrev tried : ℕ → Six → Bool
tried place flag =
    both (λ a. both (λ t. both (λ u. both (λ o. both (λ s. both (λ p. is_same_truth (has_flag place (sum_of a t u o s p)) (flag a t u o s p)))))))

told : (place : ℕ) (flag : Six) → tried place flag ≡ true → (a t u o s p : Bool) → has_flag place (sum_of a t u o s p) ≡ flag a t u o s p
told place flag all a t u o s p =
    same_truth _ _ (tried_at _ (tried_at _ (tried_at _ (tried_at _ (tried_at _ (tried_at _ all a) t) u) o) s) p)

attribute : (place : ℕ) (flag : Six) (text : List ℕ) → tried place flag ≡ true → has_flag place (flags_of text) ≡ flag (sets_auxiliary text) (sets_top text) (sets_top_by_user text) (sets_origin text) (sets_scripts text) (sets_propagates text)
attribute place flag text all =
    told place flag all (sets_auxiliary text) (sets_top text) (sets_top_by_user text) (sets_origin text) (sets_scripts text) (sets_propagates text)

pub navigation_of : (text : List ℕ) → has_flag 0 (flags_of text) ≡ true
unfolding both flags_sum
navigation_of text = attribute 0 (λ a t u o s p. true) text refl

pub auxiliary_of : (text : List ℕ) → has_flag 1 (flags_of text) ≡ sets_auxiliary text
unfolding both flags_sum
auxiliary_of text = attribute 1 (λ a t u o s p. a) text refl

pub top_of : (text : List ℕ) → has_flag 2 (flags_of text) ≡ sets_top text
unfolding both flags_sum
top_of text = attribute 2 (λ a t u o s p. t) text refl

pub top_by_user_of : (text : List ℕ) → has_flag 3 (flags_of text) ≡ sets_top_by_user text
unfolding both flags_sum
top_by_user_of text = attribute 3 (λ a t u o s p. u) text refl

pub origin_of : (text : List ℕ) → has_flag 4 (flags_of text) ≡ sets_origin text
unfolding both flags_sum
origin_of text = attribute 4 (λ a t u o s p. o) text refl

pub scripts_of : (text : List ℕ) → has_flag 5 (flags_of text) ≡ sets_scripts text
unfolding both flags_sum
scripts_of text = attribute 5 (λ a t u o s p. s) text refl

pub propagates_of : (text : List ℕ) → has_flag 6 (flags_of text) ≡ sets_propagates text
unfolding both flags_sum
propagates_of text = attribute 6 (λ a t u o s p. p) text refl

pub domain_of : (text : List ℕ) → has_flag 7 (flags_of text) ≡ true
unfolding both flags_sum
domain_of text = attribute 7 (λ a t u o s p. true) text refl
