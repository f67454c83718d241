-- Data in range: what is read at a depth is read at each greater one.
use Rattle.std.proofs.Common.{◌≡◌, ℕ, zero, suc, ◌+◌, ◌-◌, ◌≤◌, Bool, true, false, cond, eqb, nat_le, IsTrue, List, ◌∷◌, ◌++◌, length, take, drop, Option, Some, None, Ok, Err, refl, sym, ap, subst, ◌∙◌, append_assoc, inl, inr, arith}
use Rattle.std.proofs.Math.Seq.{take-append-add}
use Rattle.std.proofs.lemmas.Bool.{cases_lt, lt-leb}
use Rattle.std.proofs.lemmas.Bool.Decides.{nat_tests}
use Rattle.std.proofs.lemmas.List.{drop_at, take-append-drop, length-append, length-take}
use Rattle.plain_data.specs.declared.data.Data.{Data, roll-Data}
use Rattle.plain_data.specs.declared.data.Data.TheOpen.{Data-F}
use Rattle.link_fields.specs.declared.fault.Flaw.TheVariants.{Range}
use Rattle.link_fields.specs.declared.fault.Fault.{Fault}
use Rattle.link_fields.specs.declared.fault.ReadError.{ReadError}
use Rattle.link_fields.specs.declared.fault.ReadError.TheVariants as errors
use Rattle.link_fields.specs.Field.{Outcome, ◌>>=◌, fault_at, Fails, Field}
use Rattle.link_fields.specs.Basic.{u16, small}
use Rattle.link_fields.specs.Values.{items_at, counted, key_after, member, members_at, ascending, level_row, level, value}
use Rattle.link_fields.specs.Skipping.{rest_of, within, data_at, data_field}
use Rattle.link_fields.specs.Lawful.{IsBytes, Takes, IsLawful}
use Rattle.link_fields.proofs.FieldLaws.{IsBytes-take, bind_ok, passed_ok, passes, at_most}
use Rattle.link_fields.proofs.ValueLaws.{value_law}

-- what one reading gives the other does
abbrev Extends : {A : Type 0} → (List ℕ → Outcome A) → (List ℕ → Outcome A) → Type 0
Extends {A} f g = (bytes : List ℕ) (x : A) → f bytes ≡ Ok x → g bytes ≡ Ok x

extends_bind : {A B : Type 0} (r : List ℕ → Outcome A) (f g : A → Outcome B) → ((a : A) (y : B) → f a ≡ Ok y → g a ≡ Ok y) → Extends (λ bytes. r bytes >>= f) (λ bytes. r bytes >>= g)
extends_bind r f g h bytes x e = let a = bind_ok (r bytes) f x e in rw (a.1) (h a.0 x a.2)

extends_first : {A B : Type 0} (r s : List ℕ → Outcome A) (f : A → Outcome B) → Extends r s → Extends (λ bytes. r bytes >>= f) (λ bytes. s bytes >>= f)
extends_first r s f h bytes x e = let a = bind_ok (r bytes) f x e in rw (h bytes a.0 a.1) (a.2)

items_extend : {A : Type 0} (f g : Field A) → Extends f.read g.read → (n : ℕ) → Extends (items_at f.read n) (items_at g.read n)
unfolding items_at
items_extend f g h zero bytes x e = e
items_extend f g h (suc n) bytes x e =
    let a = bind_ok (f.read bytes) (λ a. items_at f.read n a.1 >>= λ as'. Ok (a.0 ∷ as'.0, as'.1)) x e in
    let b = bind_ok (items_at f.read n a.0.1) (λ as'. Ok (a.0.0 ∷ as'.0, as'.1)) x a.2 in
    rw (h bytes a.0 a.1, items_extend f g h n a.0.1 b.0 b.1) (b.2)

member_extends : {A : Type 0} (f g : Field A) → Extends f.read g.read → (before : Option (List ℕ)) → Extends (member f before).read (member g before).read
member_extends f g h before = extends_bind (key_after before).read (λ a. f.read a.1 >>= λ b. Ok ((a.0, b.0), b.1)) (λ a. g.read a.1 >>= λ b. Ok ((a.0, b.0), b.1)) (λ a y e. extends_first f.read g.read (λ b. Ok ((a.0, b.0), b.1)) h a.1 y e)

members_extend : {A : Type 0} (f g : Field A) → Extends f.read g.read → (n : ℕ) (before : Option (List ℕ)) → Extends (members_at f n before) (members_at g n before)
unfolding members_at
members_extend f g h zero before bytes x e = e
members_extend {A} f g h (suc n) before bytes x e =
    let m = bind_ok ((member f before).read bytes) (λ m. members_at f n (Some m.0.0) m.1 >>= λ ms. Ok (m.0 ∷ ms.0, ms.1)) x e in
    let b = bind_ok (members_at f n (Some m.0.0.0) m.0.1) (λ ms. Ok (m.0.0 ∷ ms.0, ms.1)) x m.2 in
    let i : (member g before).read bytes ≡ Ok m.0 = member_extends f g h before bytes m.0 m.1 in
    let j : members_at g n (Some m.0.0.0) m.0.1 ≡ Ok b.0 = members_extend f g h n (Some m.0.0.0) m.0.1 b.0 b.1 in
    ap (λ (r : Outcome ((List ℕ × A) × List ℕ)). r >>= λ m. members_at g n (Some m.0.0) m.1 >>= λ ms. Ok (m.0 ∷ ms.0, ms.1)) i
    ∙ ap (λ (r : Outcome (List (List ℕ × A) × List ℕ)). r >>= λ ms. Ok (m.0.0 ∷ ms.0, ms.1)) j ∙ b.2

either_extends : {A : Type 0} (b : Bool) (f g x y : Field A) → Extends f.read x.read → Extends g.read y.read → Extends (cond b f g).read (cond b x y).read
either_extends true f g x y p q = p
either_extends false f g x y p q = q

same_extends : {A : Type 0} (r : List ℕ → Outcome A) → Extends r r
same_extends r bytes x e = e

row_extends : (f g : Field Data) → Extends f.read g.read → (tag : ℕ) → Extends (level_row f tag).read (level_row g tag).read
row_extends f g h tag =
    either_extends (eqb tag 0) _ _ _ _ (λ bytes x e. e)
    (either_extends (eqb tag 1) _ _ _ _ (λ bytes x e. e)
    (either_extends (eqb tag 2) _ _ _ _ (λ bytes x e. e)
    (either_extends (eqb tag 3) _ _ _ _ (λ bytes x e. e)
    (either_extends (eqb tag 4) _ _ _ _ (λ bytes x e. e)
    (either_extends (eqb tag 5) _ _ _ _ (λ bytes x e. e)
    (either_extends (eqb tag 6) _ _ _ _ (extends_first (counted u16 f).read (counted u16 g).read (λ a. Ok (Data-F.List a.0, a.1)) (extends_bind u16.read (λ n. items_at f.read n.0 n.1) (λ n. items_at g.read n.0 n.1) (λ n y e. items_extend f g h n.0 n.1 y e)))
    (either_extends (eqb tag 7) _ _ _ _ (extends_first (ascending f).read (ascending g).read (λ a. Ok (Data-F.Record a.0, a.1)) (extends_bind u16.read (λ n. members_at f n.0 None n.1) (λ n. members_at g n.0 None n.1) (λ n y e. members_extend f g h n.0 None n.1 y e)))
    (λ bytes x e. e))))))))

value_extends : (n : ℕ) → Extends (value n).read (value (suc n)).read
unfolding value
value_extends zero bytes x e = absurd cc
value_extends (suc n) bytes x e =
    extends_first (level (value n)).read (level (value (suc n))).read (λ a. Ok (roll-Data a.0, a.1))
    (extends_bind (small 7).read (λ t. (level_row (value n) t.0).read t.1) (λ t. (level_row (value (suc n)) t.0).read t.1) (λ t y e. row_extends (value n) (value (suc n)) (value_extends n) t.0 t.1 y e))
    bytes x e

deeper : (k n : ℕ) → Extends (value n).read (value (k + n)).read
deeper zero n bytes x e = let z : n ≡ 0 + n = omega arith in ap (λ d. (value d).read bytes) (sym z) ∙ e
deeper (suc k) n bytes x e =
    let z : suc (k + n) ≡ suc k + n = omega arith in
    ap (λ d. (value d).read bytes) (sym z) ∙ value_extends (k + n) bytes x (deeper k n bytes x e)

within_ok : (bytes : List ℕ) (r : Outcome (Data × List ℕ)) (x : Data × List ℕ) → within bytes r ≡ Ok x → (r ≡ Ok x) × (length bytes - length x.1 ≤ 4096)
within_ok bytes (Ok y) x e =
    let p = passed_ok (nat_le (length bytes - length y.1) 4096) (fault_at Range bytes) y x e in
    let le = at_most _ _ p.0 in
    (ap (λ (z : Data × List ℕ). Ok z) p.1, subst (λ (z : Data × List ℕ). length bytes - length z.1 ≤ 4096) p.1 le)
within_ok bytes (Err d) x e = absurd cc

fits_in : (n m : ℕ) → n ≤ m → IsTrue (nat_le n m)
fits_in n m h = grind (arith, nat_tests)

data_takes : (bytes : List ℕ) (x : Data × List ℕ) → IsBytes bytes → data_at bytes ≡ Ok x → Takes bytes (data_field.spell x.0) x.1 × data_field.Fits x.0
unfolding data_at
data_takes bytes x fits e =
    let a = bind_ok (rest_of ((value (16 + length bytes)).read bytes)) (λ _. within bytes ((value 16).read bytes)) x e in
    let b = within_ok bytes ((value 16).read bytes) x a.2 in
    let t = (value_law 16).takes bytes x fits b.0 in
    (t.0, (t.1, omega (arith, length-append ((value 16).spell x.0) x.1, ap length t.0.parts, b.1)))

data_again : (d : Data) (rest : List ℕ) → data_field.Fits d → data_at (data_field.spell d ++ rest) ≡ Ok (d, rest)
unfolding data_at
data_again d rest h =
    let bytes = data_field.spell d ++ rest in
    let e : (value 16).read bytes ≡ Ok (d, rest) = (value_law 16).again d rest h.0 in
    let z : length bytes + 16 ≡ 16 + length bytes = omega arith in
    let deep : (value (16 + length bytes)).read bytes ≡ Ok (d, rest) = ap (λ n. (value n).read bytes) (sym z) ∙ deeper (length bytes) 16 bytes (d, rest) e in
    let small : length bytes - length rest ≤ 4096 = omega (arith, h.1, length-append (data_field.spell d) rest) in
    ap (λ (r : Outcome (Data × List ℕ)). rest_of r >>= λ _. within bytes ((value 16).read bytes)) deep
    ∙ ap (within bytes) e ∙ passes (nat_le (length bytes - length rest) 4096) (fault_at Range bytes) (d, rest) (fits_in _ _ small)

pub data_law : IsLawful data_field
data_law = record { takes = data_takes; again = data_again }

-- ---- by the first 4,096 bytes

pub data_in_front : (bytes : List ℕ) (v : Data) (rest : List ℕ) → IsBytes bytes → (value 16).read (take 4096 bytes) ≡ Ok (v, rest) → data_at bytes ≡ Ok (v, drop (length (take 4096 bytes) - length rest) bytes)
data_in_front bytes v rest fits e =
    let front = take 4096 bytes in
    let t = (value_law 16).takes front (v, rest) (IsBytes-take 4096 bytes fits) e in
    let text = (value 16).spell v in
    let parts : front ≡ text ++ rest = t.0.parts in
    let long : length front ≡ length text + length rest = ap length parts ∙ length-append text rest in
    let small : length text ≤ 4096 = omega (arith, length-take 4096 bytes) in
    let len : length text ≡ length front - length rest = omega arith in
    let all : bytes ≡ text ++ (rest ++ drop 4096 bytes) = sym (take-append-drop 4096 bytes) ∙ ap (λ (xs : List ℕ). xs ++ drop 4096 bytes) parts ∙ append_assoc text rest (drop 4096 bytes) in
    let behind : drop (length front - length rest) bytes ≡ rest ++ drop 4096 bytes = ap (λ (xs : List ℕ). drop (length front - length rest) xs) all ∙ drop_at text (rest ++ drop 4096 bytes) (length front - length rest) len in
    ap data_at all ∙ data_again v (rest ++ drop 4096 bytes) (t.1, small) ∙ ap (λ (xs : List ℕ). Ok (v, xs)) (sym behind)

-- what isn't read of the front is too deep or too long
past_front : (bytes : List ℕ) (f : Fault) (r : Outcome (Data × List ℕ)) → IsBytes bytes → (value 16).read (take 4096 bytes) ≡ Err f → (value 16).read bytes ≡ r → within bytes r ≡ Err (fault_at Range bytes)
past_front bytes f (Err d) fits e all = refl
past_front bytes f (Ok x) fits e all =
    let t = (value_law 16).takes bytes x fits all in
    let text = (value 16).spell x.0 in
    let parts : bytes ≡ text ++ x.1 = t.0.parts in
    let long : length bytes ≡ length text + length x.1 = ap length parts ∙ length-append text x.1 in
    elim (cases_lt 4096 (length text)) [
      | inl lt ↦ ap (λ b. cond b (Ok x) (Err (fault_at Range bytes))) (lt-leb (length bytes - length x.1) 4096 (omega arith))
      | inr le ↦
          let seam : length text + (4096 - length text) ≡ 4096 = omega arith in
          let front : take 4096 bytes ≡ text ++ take (4096 - length text) x.1 = ap (take 4096) parts ∙ ap (λ n. take n (text ++ x.1)) (sym seam) ∙ take-append-add text x.1 (4096 - length text) in
          let read : (value 16).read (take 4096 bytes) ≡ Ok (x.0, take (4096 - length text) x.1) = ap (value 16).read front ∙ (value_law 16).again x.0 (take (4096 - length text) x.1) t.1 in
          absurd cc
    ]

data_past_front : (bytes : List ℕ) (f : Fault) → IsBytes bytes → (value 16).read (take 4096 bytes) ≡ Err f → data_at bytes ≡ (rest_of ((value (16 + length bytes)).read bytes) >>= λ _. Err (fault_at Range bytes))
unfolding data_at
data_past_front bytes f fits e = ap (λ (r : Outcome (Data × List ℕ)). rest_of ((value (16 + length bytes)).read bytes) >>= λ _. r) (past_front bytes f ((value 16).read bytes) fits e refl)

abbrev refused : List ℕ → Outcome (List ℕ) → Outcome (Data × List ℕ)
refused bytes behind = behind >>= λ _. Err (fault_at Range bytes)

pub data_fails : (bytes : List ℕ) (f : Fault) (error : ReadError) → IsBytes bytes → (value 16).read (take 4096 bytes) ≡ Err f → Fails error (rest_of ((value (16 + length bytes)).read bytes)) → Fails error (data_at bytes)
data_fails bytes f errors.Memory fits e skip = tt
data_fails bytes f (errors.Fault d) fits e skip = data_past_front bytes f fits e ∙ ap (refused bytes) skip

pub data_refused : (bytes : List ℕ) (f : Fault) (behind : List ℕ) → IsBytes bytes → (value 16).read (take 4096 bytes) ≡ Err f → rest_of ((value (16 + length bytes)).read bytes) ≡ Ok behind → data_at bytes ≡ Err (fault_at Range bytes)
data_refused bytes f behind fits e skip = data_past_front bytes f fits e ∙ ap (refused bytes) skip
