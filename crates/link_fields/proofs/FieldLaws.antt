-- What is read is spelled so, and what is spelled so is read: for each way to make a field.
use Rattle.std.proofs.Common.{◌≡◌, ℕ, zero, suc, ◌+◌, ◌^◌, ◌<◌, ◌≤◌, Bool, true, false, cond, ltb, eqb, nat_le, nat_lt, IsTrue, List, [], ◌∷◌, ◌++◌, length, take, drop, Option, Some, None, Ok, Err, refl, sym, ap, subst, ◌∙◌, append_assoc, arith, inl, inr}
use Rattle.std.specs.Int.{Width, w8, w16, w32, byte_len, from_be_bytes, to_be_bytes}
use Rattle.std.proofs.lemmas.Bool.{cases_lt, ltb-false, le-ltb}
use Rattle.std.proofs.lemmas.Bool.Decides.{nat_tests}
use Rattle.std.proofs.lemmas.List.{take_at, drop_at, take-append-drop, length-append, length-take, get_or-drop, get_or-take, get_or_past}
use Rattle.std.proofs.lemmas.Nat.{be_bytes_2, be_bytes_4, from_be_bytes-to_be_bytes_2, from_be_bytes-to_be_bytes_4}
use Rattle.origin_core.specs.Page.{is_page_text}
use Rattle.link_fields.specs.declared.fault.Flaw.{Flaw}
use Rattle.link_fields.specs.declared.fault.Flaw.TheVariants.{Short, Range, Text, Url}
use Rattle.link_fields.specs.declared.fault.Fault.{Fault}
use Rattle.link_fields.specs.Field.{Outcome, ◌>>=◌, fault_at, Field, nothing, ◌⊗◌, only, mapped, keyed}
use Rattle.link_fields.specs.Lawful.{IsBytes, Takes, IsLawful}
use Rattle.link_fields.specs.Basic.{number_bytes, number_at, number, u8, u16, u32, small, truth, some_spell, SomeFits, some_tag, present, optional, string_at, string, is_text, text, url, flags}

IsBytes-drop : (n : ℕ) (bytes : List ℕ) → IsBytes bytes → IsBytes (drop n bytes)
IsBytes-drop n bytes h i = rw get_or-drop (h (n + i))

pub IsBytes-take : (n : ℕ) (bytes : List ℕ) → IsBytes bytes → IsBytes (take n bytes)
IsBytes-take n bytes h i =
    elim (cases_lt i n) [
      | inl lt ↦ rw (get_or-take n bytes i 0 lt) (h i)
      | inr le ↦ rw (get_or_past (take n bytes) i 0 (omega (arith, length-take n bytes))) (omega arith)
    ]

-- the value of a step that did not fail
pub bind_ok : {A B : Type 0} (r : Outcome A) (f : A → Outcome B) (y : B) → (r >>= f) ≡ Ok y → (x : A) × (r ≡ Ok x) × (f x ≡ Ok y)
bind_ok (Ok x) f y e = (x, refl, e)
bind_ok (Err d) f y e = absurd cc

-- a test that did not fail
pub guard_ok : {A : Type 0} (b : Bool) (d : Fault) (x y : A) → cond b (Err d) (Ok x) ≡ Ok y → (b ≡ false) × (x ≡ y)
guard_ok true d x y e = absurd cc
guard_ok false d x y e = (refl, cc)

pub passed_ok : {A : Type 0} (b : Bool) (d : Fault) (x y : A) → cond b (Ok x) (Err d) ≡ Ok y → IsTrue b × (x ≡ y)
passed_ok true d x y e = (refl, cc)
passed_ok false d x y e = absurd cc

pub passes : {A : Type 0} (b : Bool) (d : Fault) (x : A) → IsTrue b → cond b (Ok x) (Err d) ≡ Ok x
passes true d x h = refl
passes false d x h = absurd cc

abbrev done : {A : Type 0} → A → Outcome A
done x = Ok x

pub ok_is : {A : Type 0} (x y : A) → done x ≡ done y → x ≡ y
ok_is x y e = cc

pub Takes-then : (a x b y c : List ℕ) → Takes a x b → Takes b y c → Takes a (x ++ y) c
Takes-then a x b y c p q = record { parts = p.parts ∙ ap (λ (t : List ℕ). x ++ t) q.parts ∙ sym (append_assoc x y c); rest_fits = q.rest_fits }

-- ---- the ways to make a field

pub nothing_law : {A : Type 0} (a : A) → IsLawful (nothing a)
nothing_law {A} a = record {
  takes = λ bytes x fits e. subst (λ (y : A × List ℕ). Takes bytes [] y.1 × (y.0 ≡ a)) (ok_is (a, bytes) x e) (record { parts = refl; rest_fits = fits }, refl);
  again = λ b rest h. ap (λ (c : A). Ok (c, rest)) (sym h);
}

pair_takes : {A B : Type 0} (f : Field A) (g : Field B) → IsLawful f → IsLawful g → (bytes : List ℕ) (x : (A × B) × List ℕ) → IsBytes bytes → (f ⊗ g).read bytes ≡ Ok x → Takes bytes ((f ⊗ g).spell x.0) x.1 × (f ⊗ g).Fits x.0
pair_takes {A} {B} f g lf lg bytes x fits e =
    let a = bind_ok (f.read bytes) (λ a. g.read a.1 >>= λ b. Ok ((a.0, b.0), b.1)) x e in
    let b = bind_ok (g.read a.0.1) (λ b. Ok ((a.0.0, b.0), b.1)) x a.2 in
    let s = lf.takes bytes a.0 fits a.1 in
    let t = lg.takes a.0.1 b.0 s.0.rest_fits b.1 in
    subst (λ (y : (A × B) × List ℕ). Takes bytes ((f ⊗ g).spell y.0) y.1 × (f ⊗ g).Fits y.0) (ok_is ((a.0.0, b.0.0), b.0.1) x b.2)
    (Takes-then bytes (f.spell a.0.0) a.0.1 (g.spell b.0.0) b.0.1 s.0 t.0, (s.1, t.1))

pair_again : {A B : Type 0} (f : Field A) (g : Field B) → IsLawful f → IsLawful g → (x : A × B) (rest : List ℕ) → (f ⊗ g).Fits x → (f ⊗ g).read ((f ⊗ g).spell x ++ rest) ≡ Ok (x, rest)
pair_again f g lf lg x rest h =
    rw (append_assoc (f.spell x.0) (g.spell x.1) rest, lf.again x.0 (g.spell x.1 ++ rest) h.0, lg.again x.1 rest h.1) refl

pub pair_law : {A B : Type 0} (f : Field A) (g : Field B) → IsLawful f → IsLawful g → IsLawful (f ⊗ g)
pair_law f g lf lg = record { takes = pair_takes f g lf lg; again = pair_again f g lf lg }

only_takes : {A : Type 0} (why : Flaw) (test : A → Bool) (f : Field A) → IsLawful f → (bytes : List ℕ) (x : A × List ℕ) → IsBytes bytes → (only why test f).read bytes ≡ Ok x → Takes bytes (f.spell x.0) x.1 × (f.Fits x.0 × IsTrue (test x.0))
only_takes {A} why test f lf bytes x fits e =
    let a = bind_ok (f.read bytes) (λ a. cond (test a.0) (Ok a) (Err (fault_at why bytes))) x e in
    let p = passed_ok (test a.0.0) (fault_at why bytes) a.0 x a.2 in
    let s = lf.takes bytes a.0 fits a.1 in
    subst (λ (y : A × List ℕ). Takes bytes (f.spell y.0) y.1 × (f.Fits y.0 × IsTrue (test y.0))) p.1 (s.0, (s.1, p.0))

only_again : {A : Type 0} (why : Flaw) (test : A → Bool) (f : Field A) → IsLawful f → (a : A) (rest : List ℕ) → (f.Fits a × IsTrue (test a)) → (only why test f).read (f.spell a ++ rest) ≡ Ok (a, rest)
only_again why test f lf a rest h = rw (lf.again a rest h.0) (passes (test a) (fault_at why (f.spell a ++ rest)) (a, rest) h.1)

pub only_law : {A : Type 0} (why : Flaw) (test : A → Bool) (f : Field A) → IsLawful f → IsLawful (only why test f)
only_law why test f lf = record { takes = only_takes why test f lf; again = only_again why test f lf }

mapped_takes : {A B : Type 0} (to : A → B) (from : B → A) (f : Field A) → ((a : A) → f.Fits a → from (to a) ≡ a) → IsLawful f → (bytes : List ℕ) (x : B × List ℕ) → IsBytes bytes → (mapped to from f).read bytes ≡ Ok x → Takes bytes (f.spell (from x.0)) x.1 × (f.Fits (from x.0) × (to (from x.0) ≡ x.0))
mapped_takes {A} {B} to from f back lf bytes x fits e =
    let a = bind_ok (f.read bytes) (λ a. Ok (to a.0, a.1)) x e in
    let s = lf.takes bytes a.0 fits a.1 in
    let here : Takes bytes (f.spell (from (to a.0.0))) a.0.1 × (f.Fits (from (to a.0.0)) × (to (from (to a.0.0)) ≡ to a.0.0)) =
    (subst (λ (v : A). Takes bytes (f.spell v) a.0.1) (sym (back a.0.0 s.1)) s.0, (subst f.Fits (sym (back a.0.0 s.1)) s.1, ap to (back a.0.0 s.1))) in
    subst (λ (y : B × List ℕ). Takes bytes (f.spell (from y.0)) y.1 × (f.Fits (from y.0) × (to (from y.0) ≡ y.0))) (ok_is (to a.0.0, a.0.1) x a.2) here

mapped_again : {A B : Type 0} (to : A → B) (from : B → A) (f : Field A) → IsLawful f → (b : B) (rest : List ℕ) → (f.Fits (from b) × (to (from b) ≡ b)) → (mapped to from f).read (f.spell (from b) ++ rest) ≡ Ok (b, rest)
mapped_again {A} {B} to from f lf b rest h = rw (lf.again (from b) rest h.0) (ap (λ (c : B). Ok (c, rest)) h.1)

pub mapped_law : {A B : Type 0} (to : A → B) (from : B → A) (f : Field A) → ((a : A) → f.Fits a → from (to a) ≡ a) → IsLawful f → IsLawful (mapped to from f)
mapped_law to from f back lf = record { takes = mapped_takes to from f back lf; again = mapped_again to from f lf }

keyed_takes : {A B : Type 0} (key : B → A) (f : Field A) (g : A → Field B) → IsLawful f → ((a : A) → IsLawful (g a)) → ((a : A) (b : B) → f.Fits a → (g a).Fits b → key b ≡ a) → (bytes : List ℕ) (x : B × List ℕ) → IsBytes bytes → (keyed key f g).read bytes ≡ Ok x → Takes bytes ((keyed key f g).spell x.0) x.1 × (keyed key f g).Fits x.0
keyed_takes {A} {B} key f g lf lg keys bytes x fits e =
    let a = bind_ok (f.read bytes) (λ a. (g a.0).read a.1) x e in
    let s = lf.takes bytes a.0 fits a.1 in
    let t = (lg a.0.0).takes a.0.1 x s.0.rest_fits a.2 in
    let k : a.0.0 ≡ key x.0 = sym (keys a.0.0 x.0 s.1 t.1) in
    subst (λ (v : A). Takes bytes (f.spell v ++ (g v).spell x.0) x.1 × (f.Fits v × (g v).Fits x.0)) k
    (Takes-then bytes (f.spell a.0.0) a.0.1 ((g a.0.0).spell x.0) x.1 s.0 t.0, (s.1, t.1))

keyed_again : {A B : Type 0} (key : B → A) (f : Field A) (g : A → Field B) → IsLawful f → ((a : A) → IsLawful (g a)) → (b : B) (rest : List ℕ) → (keyed key f g).Fits b → (keyed key f g).read ((keyed key f g).spell b ++ rest) ≡ Ok (b, rest)
keyed_again key f g lf lg b rest h =
    rw (append_assoc (f.spell (key b)) ((g (key b)).spell b) rest, lf.again (key b) ((g (key b)).spell b ++ rest) h.0) ((lg (key b)).again b rest h.1)

pub keyed_law : {A B : Type 0} (key : B → A) (f : Field A) (g : A → Field B) → IsLawful f → ((a : A) → IsLawful (g a)) → ((a : A) (b : B) → f.Fits a → (g a).Fits b → key b ≡ a) → IsLawful (keyed key f g)
keyed_law key f g lf lg keys = record { takes = keyed_takes key f g lf lg keys; again = keyed_again key f g lf lg }

-- ---- numbers

pub record IsWide (w : Width) (limit : ℕ) : Type 0 where
  pub len : (n : ℕ) → length (to_be_bytes w n) ≡ byte_len w
  pub back : (bytes : List ℕ) → length bytes ≡ byte_len w → IsBytes bytes → to_be_bytes w (from_be_bytes w bytes) ≡ bytes
  pub again : (n : ℕ) → n < limit → from_be_bytes w (to_be_bytes w n) ≡ n
  pub below : (bytes : List ℕ) → IsBytes bytes → from_be_bytes w bytes < limit

be_bytes_1 : (bytes : List ℕ) → length bytes ≡ 1 → IsBytes bytes → to_be_bytes w8 (from_be_bytes w8 bytes) ≡ bytes
be_bytes_1 [] len fits = absurd (omega arith)
be_bytes_1 (b ∷ []) len fits = let lt : b < 256 = fits 0 in grind arith
be_bytes_1 (b ∷ c ∷ bs) len fits = absurd (omega arith)

pub wide8 : IsWide w8 (2 ^ 8)
wide8 = record {
  len = λ n. refl;
  back = be_bytes_1;
  again = λ n lt. grind arith;
  below = λ bytes fits. omega (arith, fits 0);
}

pub wide16 : IsWide w16 (2 ^ 16)
wide16 = record {
  len = λ n. refl;
  back = λ bytes len fits. be_bytes_2 bytes _ len fits refl;
  again = λ n lt. from_be_bytes-to_be_bytes_2 n lt;
  below = λ bytes fits. omega (arith, fits 0, fits 1);
}

pub wide32 : IsWide w32 (2 ^ 32)
wide32 = record {
  len = λ n. refl;
  back = λ bytes len fits. be_bytes_4 bytes _ len fits refl;
  again = λ n lt. from_be_bytes-to_be_bytes_4 n lt;
  below = λ bytes fits. omega (arith, fits 0, fits 1, fits 2, fits 3);
}

number_takes : (w : Width) (limit : ℕ) (wide : IsWide w limit) (bytes : List ℕ) (x : ℕ × List ℕ) → IsBytes bytes → number_at w bytes ≡ Ok x → Takes bytes (number_bytes w x.0) x.1 × (x.0 < limit)
unfolding number_at number_bytes
number_takes w limit wide bytes x fits e =
    let g = guard_ok (ltb (length bytes) (byte_len w)) (fault_at Short bytes) (from_be_bytes w (take (byte_len w) bytes), drop (byte_len w) bytes) x e in
    let long : byte_len w ≤ length bytes = ltb-false _ _ g.0 in
    let n-is : from_be_bytes w (take (byte_len w) bytes) ≡ x.0 = ap (λ (p : ℕ × List ℕ). p.0) g.1 in
    let rest-is : drop (byte_len w) bytes ≡ x.1 = ap (λ (p : ℕ × List ℕ). p.1) g.1 in
    let front : to_be_bytes w x.0 ≡ take (byte_len w) bytes = rw (← n-is) (wide.back (take (byte_len w) bytes) (omega (arith, length-take (byte_len w) bytes)) (IsBytes-take (byte_len w) bytes fits)) in
    (record { parts = rw (front, ← rest-is) (sym (take-append-drop (byte_len w) bytes)); rest_fits = rw (← rest-is) (IsBytes-drop (byte_len w) bytes fits) }, rw (← n-is) (wide.below (take (byte_len w) bytes) (IsBytes-take (byte_len w) bytes fits)))

number_again : (w : Width) (limit : ℕ) (wide : IsWide w limit) (n : ℕ) (rest : List ℕ) → n < limit → number_at w (number_bytes w n ++ rest) ≡ Ok (n, rest)
unfolding number_at number_bytes
number_again w limit wide n rest lt =
    let len = wide.len n in
    let long : ltb (length (to_be_bytes w n ++ rest)) (byte_len w) ≡ false = le-ltb _ _ (omega (arith, length-append (to_be_bytes w n) rest)) in
    rw (long, take_at (to_be_bytes w n) rest (byte_len w) len, drop_at (to_be_bytes w n) rest (byte_len w) len, wide.again n lt) refl

pub number_law : (w : Width) (limit : ℕ) (wide : IsWide w limit) → IsLawful (number w limit)
number_law w limit wide = record { takes = number_takes w limit wide; again = number_again w limit wide }

pub u8_law : IsLawful u8
u8_law = number_law w8 (2 ^ 8) wide8

pub u16_law : IsLawful u16
u16_law = number_law w16 (2 ^ 16) wide16

pub u32_law : IsLawful u32
u32_law = number_law w32 (2 ^ 32) wide32

pub small_law : (most : ℕ) → IsLawful (small most)
small_law most = only_law Range (λ n. nat_le n most) u8 u8_law

-- ---- options

present_takes : {A : Type 0} (f : Field A) → IsLawful f → (bytes : List ℕ) (x : Option A × List ℕ) → IsBytes bytes → (present f).read bytes ≡ Ok x → Takes bytes ((present f).spell x.0) x.1 × (present f).Fits x.0
present_takes {A} f lf bytes x fits e =
    let a = bind_ok (f.read bytes) (λ a. Ok (Some a.0, a.1)) x e in
    subst (λ (y : Option A × List ℕ). Takes bytes (some_spell f y.0) y.1 × SomeFits f y.0) (ok_is (Some a.0.0, a.0.1) x a.2) (lf.takes bytes a.0 fits a.1)

present_again : {A : Type 0} (f : Field A) → IsLawful f → (o : Option A) (rest : List ℕ) → (present f).Fits o → (present f).read ((present f).spell o ++ rest) ≡ Ok (o, rest)
present_again f lf None rest h = absurd h
present_again f lf (Some a) rest h = rw (lf.again a rest h) refl

pub present_law : {A : Type 0} (f : Field A) → IsLawful f → IsLawful (present f)
present_law f lf = record { takes = present_takes f lf; again = present_again f lf }

by_tag_law : {A : Type 0} (f : Field A) → IsLawful f → (b : Bool) → IsLawful (cond b (nothing None) (present f))
by_tag_law f lf true = nothing_law None
by_tag_law f lf false = present_law f lf

pub at_most : (n m : ℕ) → IsTrue (nat_le n m) → n ≤ m
at_most n m h = grind (arith, nat_tests)

tag_is : {A : Type 0} (f : Field A) (tag : ℕ) (o : Option A) → (small 1).Fits tag → (cond (eqb tag 0) (nothing None) (present f)).Fits o → some_tag o ≡ tag
tag_is f zero o s h = ap some_tag h
tag_is f (suc zero) None s h = absurd h
tag_is f (suc zero) (Some a) s h = refl
tag_is f (suc (suc n)) o s h = let le = at_most (suc (suc n)) 1 s.1 in absurd (omega arith)

pub optional_law : {A : Type 0} (f : Field A) → IsLawful f → IsLawful (optional f)
optional_law f lf = keyed_law some_tag (small 1) (λ tag. cond (eqb tag 0) (nothing None) (present f)) (small_law 1) (λ tag. by_tag_law f lf (eqb tag 0)) (tag_is f)

-- ---- truth values

abbrev number_of : Bool → ℕ
number_of b = cond b 1 0

one_or_none : (n : ℕ) → IsTrue (nat_le n 1) → number_of (eqb n 1) ≡ n
one_or_none zero h = refl
one_or_none (suc zero) h = refl
one_or_none (suc (suc n)) h = let le = at_most (suc (suc n)) 1 h in absurd (omega arith)

pub truth_law : IsLawful truth
truth_law = mapped_law (λ n. eqb n 1) number_of (small 1) (λ n h. one_or_none n h.1) (small_law 1)

-- ---- texts

string_takes : (bytes : List ℕ) (x : List ℕ × List ℕ) → IsBytes bytes → string_at bytes ≡ Ok x → Takes bytes (string.spell x.0) x.1 × (length x.0 < 2 ^ 16)
unfolding string_at
string_takes bytes x fits e =
    let b = bind_ok (number_at w16 bytes) (λ n. cond (ltb (length n.1) n.0) (Err (fault_at Short bytes)) (Ok (take n.0 n.1, drop n.0 n.1))) x e in
    let n = b.0 in
    let t = number_takes w16 (2 ^ 16) wide16 bytes n fits b.1 in
    let g = guard_ok (ltb (length n.1) n.0) (fault_at Short bytes) (take n.0 n.1, drop n.0 n.1) x b.2 in
    let long : n.0 ≤ length n.1 = ltb-false _ _ g.0 in
    let len : length (take n.0 n.1) ≡ n.0 = omega (arith, length-take n.0 n.1) in
    let second : Takes n.1 (take n.0 n.1) (drop n.0 n.1) = record { parts = sym (take-append-drop n.0 n.1); rest_fits = IsBytes-drop n.0 n.1 t.0.rest_fits } in
    let both = Takes-then bytes (number_bytes w16 n.0) n.1 (take n.0 n.1) (drop n.0 n.1) t.0 second in
    let whole : Takes bytes (string.spell (take n.0 n.1)) (drop n.0 n.1) = subst (λ (k : ℕ). Takes bytes (number_bytes w16 k ++ take n.0 n.1) (drop n.0 n.1)) (sym len) both in
    subst (λ (p : List ℕ × List ℕ). Takes bytes (string.spell p.0) p.1 × (length p.0 < 2 ^ 16)) g.1 (whole, omega (arith, t.1))

string_again : (text rest : List ℕ) → length text < 2 ^ 16 → string_at (string.spell text ++ rest) ≡ Ok (text, rest)
unfolding string_at
string_again text rest lt =
    let long : ltb (length (text ++ rest)) (length text) ≡ false = le-ltb _ _ (omega (arith, length-append text rest)) in
    rw (append_assoc (number_bytes w16 (length text)) text rest, number_again w16 (2 ^ 16) wide16 (length text) (text ++ rest) lt, long, take_at text rest (length text) refl, drop_at text rest (length text) refl) refl

pub string_law : IsLawful string
string_law = record { takes = string_takes; again = string_again }

pub text_law : IsLawful text
text_law = only_law Text is_text string string_law

pub url_law : IsLawful url
url_law = only_law Url is_page_text text text_law

pub flags_law : IsLawful flags
flags_law = only_law Range (λ n. nat_lt n 256) u16 u16_law
