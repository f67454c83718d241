-- Data: what is read is spelled so, and what is spelled so is read.
use Rattle.std.proofs.Common.{◌≡◌, ℕ, pos, negsuc, zero, suc, ◌-◌, ◌^◌, ◌<◌, Bool, true, false, cond, ltb, eqb, List, [], ◌∷◌, ◌++◌, length, Option, Some, None, Ok, refl, sym, ap, subst, ◌∙◌, append_assoc, arith, rules}
use Rattle.std.specs.List.{flat_map, AllByRecursion}
use Rattle.std.specs.Int.{w64}
use Rattle.std.proofs.lemmas.Bool.{eqb-true}
use Rattle.std.proofs.lemmas.List.Concat.{flat_map-cons}
use Rattle.std.proofs.lemmas.Nat.{be_bytes_8, from_be_bytes-to_be_bytes_8}
use Rattle.plain_data.specs.declared.data.Data.{out-Data, roll-Data, the_lemmas}
use Rattle.plain_data.specs.declared.data.Data.TheOpen.{Data-F}
use Rattle.link_fields.specs.declared.fault.Flaw.TheVariants.{Range}
use Rattle.link_fields.specs.Field.{◌>>=◌, Field, ◌⊗◌, mapped, never, row}
use Rattle.link_fields.specs.Basic.{u16, u64, small, text}
use Rattle.link_fields.specs.Values.{whole_of, word_of, is_exact, whole, items_at, counted, is_after, key_after, member, members_at, MembersFit, ascending, tag_of, inside, level_row, level, value}
use Rattle.link_fields.specs.Lawful.{IsBytes, Takes, IsLawful}
use Rattle.link_fields.proofs.FieldLaws.{bind_ok, ok_is, Takes-then, nothing_law, pair_law, only_law, mapped_law, keyed_law, IsWide, number_law, u16_law, small_law, text_law}

pub never_law : {A : Type 0} (why : _) → IsLawful (never {A = A} why)
never_law {A} why = record {
  takes = λ bytes x fits e. absurd cc;
  again = λ a rest h. absurd h;
}

-- ---- variants

row_takes : {A B : Type 0} (body : B → List ℕ) (make : A → B) (f : Field A) → IsLawful f → ((a : A) → body (make a) ≡ f.spell a) → (bytes : List ℕ) (x : B × List ℕ) → IsBytes bytes → (row body make f).read bytes ≡ Ok x → Takes bytes (body x.0) x.1 × (row body make f).Fits x.0
row_takes {A} {B} body make f lf spells bytes x fits e =
    let a = bind_ok (f.read bytes) (λ a. Ok (make a.0, a.1)) x e in
    let s = lf.takes bytes a.0 fits a.1 in
    subst (λ (y : B × List ℕ). Takes bytes (body y.0) y.1 × (row body make f).Fits y.0) (ok_is (make a.0.0, a.0.1) x a.2)
    (subst (λ (t : List ℕ). Takes bytes t a.0.1) (sym (spells a.0.0)) s.0, (a.0.0, s.1, refl))

row_again : {A B : Type 0} (body : B → List ℕ) (make : A → B) (f : Field A) → IsLawful f → ((a : A) → body (make a) ≡ f.spell a) → (b : B) (rest : List ℕ) → (row body make f).Fits b → (row body make f).read (body b ++ rest) ≡ Ok (b, rest)
row_again {A} {B} body make f lf spells b rest h =
    let read : (row body make f).read (body (make h.0) ++ rest) ≡ Ok (make h.0, rest) = rw (spells h.0, lf.again h.0 rest h.1) refl in
    subst (λ (c : B). (row body make f).read (body c ++ rest) ≡ Ok (c, rest)) h.2 read

pub row_law : {A B : Type 0} (body : B → List ℕ) (make : A → B) (f : Field A) → IsLawful f → ((a : A) → body (make a) ≡ f.spell a) → IsLawful (row body make f)
row_law body make f lf spells = record { takes = row_takes body make f lf spells; again = row_again body make f lf spells }

pub either_law : {A : Type 0} (b : Bool) (f g : Field A) → IsLawful f → IsLawful g → IsLawful (cond b f g)
either_law true f g lf lg = lf
either_law false f g lf lg = lg

by_test : {A : Type 0} (key : A → ℕ) (tag n : ℕ) (f g : Field A) (a : A) → (f.Fits a → key a ≡ n) → (g.Fits a → key a ≡ tag) → (b : Bool) → eqb tag n ≡ b → (cond b f g).Fits a → key a ≡ tag
by_test key tag n f g a here otherwise true e h = here h ∙ sym (eqb-true tag n e)
by_test key tag n f g a here otherwise false e h = otherwise h

-- the key of a value in one of two rows
pub either_key : {A : Type 0} (key : A → ℕ) (tag n : ℕ) (f g : Field A) (a : A) → (f.Fits a → key a ≡ n) → (g.Fits a → key a ≡ tag) → (cond (eqb tag n) f g).Fits a → key a ≡ tag
either_key key tag n f g a here otherwise h = by_test key tag n f g a here otherwise (eqb tag n) refl h

-- ---- whole numbers

pub wide64 : IsWide w64 (2 ^ 64)
wide64 = record {
  len = λ n. refl;
  back = λ bytes len fits. be_bytes_8 bytes _ len fits refl;
  again = λ n lt. from_be_bytes-to_be_bytes_8 n lt;
  below = λ bytes fits. omega (arith, fits 0, fits 1, fits 2, fits 3, fits 4, fits 5, fits 6, fits 7);
}

pub u64_law : IsLawful u64
u64_law = number_law w64 (2 ^ 64) wide64

by_half : (b : Bool) (n : ℕ) → n < 2 ^ 64 → word_of (cond b (pos n) (negsuc (2 ^ 64 - 1 - n))) ≡ n
by_half true n lt = refl
by_half false n lt = omega arith

word_again : (n : ℕ) → n < 2 ^ 64 → word_of (whole_of n) ≡ n
word_again n lt = by_half (ltb n (2 ^ 63)) n lt

pub whole_law : IsLawful whole
whole_law = only_law Range is_exact (mapped whole_of word_of u64) (mapped_law whole_of word_of u64 word_again u64_law)

-- ---- lists

items_takes : {A : Type 0} (f : Field A) → IsLawful f → (n : ℕ) (bytes : List ℕ) (x : List A × List ℕ) → IsBytes bytes → items_at f.read n bytes ≡ Ok x → Takes bytes (flat_map f.spell x.0) x.1 × AllByRecursion f.Fits x.0 × (length x.0 ≡ n)
unfolding items_at
items_takes {A} f lf zero bytes x fits e =
    subst (λ (y : List A × List ℕ). Takes bytes (flat_map f.spell y.0) y.1 × AllByRecursion f.Fits y.0 × (length y.0 ≡ 0)) (ok_is ([], bytes) x e) (record { parts = refl; rest_fits = fits }, tt, refl)
items_takes {A} f lf (suc n) bytes x fits e =
    let a = bind_ok (f.read bytes) (λ a. items_at f.read n a.1 >>= λ as'. Ok (a.0 ∷ as'.0, as'.1)) x e in
    let b = bind_ok (items_at f.read n a.0.1) (λ as'. Ok (a.0.0 ∷ as'.0, as'.1)) x a.2 in
    let s = lf.takes bytes a.0 fits a.1 in
    let t = items_takes f lf n a.0.1 b.0 s.0.rest_fits b.1 in
    subst (λ (y : List A × List ℕ). Takes bytes (flat_map f.spell y.0) y.1 × AllByRecursion f.Fits y.0 × (length y.0 ≡ suc n)) (ok_is (a.0.0 ∷ b.0.0, b.0.1) x b.2)
    (subst (λ (t : List ℕ). Takes bytes t b.0.1) (sym (flat_map-cons f.spell a.0.0 b.0.0)) (Takes-then bytes (f.spell a.0.0) a.0.1 (flat_map f.spell b.0.0) b.0.1 s.0 t.0), (s.1, t.1), omega arith)

items_again : {A : Type 0} (f : Field A) → IsLawful f → (xs : List A) (rest : List ℕ) → AllByRecursion f.Fits xs → items_at f.read (length xs) (flat_map f.spell xs ++ rest) ≡ Ok (xs, rest)
unfolding items_at
items_again f lf [] rest h = refl
items_again f lf (x ∷ xs) rest h =
    rw (flat_map-cons f.spell x xs, append_assoc (f.spell x) (flat_map f.spell xs) rest, lf.again x (flat_map f.spell xs ++ rest) h.0, items_again f lf xs rest h.1) refl

pub counted_law : {A : Type 0} (count : Field ℕ) (f : Field A) → IsLawful count → IsLawful f → IsLawful (counted count f)
counted_law {A} count f lc lf = record {
  takes = λ bytes x fits e.
      (let n = bind_ok (count.read bytes) (λ n. items_at f.read n.0 n.1) x e in
      let s = lc.takes bytes n.0 fits n.1 in
      let t = items_takes f lf n.0.0 n.0.1 x s.0.rest_fits n.2 in
      (subst (λ (k : ℕ). Takes bytes (count.spell k ++ flat_map f.spell x.0) x.1) (sym t.2) (Takes-then bytes (count.spell n.0.0) n.0.1 (flat_map f.spell x.0) x.1 s.0 t.0), (subst count.Fits (sym t.2) s.1, t.1)));
  again = λ xs rest h.
      rw (append_assoc (count.spell (length xs)) (flat_map f.spell xs) rest, lc.again (length xs) (flat_map f.spell xs ++ rest) h.0) (items_again f lf xs rest h.1);
}

-- ---- records

member_law : {A : Type 0} (f : Field A) → IsLawful f → (before : Option (List ℕ)) → IsLawful (member f before)
member_law f lf before = pair_law (key_after before) f (only_law Range (is_after before) text text_law) lf

members_takes : {A : Type 0} (f : Field A) → IsLawful f → (n : ℕ) (before : Option (List ℕ)) (bytes : List ℕ) (x : List (List ℕ × A) × List ℕ) → IsBytes bytes → members_at f n before bytes ≡ Ok x → Takes bytes (flat_map (text ⊗ f).spell x.0) x.1 × MembersFit f before x.0 × (length x.0 ≡ n)
unfolding members_at
members_takes {A} f lf zero before bytes x fits e =
    subst (λ (y : List (List ℕ × A) × List ℕ). Takes bytes (flat_map (text ⊗ f).spell y.0) y.1 × MembersFit f before y.0 × (length y.0 ≡ 0)) (ok_is ([], bytes) x e) (record { parts = refl; rest_fits = fits }, tt, refl)
members_takes {A} f lf (suc n) before bytes x fits e =
    let a = bind_ok ((member f before).read bytes) (λ m. members_at f n (Some m.0.0) m.1 >>= λ ms. Ok (m.0 ∷ ms.0, ms.1)) x e in
    let b = bind_ok (members_at f n (Some a.0.0.0) a.0.1) (λ ms. Ok (a.0.0 ∷ ms.0, ms.1)) x a.2 in
    let s = (member_law f lf before).takes bytes a.0 fits a.1 in
    let t = members_takes f lf n (Some a.0.0.0) a.0.1 b.0 s.0.rest_fits b.1 in
    subst (λ (y : List (List ℕ × A) × List ℕ). Takes bytes (flat_map (text ⊗ f).spell y.0) y.1 × MembersFit f before y.0 × (length y.0 ≡ suc n)) (ok_is (a.0.0 ∷ b.0.0, b.0.1) x b.2)
    (subst (λ (t : List ℕ). Takes bytes t b.0.1) (sym (flat_map-cons (text ⊗ f).spell a.0.0 b.0.0)) (Takes-then bytes ((text ⊗ f).spell a.0.0) a.0.1 (flat_map (text ⊗ f).spell b.0.0) b.0.1 s.0 t.0), (s.1, t.1), omega arith)

members_step : {A : Type 0} (f : Field A) (n : ℕ) (before : Option (List ℕ)) (bytes : List ℕ) (m : List ℕ × A) (after : List ℕ) (ms : List (List ℕ × A)) (rest : List ℕ) → (member f before).read bytes ≡ Ok (m, after) → members_at f n (Some m.0) after ≡ Ok (ms, rest) → members_at f (suc n) before bytes ≡ Ok (m ∷ ms, rest)
unfolding members_at
members_step f n before bytes m after ms rest h t = rw (h, t) refl

members_again : {A : Type 0} (f : Field A) → IsLawful f → (ms : List (List ℕ × A)) (before : Option (List ℕ)) (rest : List ℕ) → MembersFit f before ms → members_at f (length ms) before (flat_map (text ⊗ f).spell ms ++ rest) ≡ Ok (ms, rest)
unfolding members_at
members_again f lf [] before rest h = refl
members_again {A} f lf (m ∷ ms) before rest h =
    let spell : List ℕ × A → List ℕ = (text ⊗ f).spell in
    let after = flat_map spell ms ++ rest in
    let regrouped : flat_map spell (m ∷ ms) ++ rest ≡ spell m ++ after = ap (λ t. t ++ rest) (flat_map-cons spell m ms) ∙ append_assoc (spell m) (flat_map spell ms) rest in
    ap (members_at f (suc (length ms)) before) regrouped ∙ members_step f (length ms) before (spell m ++ after) m after ms rest ((member_law f lf before).again m after h.0) (members_again f lf ms (Some m.0) rest h.1)

pub ascending_law : {A : Type 0} (f : Field A) → IsLawful f → IsLawful (ascending f)
ascending_law {A} f lf = record {
  takes = λ bytes x fits e.
      (let n = bind_ok (u16.read bytes) (λ n. members_at f n.0 None n.1) x e in
      let s = u16_law.takes bytes n.0 fits n.1 in
      let t = members_takes f lf n.0.0 None n.0.1 x s.0.rest_fits n.2 in
      (subst (λ (k : ℕ). Takes bytes (u16.spell k ++ flat_map (text ⊗ f).spell x.0) x.1) (sym t.2) (Takes-then bytes (u16.spell n.0.0) n.0.1 (flat_map (text ⊗ f).spell x.0) x.1 s.0 t.0), (subst u16.Fits (sym t.2) s.1, t.1)));
  again = λ ms rest h.
      rw (append_assoc (u16.spell (length ms)) (flat_map (text ⊗ f).spell ms) rest, u16_law.again (length ms) (flat_map (text ⊗ f).spell ms ++ rest) h.0) (members_again f lf ms None rest h.1);
}

-- ---- one level, and data

level_row_law : {A : Type 0} (f : Field A) → IsLawful f → (tag : ℕ) → IsLawful (level_row f tag)
level_row_law {A} f lf tag =
    either_law (eqb tag 0) _ _ (nothing_law Data-F.Undefined)
    (either_law (eqb tag 1) _ _ (nothing_law Data-F.Null)
    (either_law (eqb tag 2) _ _ (nothing_law (Data-F.Truth false))
    (either_law (eqb tag 3) _ _ (nothing_law (Data-F.Truth true))
    (either_law (eqb tag 4) _ _ (row_law (inside f) (λ z. Data-F.Whole z) whole whole_law (λ z. refl))
    (either_law (eqb tag 5) _ _ (row_law (inside f) (λ s. Data-F.Text s) text text_law (λ s. refl))
    (either_law (eqb tag 6) _ _ (row_law (inside f) (λ xs. Data-F.List xs) (counted u16 f) (counted_law u16 f u16_law lf) (λ xs. refl))
    (either_law (eqb tag 7) _ _ (row_law (inside f) (λ ms. Data-F.Record ms) (ascending f) (ascending_law f lf) (λ ms. refl))
    (never_law Range))))))))

level_key : {A : Type 0} (f : Field A) (tag : ℕ) (d : Data-F A) → (small 7).Fits tag → (level_row f tag).Fits d → tag_of d ≡ tag
level_key {A} f tag d s =
    either_key tag_of tag 0 _ _ d (λ h. ap tag_of h)
    (either_key tag_of tag 1 _ _ d (λ h. ap tag_of h)
    (either_key tag_of tag 2 _ _ d (λ h. ap tag_of h)
    (either_key tag_of tag 3 _ _ d (λ h. ap tag_of h)
    (either_key tag_of tag 4 _ _ d (λ h. ap tag_of (sym h.2))
    (either_key tag_of tag 5 _ _ d (λ h. ap tag_of (sym h.2))
    (either_key tag_of tag 6 _ _ d (λ h. ap tag_of (sym h.2))
    (either_key tag_of tag 7 _ _ d (λ h. ap tag_of (sym h.2))
    (λ h. absurd h))))))))

level_law : {A : Type 0} (f : Field A) → IsLawful f → IsLawful (level f)
level_law f lf = keyed_law tag_of (small 7) (level_row f) (small_law 7) (level_row_law f lf) (level_key f)

pub value_law : (n : ℕ) → IsLawful (value n)
unfolding value
value_law zero = never_law Range
value_law (suc n) = mapped_law roll-Data out-Data (level (value n)) (λ d h. search (rules, the_lemmas)) (level_law (value n) (value_law n))
