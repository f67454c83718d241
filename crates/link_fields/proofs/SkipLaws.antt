-- Skipping data by what is due is reading it.
use Rattle.std.proofs.Common.{◌≡◌, ℕ, zero, suc, ◌-◌, ◌<◌, ◌≤◌, Bool, true, false, cond, eqb, nat_lt, List, [], ◌∷◌, ◌++◌, length, map, Option, Some, None, Ok, Err, refl, sym, ap, subst, ◌∙◌, arith}
use Rattle.std.specs.Prelude.{reverse}
use Rattle.plain_data.specs.declared.data.Data.{Data, roll-Data}
use Rattle.plain_data.specs.declared.data.Data.TheOpen.{Data-F}
use Rattle.link_fields.specs.declared.fault.Flaw.TheVariants.{Range}
use Rattle.link_fields.specs.declared.fault.ReadError.{ReadError}
use Rattle.link_fields.specs.declared.fault.ReadError.TheVariants as errors
use Rattle.link_fields.specs.Field.{Outcome, ◌>>=◌, Fails, Field}
use Rattle.link_fields.specs.Basic.{number_bytes, u16, small, text}
use Rattle.link_fields.specs.Values.{whole, items_at, is_after, key_after, members_at, level_row, value}
use Rattle.link_fields.specs.Skipping.{rest_of, Due, next_key, parts_rest, head_behind, head_at, opened, due, with_opened, behind_part, with_rest, step_at, due_of, stacked, AreDeep}
use Rattle.link_fields.specs.declared.skipping.Open.{Open}
use Rattle.link_fields.specs.Lawful.{IsBytes, IsLawful}
use Rattle.link_fields.proofs.FieldLaws.{bind_ok, only_law, small_law, u16_law, text_law}
use Rattle.link_fields.proofs.ValueLaws.{whole_law}
use Rattle.std.proofs.lemmas.Bool.{ltb-false}
use Rattle.std.proofs.lemmas.List.{length-append, map-append, reverse-append}

pub bind_assoc : {A B C : Type 0} (r : Outcome A) (f : A → Outcome B) (g : B → Outcome C) → (r >>= f) >>= g ≡ r >>= λ a. f a >>= g
bind_assoc (Ok a) f g = refl
bind_assoc (Err e) f g = refl

pub bind_same : {A B : Type 0} (r : Outcome A) (f g : A → Outcome B) → ((a : A) → f a ≡ g a) → (r >>= f) ≡ (r >>= g)
bind_same (Ok a) f g h = h a
bind_same (Err e) f g h = refl

-- ---- the parts of a list and of a record

pub items_rest : (f : Field Data) (n : ℕ) (before : Option (List ℕ)) (bytes : List ℕ) → parts_rest f n false before bytes ≡ rest_of (items_at f.read n bytes)
unfolding parts_rest items_at
items_rest f zero before bytes = refl
items_rest f (suc n) before bytes =
    bind_assoc (f.read bytes) (λ x. Ok x.1) (λ rest. parts_rest f n false None rest)
    ∙ bind_same (f.read bytes) _ _ (λ a. items_rest f n None a.1 ∙ sym (bind_assoc (items_at f.read n a.1) (λ as'. Ok (a.0 ∷ as'.0, as'.1)) (λ x. Ok x.1)))
    ∙ sym (bind_assoc (f.read bytes) (λ a. items_at f.read n a.1 >>= λ as'. Ok (a.0 ∷ as'.0, as'.1)) (λ x. Ok x.1))

abbrev some_key : Outcome (List ℕ × List ℕ) → Outcome (Option (List ℕ) × List ℕ)
some_key key = key >>= λ k. Ok (Some k.0, k.1)

abbrev paired : List ℕ → Outcome (Data × List ℕ) → Outcome ((List ℕ × Data) × List ℕ)
paired key v = v >>= λ b. Ok ((key, b.0), b.1)

value_rest : (f : Field Data) (n : ℕ) (k : List ℕ × List ℕ) (v : Outcome (Data × List ℕ)) → ((before : Option (List ℕ)) (bytes : List ℕ) → parts_rest f n true before bytes ≡ rest_of (members_at f n before bytes))
    → (rest_of v >>= λ rest. parts_rest f n true (Some k.0) rest) ≡ rest_of ((paired k.0 v) >>= λ m. members_at f n (Some m.0.0) m.1 >>= λ ms. Ok (m.0 ∷ ms.0, ms.1))
value_rest f n k (Err e) h = refl
value_rest f n k (Ok v) h = h (Some k.0) v.1 ∙ sym (bind_assoc (members_at f n (Some k.0) v.1) (λ ms. Ok ((k.0, v.0) ∷ ms.0, ms.1)) (λ x. Ok x.1))

-- one member, by its key and its value
member_rest : (f : Field Data) (n : ℕ) (key : Outcome (List ℕ × List ℕ)) → ((before : Option (List ℕ)) (bytes : List ℕ) → parts_rest f n true before bytes ≡ rest_of (members_at f n before bytes))
    → (some_key key >>= λ k. rest_of (f.read k.1) >>= λ rest. parts_rest f n true k.0 rest) ≡ rest_of ((key >>= λ a. paired a.0 (f.read a.1)) >>= λ m. members_at f n (Some m.0.0) m.1 >>= λ ms. Ok (m.0 ∷ ms.0, ms.1))
member_rest f n (Err e) h = refl
member_rest f n (Ok k) h = value_rest f n k (f.read k.1) h

pub members_rest : (f : Field Data) (n : ℕ) (before : Option (List ℕ)) (bytes : List ℕ) → parts_rest f n true before bytes ≡ rest_of (members_at f n before bytes)
unfolding parts_rest members_at
members_rest f zero before bytes = refl
members_rest f (suc n) before bytes = member_rest f n ((key_after before).read bytes) (members_rest f n)

-- ---- one value, by its head

-- a row of the table of tags
abbrev SameRest : {A : Type 0} → Field Data → Outcome (A × List ℕ) → Outcome (Option (ℕ × Bool) × List ℕ) → Type 0
SameRest f read head = rest_of read ≡ head >>= λ h. opened f h.0 h.1

by_row : {A : Type 0} (f : Field Data) (b : Bool) (g k : Field A) (x y : Outcome (Option (ℕ × Bool) × List ℕ)) (bytes : List ℕ) → SameRest f (g.read bytes) x → SameRest f (k.read bytes) y → SameRest f ((cond b g k).read bytes) (cond b x y)
by_row f true g k x y bytes p q = p
by_row f false g k x y bytes p q = q

-- a row without parts
scalar : {A B : Type 0} (f : Field Data) (make : A → B) (read : Outcome (A × List ℕ)) → SameRest f (read >>= λ a. Ok (make a.0, a.1)) (read >>= λ x. Ok (None, x.1))
scalar f make (Ok a) = refl
scalar f make (Err e) = refl

list_row : (f : Field Data) (count : Outcome (ℕ × List ℕ)) → SameRest f ((count >>= λ n. items_at f.read n.0 n.1) >>= λ a. Ok (Data-F.List a.0, a.1)) (count >>= λ n. Ok (Some (n.0, false), n.1))
list_row f (Err e) = refl
list_row f (Ok n) = bind_assoc (items_at f.read n.0 n.1) (λ a. Ok (Data-F.List a.0, a.1)) (λ x. Ok x.1) ∙ sym (items_rest f n.0 None n.1)

record_row : (f : Field Data) (count : Outcome (ℕ × List ℕ)) → SameRest f ((count >>= λ n. members_at f n.0 None n.1) >>= λ a. Ok (Data-F.Record a.0, a.1)) (count >>= λ n. Ok (Some (n.0, true), n.1))
record_row f (Err e) = refl
record_row f (Ok n) = bind_assoc (members_at f n.0 None n.1) (λ a. Ok (Data-F.Record a.0, a.1)) (λ x. Ok x.1) ∙ sym (members_rest f n.0 None n.1)

level_rest : (f : Field Data) (tag : ℕ) (bytes : List ℕ) → SameRest f ((level_row f tag).read bytes) (head_behind tag bytes)
level_rest f tag bytes =
    by_row f (eqb tag 0) _ _ _ _ bytes refl
    (by_row f (eqb tag 1) _ _ _ _ bytes refl
    (by_row f (eqb tag 2) _ _ _ _ bytes refl
    (by_row f (eqb tag 3) _ _ _ _ bytes refl
    (by_row f (eqb tag 4) _ _ _ _ bytes (scalar f (λ z. Data-F.Whole z) (whole.read bytes))
    (by_row f (eqb tag 5) _ _ _ _ bytes (scalar f (λ s. Data-F.Text s) (text.read bytes))
    (by_row f (eqb tag 6) _ _ _ _ bytes (list_row f (u16.read bytes))
    (by_row f (eqb tag 7) _ _ _ _ bytes (record_row f (u16.read bytes)) refl)))))))

pub value_by_head : (n : ℕ) (bytes : List ℕ) → rest_of ((value (suc n)).read bytes) ≡ head_at bytes >>= λ h. opened (value n) h.0 h.1
unfolding value head_at
value_by_head n bytes =
    bind_assoc ((small 7).read bytes >>= λ t. (level_row (value n) t.0).read t.1) (λ a. Ok (roll-Data a.0, a.1)) (λ x. Ok x.1)
    ∙ bind_assoc ((small 7).read bytes) (λ t. (level_row (value n) t.0).read t.1) (λ x. Ok x.1)
    ∙ bind_same ((small 7).read bytes) _ _ (λ t. level_rest (value n) t.0 t.1)
    ∙ sym (bind_assoc ((small 7).read bytes) (λ t. head_behind t.0 t.1) (λ h. opened (value n) h.0 h.1))

-- ---- how far a reader goes

pub lawful_shorter : {A : Type 0} (f : Field A) → IsLawful f → (bytes : List ℕ) (x : A × List ℕ) → IsBytes bytes → f.read bytes ≡ Ok x → (length x.1 ≤ length bytes) × IsBytes x.1
lawful_shorter f lf bytes x fits e =
    let t = (lf.takes bytes x fits e).0 in
    (omega (arith, length-append (f.spell x.0) x.1, ap length t.parts), t.rest_fits)

abbrev Shorter : List ℕ → Outcome (Option (ℕ × Bool) × List ℕ) → Type 0
Shorter bytes head = (h : Option (ℕ × Bool) × List ℕ) → head ≡ Ok h → length h.1 ≤ length bytes

either_shorter : (bytes : List ℕ) (b : Bool) (x y : Outcome (Option (ℕ × Bool) × List ℕ)) → Shorter bytes x → Shorter bytes y → Shorter bytes (cond b x y)
either_shorter bytes true x y p q = p
either_shorter bytes false x y p q = q

done_shorter : (bytes : List ℕ) → Shorter bytes (Ok (None, bytes))
done_shorter bytes h e = let r : bytes ≡ h.1 = cc in omega (arith, ap length r)

field_shorter : {A : Type 0} (f : Field A) → IsLawful f → (make : A → Option (ℕ × Bool)) (bytes : List ℕ) → IsBytes bytes → Shorter bytes (f.read bytes >>= λ x. Ok (make x.0, x.1))
field_shorter f lf make bytes fits h e =
    let a = bind_ok (f.read bytes) (λ x. Ok (make x.0, x.1)) h e in
    let r : a.0.1 ≡ h.1 = cc (a.2) in
    let s = (lawful_shorter f lf bytes a.0 fits a.1).0 in
    omega (arith, ap length r)

behind_shorter : (tag : ℕ) (bytes : List ℕ) → IsBytes bytes → Shorter bytes (head_behind tag bytes)
behind_shorter tag bytes fits =
    either_shorter bytes (eqb tag 0) _ _ (done_shorter bytes)
    (either_shorter bytes (eqb tag 1) _ _ (done_shorter bytes)
    (either_shorter bytes (eqb tag 2) _ _ (done_shorter bytes)
    (either_shorter bytes (eqb tag 3) _ _ (done_shorter bytes)
    (either_shorter bytes (eqb tag 4) _ _ (field_shorter whole whole_law (λ _. None) bytes fits)
    (either_shorter bytes (eqb tag 5) _ _ (field_shorter text text_law (λ _. None) bytes fits)
    (either_shorter bytes (eqb tag 6) _ _ (field_shorter u16 u16_law (λ n. Some (n, false)) bytes fits)
    (either_shorter bytes (eqb tag 7) _ _ (field_shorter u16 u16_law (λ n. Some (n, true)) bytes fits)
    (λ h e. absurd cc))))))))

pub head_shorter : (bytes : List ℕ) (h : Option (ℕ × Bool) × List ℕ) → IsBytes bytes → head_at bytes ≡ Ok h → length h.1 < length bytes
unfolding head_at number_bytes
head_shorter bytes h fits e =
    let t = bind_ok ((small 7).read bytes) (λ t. head_behind t.0 t.1) h e in
    let s = ((small_law 7).takes bytes t.0 fits t.1).0 in
    let long : length bytes ≡ suc (length t.0.1) = ap length s.parts in
    let rest = behind_shorter t.0.0 t.0.1 s.rest_fits h t.2 in
    omega arith

key_takes : (before : Option (List ℕ)) (bytes : List ℕ) (k : Option (List ℕ) × List ℕ) → IsBytes bytes → ((key_after before).read bytes >>= λ x. Ok (Some x.0, x.1)) ≡ Ok k → (length k.1 ≤ length bytes) × IsBytes k.1
key_takes before bytes k fits e =
    let a = bind_ok ((key_after before).read bytes) (λ x. Ok (Some x.0, x.1)) k e in
    let r : a.0.1 ≡ k.1 = cc (a.2) in
    let s = lawful_shorter (key_after before) (only_law Range (is_after before) text text_law) bytes a.0 fits a.1 in
    subst (λ (t : List ℕ). (length t ≤ length bytes) × IsBytes t) r s

pub key_shorter : (in_record : Bool) (before : Option (List ℕ)) (bytes : List ℕ) (k : Option (List ℕ) × List ℕ) → IsBytes bytes → next_key in_record before bytes ≡ Ok k → (length k.1 ≤ length bytes) × IsBytes k.1
key_shorter true before bytes k fits e = key_takes before bytes k fits e
key_shorter false before bytes k fits e = let r : bytes ≡ k.1 = cc in subst (λ (t : List ℕ). (length t ≤ length bytes) × IsBytes t) r (omega arith, fits)

pub part_shorter : (in_record : Bool) (before : Option (List ℕ)) (bytes : List ℕ) (k : Option (List ℕ) × List ℕ) (h : Option (ℕ × Bool) × List ℕ) → IsBytes bytes → next_key in_record before bytes ≡ Ok k → head_at k.1 ≡ Ok h → length h.1 < length bytes
part_shorter in_record before bytes k h fits ke he =
    let a = key_shorter in_record before bytes k fits ke in
    let b = head_shorter k.1 h a.1 he in
    omega arith

-- ---- what is due, a part at a time

due_opened : (ds : List Due) (m : ℕ) (o : Option (ℕ × Bool)) (bytes : List ℕ) → (opened (value m) o bytes >>= due ds) ≡ due (with_opened m o ds) bytes
due_opened ds m None bytes = refl
due_opened ds m (Some o) bytes = refl

-- a value, by its head, and what is due behind it
due_head : (ds : List Due) (m : ℕ) (bytes : List ℕ) → (rest_of ((value (suc m)).read bytes) >>= due ds) ≡ (head_at bytes >>= λ h. due (with_opened m h.0 ds) h.1)
due_head ds m bytes =
    ap (λ (r : Outcome (List ℕ)). r >>= due ds) (value_by_head m bytes)
    ∙ bind_assoc (head_at bytes) (λ h. opened (value m) h.0 h.1) (due ds)
    ∙ bind_same (head_at bytes) _ _ (λ h. due_opened ds m h.0 h.1)

parts_one_more : (f : Field Data) (n : ℕ) (in_record : Bool) (before : Option (List ℕ)) (bytes : List ℕ) → parts_rest f (suc n) in_record before bytes ≡ (next_key in_record before bytes >>= λ k. rest_of (f.read k.1) >>= λ rest. parts_rest f n in_record k.0 rest)
unfolding parts_rest
parts_one_more f n in_record before bytes = refl

pub due_empty : (d : Due) (ds : List Due) (bytes : List ℕ) → d.left ≡ 0 → due (d ∷ ds) bytes ≡ due ds bytes
unfolding parts_rest
due_empty d ds bytes e = rw e refl

due_if_more : (b : Bool) (d : Due) (ds : List Due) → (b ≡ false → d.left ≡ 0) → (bytes : List ℕ) → due (d ∷ ds) bytes ≡ due (cond b (d ∷ ds) ds) bytes
due_if_more true d ds h bytes = refl
due_if_more false d ds h bytes = due_empty d ds bytes (h refl)

last_part : (n : ℕ) → nat_lt 1 n ≡ false → n - 1 ≡ 0
last_part n h = let le : n ≤ 1 = ltb-false _ _ h in omega arith

due_rest : (d : Due) (key : Option (List ℕ)) (ds : List Due) (bytes : List ℕ) → due (behind_part d key ∷ ds) bytes ≡ due (with_rest d key ds) bytes
due_rest d key ds = due_if_more (nat_lt 1 d.left) (behind_part d key) ds (last_part d.left)

due_next : (d : Due) (ds : List Due) (bytes : List ℕ) (n m : ℕ) → d.left ≡ suc n → d.depth ≡ suc m
    → due (d ∷ ds) bytes ≡ (next_key d.in_record d.before bytes >>= λ k. head_at k.1 >>= λ h. due (with_opened m h.0 (with_rest d k.0 ds)) h.1)
due_next d ds bytes n m l e =
    let f : Field Data = value d.depth in
    let after : Option (List ℕ) × List ℕ → Outcome (List ℕ) = λ k. rest_of (f.read k.1) >>= λ rest. parts_rest f n d.in_record k.0 rest in
    let less : d.left - 1 ≡ n = omega arith in
    ap (λ k. parts_rest f k d.in_record d.before bytes >>= due ds) l
    ∙ ap (λ (r : Outcome (List ℕ)). r >>= due ds) (parts_one_more f n d.in_record d.before bytes)
    ∙ bind_assoc (next_key d.in_record d.before bytes) after (due ds)
    ∙ bind_same (next_key d.in_record d.before bytes) _ _ (λ k.
    bind_assoc (rest_of (f.read k.1)) (λ rest. parts_rest f n d.in_record k.0 rest) (due ds)
    ∙ bind_same (rest_of (f.read k.1)) _ _ (λ rest. ap (λ j. parts_rest f j d.in_record k.0 rest >>= due ds) (sym less) ∙ due_rest d k.0 ds rest)
    ∙ ap (λ j. rest_of ((value j).read k.1) >>= due (with_rest d k.0 ds)) e
    ∙ due_head (with_rest d k.0 ds) m k.1)

pub due_step : (d : Due) (ds : List Due) (bytes : List ℕ) → 0 < d.left → 0 < d.depth → due (d ∷ ds) bytes ≡ (step_at d ds bytes >>= λ s. due s.0 s.1)
due_step d ds bytes lt deep =
    due_next d ds bytes (d.left - 1) (d.depth - 1) (omega arith) (omega arith)
    ∙ sym (bind_assoc (next_key d.in_record d.before bytes) (λ k. head_at k.1 >>= λ h. Ok (with_opened (d.depth - 1) h.0 (with_rest d k.0 ds), h.1)) (λ s. due s.0 s.1)
    ∙ bind_same (next_key d.in_record d.before bytes) _ _ (λ k. bind_assoc (head_at k.1) (λ h. Ok (with_opened (d.depth - 1) h.0 (with_rest d k.0 ds), h.1)) (λ s. due s.0 s.1)))

ends_there : (r : Outcome (List ℕ)) → ((r >>= λ rest. Ok rest) >>= λ rest. Ok rest) ≡ r
ends_there (Ok rest) = refl
ends_there (Err e) = refl

pub due_start : (depth : ℕ) (bytes : List ℕ) → due (record { left = 1; in_record = false; before = None; depth = depth } ∷ []) bytes ≡ rest_of ((value depth).read bytes)
unfolding parts_rest
due_start depth bytes = ends_there (rest_of ((value depth).read bytes))

pub stacked_pushed : (xs : List Open) (o : Open) → stacked (xs ++ o ∷ []) ≡ due_of o ∷ stacked xs
stacked_pushed xs o = ap reverse (map-append due_of xs (o ∷ [])) ∙ reverse-append (map due_of xs) (due_of o ∷ [])

pub due_goes : (d : Due) (ds : List Due) (bytes : List ℕ) (s : List Due × List ℕ) (total : Outcome (List ℕ)) → 0 < d.left → 0 < d.depth → step_at d ds bytes ≡ Ok s → due (d ∷ ds) bytes ≡ total → due s.0 s.1 ≡ total
due_goes d ds bytes s total lt deep step so_far = sym (due_step d ds bytes lt deep ∙ ap (λ (r : Outcome (List Due × List ℕ)). r >>= λ s. due s.0 s.1) step) ∙ so_far

pub due_fails : (e : ReadError) (d : Due) (ds : List Due) (bytes : List ℕ) (total : Outcome (List ℕ)) → 0 < d.left → 0 < d.depth → Fails e (step_at d ds bytes) → due (d ∷ ds) bytes ≡ total → Fails e total
due_fails errors.Memory d ds bytes total lt deep step so_far = tt
due_fails (errors.Fault f) d ds bytes total lt deep step so_far = sym so_far ∙ (due_step d ds bytes lt deep ∙ ap (λ (r : Outcome (List Due × List ℕ)). r >>= λ s. due s.0 s.1) step)

-- ---- there is depth enough for the bytes

deep_shorter : (n m : ℕ) (ds : List Due) → n ≤ m → AreDeep m ds → AreDeep n ds
deep_shorter n m [] le h = tt
deep_shorter n m (d ∷ ds) le h = (omega (arith, h.0), deep_shorter n m ds le h.1)

deep_rest : (b : Bool) (n : ℕ) (d : Due) (ds : List Due) → n < d.depth → AreDeep n ds → AreDeep n (cond b (d ∷ ds) ds)
deep_rest true n d ds lt h = (lt, h)
deep_rest false n d ds lt h = h

deep_opened : (n depth : ℕ) (o : Option (ℕ × Bool)) (ds : List Due) → n < depth → AreDeep n ds → AreDeep n (with_opened depth o ds)
deep_opened n depth None ds lt h = h
deep_opened n depth (Some o) ds lt h = (lt, h)

pub step_deep : (d : Due) (ds : List Due) (bytes : List ℕ) (s : List Due × List ℕ) → step_at d ds bytes ≡ Ok s → length s.1 < length bytes → length bytes < d.depth → AreDeep (length bytes) ds → AreDeep (length s.1) s.0
step_deep d ds bytes s e less lt h =
    let k = bind_ok (next_key d.in_record d.before bytes) (λ k. head_at k.1 >>= λ h. Ok (with_opened (d.depth - 1) h.0 (with_rest d k.0 ds), h.1)) s e in
    let o = bind_ok (head_at k.0.1) (λ h. Ok (with_opened (d.depth - 1) h.0 (with_rest d k.0.0 ds), h.1)) s k.2 in
    let is : with_opened (d.depth - 1) o.0.0 (with_rest d k.0.0 ds) ≡ s.0 = cc (o.2) in
    subst (λ (t : List Due). AreDeep (length s.1) t) is
    (deep_opened (length s.1) (d.depth - 1) o.0.0 (with_rest d k.0.0 ds) (omega arith)
    (deep_rest (nat_lt 1 d.left) (length s.1) (behind_part d k.0.0) ds (omega arith) (deep_shorter (length s.1) (length bytes) ds (omega arith) h)))
