-- Reading items one after the other, as a loop does.
use Rattle.std.proofs.Common.{◌≡◌, ℕ, suc, ◌-◌, ◌+◌, ◌≤◌, ◌<◌, List, [], ◌∷◌, ◌++◌, Option, Some, Ok, Err, refl, sym, ap, ◌∙◌, append_assoc, arith}
use Rattle.std.proofs.lemmas.List.{append-nil}
use Rattle.link_fields.specs.declared.fault.ReadError.{ReadError}
use Rattle.link_fields.specs.declared.fault.ReadError.TheVariants as errors
use Rattle.link_fields.specs.Field.{Outcome, ◌>>=◌, Fails, Field}
use Rattle.link_fields.specs.Values.{items_at, key_after, member, members_at}

-- what was read before, and what is still read
abbrev pub with_front : {A : Type 0} → List A → Outcome (List A × List ℕ) → Outcome (List A × List ℕ)
with_front front read = read >>= λ x. Ok (front ++ x.0, x.1)

pub regroup : {A : Type 0} (front : List A) (a : A) (read : Outcome (List A × List ℕ)) → with_front front (read >>= λ x. Ok (a ∷ x.0, x.1)) ≡ with_front (front ++ a ∷ []) read
regroup {A} front a (Ok x) = ap (λ (as' : List A). Ok (as', x.1)) (simp append_assoc)
regroup front a (Err f) = refl

-- ---- items

pub goes_on : {A : Type 0} (read : List ℕ → Outcome (A × List ℕ)) (front : List A) (count i : ℕ) (bytes : List ℕ) (a : A) (after : List ℕ) (total : Outcome (List A × List ℕ)) → i < count → read bytes ≡ Ok (a, after)
    → with_front front (items_at read (count - i) bytes) ≡ total → with_front (front ++ a ∷ []) (items_at read (count - (i + 1)) after) ≡ total
unfolding items_at
goes_on read front count i bytes a after total lt h so_far =
    let k : count - i ≡ suc (count - (i + 1)) = omega arith in
    let one : with_front front (items_at read (count - i) bytes) ≡ with_front (front ++ a ∷ []) (items_at read (count - (i + 1)) after) = rw (k, h) (regroup front a (items_at read (count - (i + 1)) after)) in
    sym one ∙ so_far

pub ends : {A : Type 0} (e : ReadError) (read : List ℕ → Outcome (A × List ℕ)) (front : List A) (count i : ℕ) (bytes : List ℕ) (total : Outcome (List A × List ℕ)) → i < count → Fails e (read bytes)
    → with_front front (items_at read (count - i) bytes) ≡ total → Fails e total
unfolding items_at
ends errors.Memory read front count i bytes total lt h so_far = tt
ends (errors.Fault f) read front count i bytes total lt h so_far =
    let k : count - i ≡ suc (count - (i + 1)) = omega arith in
    let one : with_front front (items_at read (count - i) bytes) ≡ Err f = rw (k, h) refl in
    sym so_far ∙ one

pub is_done : {A : Type 0} (read : List ℕ → Outcome (A × List ℕ)) (front : List A) (count i : ℕ) (bytes : List ℕ) (total : Outcome (List A × List ℕ)) → count ≤ i → with_front front (items_at read (count - i) bytes) ≡ total → total ≡ Ok (front, bytes)
unfolding items_at
is_done {A} read front count i bytes total le so_far =
    let k : count - i ≡ 0 = omega arith in
    let one : with_front front (items_at read (count - i) bytes) ≡ Ok (front, bytes) = rw k (ap (λ (as' : List A). Ok (as', bytes)) (append-nil front)) in
    sym so_far ∙ one

-- ---- members

pub members_go_on : {A : Type 0} (f : Field A) (front : List (List ℕ × A)) (count i : ℕ) (before : Option (List ℕ)) (bytes : List ℕ) (m : List ℕ × A) (after : List ℕ) (total : Outcome (List (List ℕ × A) × List ℕ)) → i < count → (member f before).read bytes ≡ Ok (m, after)
    → with_front front (members_at f (count - i) before bytes) ≡ total → with_front (front ++ m ∷ []) (members_at f (count - (i + 1)) (Some m.0) after) ≡ total
unfolding members_at
members_go_on f front count i before bytes m after total lt h so_far =
    let k : count - i ≡ suc (count - (i + 1)) = omega arith in
    let one : with_front front (members_at f (count - i) before bytes) ≡ with_front (front ++ m ∷ []) (members_at f (count - (i + 1)) (Some m.0) after) = rw (k, h) (regroup front m (members_at f (count - (i + 1)) (Some m.0) after)) in
    sym one ∙ so_far

pub members_end : {A : Type 0} (e : ReadError) (f : Field A) (front : List (List ℕ × A)) (count i : ℕ) (before : Option (List ℕ)) (bytes : List ℕ) (total : Outcome (List (List ℕ × A) × List ℕ)) → i < count → Fails e ((member f before).read bytes)
    → with_front front (members_at f (count - i) before bytes) ≡ total → Fails e total
unfolding members_at
members_end errors.Memory f front count i before bytes total lt h so_far = tt
members_end (errors.Fault d) f front count i before bytes total lt h so_far =
    let k : count - i ≡ suc (count - (i + 1)) = omega arith in
    let one : with_front front (members_at f (count - i) before bytes) ≡ Err d = rw (k, h) refl in
    sym so_far ∙ one

pub members_done : {A : Type 0} (f : Field A) (front : List (List ℕ × A)) (count i : ℕ) (before : Option (List ℕ)) (bytes : List ℕ) (total : Outcome (List (List ℕ × A) × List ℕ)) → count ≤ i → with_front front (members_at f (count - i) before bytes) ≡ total → total ≡ Ok (front, bytes)
unfolding members_at
members_done {A} f front count i before bytes total le so_far =
    let k : count - i ≡ 0 = omega arith in
    let one : with_front front (members_at f (count - i) before bytes) ≡ Ok (front, bytes) = rw k (ap (λ (as' : List (List ℕ × A)). Ok (as', bytes)) (append-nil front)) in
    sym so_far ∙ one

-- a member by its key and its value

pub key_fails : {A : Type 0} (e : ReadError) (f : Field A) (before : Option (List ℕ)) (bytes : List ℕ) → Fails e ((key_after before).read bytes) → Fails e ((member f before).read bytes)
key_fails errors.Memory f before bytes h = tt
key_fails (errors.Fault d) f before bytes h = rw h refl

pub value_fails : {A : Type 0} (e : ReadError) (f : Field A) (before : Option (List ℕ)) (bytes : List ℕ) (key : List ℕ) (after : List ℕ) → (key_after before).read bytes ≡ Ok (key, after) → Fails e (f.read after) → Fails e ((member f before).read bytes)
value_fails errors.Memory f before bytes key after k h = tt
value_fails (errors.Fault d) f before bytes key after k h = rw (k, h) refl

pub member_reads : {A : Type 0} (f : Field A) (before : Option (List ℕ)) (bytes : List ℕ) (key : List ℕ) (after : List ℕ) (a : A) (rest : List ℕ) → (key_after before).read bytes ≡ Ok (key, after) → f.read after ≡ Ok (a, rest) → (member f before).read bytes ≡ Ok ((key, a), rest)
member_reads f before bytes key after a rest k h = rw (k, h) refl
