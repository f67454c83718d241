-- Lists that are taken apart and put together.
use Rattle.std.proofs.Common.{◌≡◌, ℕ, zero, suc, ◌+◌, ◌<◌, List, [], ◌∷◌, ◌++◌, length, map, take, get_or, Some, refl, sym, ap, ◌∙◌, subst, arith}
use Rattle.std.specs.List.{slice_get}
use Rattle.std.specs.Global.{Vec}
use Rattle.std.proofs.lemmas.List.{append_assoc, map_push, length-map}
use Rattle.std.proofs.Math.Seq.{take-append_seam}
use Rattle.std.proofs.lemmas.Option.{slice_get_within}
use Rattle.std.specs.Prelude.{IsSome}
use Rattle.atomic_table.specs.Seated.{TableId}
use Rattle.turnstile.specs.Places.{Place}
use Rattle.turnstile.specs.Histories.{Follows}
use Rattle.turnstile.specs.Rows.{ArePasses}
use Rattle.turnstile_rows.specs.declared.log.Item.{Item}
use Rattle.turnstile_rows.specs.declared.racer.Racer.{Racer}
use Rattle.turnstile_rows.specs.Made.{made, who, IsPass, seen_of}
use Rattle.turnstile_rows.specs.Raced.{AreSet, AreNew, HavePasses, pass_of, added_of}
use Rattle.turnstile_rows.proofs.Adds.{made_follows}

pub shift : {A B : Type 0} (h : A → B) (xs : List B) (left rest : List A) (a : A) (b : B) → left ≡ a ∷ rest → b ≡ h a → (xs ++ b ∷ []) ++ map h rest ≡ xs ++ map h left
shift h xs left rest a b is same = append_assoc xs (b ∷ []) (map h rest) ∙ ap (λ l. xs ++ l) (ap (λ y. y ∷ map h rest) same ∙ sym (ap (map h) is))

pub tail_have : (left rest : List Racer) (r : Racer) → left ≡ r ∷ rest → HavePasses left → HavePasses rest
tail_have left rest r is h k d lt = subst HavePasses is h (suc k) d (omega arith)

pub next_list : {A B : Type 0} (h : A → B) (xs ys : List B) (left rest : List A) (all : List B) (a : A) (b : B) → ys ≡ xs ++ b ∷ [] → left ≡ a ∷ rest → b ≡ h a → xs ++ map h left ≡ all → ys ++ map h rest ≡ all
next_list h xs ys left rest all a b grown is same old = ap (λ l. l ++ map h rest) grown ∙ (shift h xs left rest a b is same ∙ old)

pub next_map : {A B C : Type 0} (f : C → B) (h : A → B) (xs ys : List C) (left rest : List A) (all : List B) (a : A) (c : C) → ys ≡ xs ++ c ∷ [] → left ≡ a ∷ rest → f c ≡ h a → map f xs ++ map h left ≡ all → map f ys ++ map h rest ≡ all
next_map f h xs ys left rest all a c grown is same old = next_list h (map f xs) (map f ys) left rest all a (f c) (ap (map f) grown ∙ map_push f xs c) is same old

some_same : {A : Type 0} (x y : A) → Some x ≡ Some y → x ≡ y
some_same x y e = cc e

-- what was there before a slice was lent, and what is there after
pub lent : {A : Type 0} (n : ℕ) (xs ys : List A) → length xs ≡ n → take n (xs ++ ys) ≡ xs
lent n xs ys e = subst (λ (k : ℕ). take k (xs ++ ys) ≡ xs) e (take-append_seam xs ys)

pub paired : (ps : List (Place Item)) (rs : List Racer) (k : ℕ) (d : Racer) → map Some ps ≡ map pass_of rs → k < length rs → (p : Place Item) × (slice_get ps k ≡ Some p) × ((get_or rs k d).pass ≡ Some p)
paired ps [] k d e lt = absurd (omega arith)
paired [] (r ∷ rs) k d e lt = absurd (cc e)
paired (p ∷ ps) (r ∷ rs) zero d e lt = let h : r.pass ≡ Some p = cc e in (p, refl, h)
paired (p ∷ ps) (r ∷ rs) (suc k) d e lt = let t : map Some ps ≡ map pass_of rs = cc e in paired ps rs k d t (omega arith)

pub as_many : (ps : List (Place Item)) (rs : List Racer) → map Some ps ≡ map pass_of rs → length ps ≡ length rs
as_many ps rs e = sym (length-map ps Some) ∙ (ap length e ∙ length-map rs pass_of)

pub all_set : (z : TableId) (opening : List Item) (ps : List (Place Item)) (rs : List Racer) → map pass_of rs ≡ map Some ps → AreNew rs → ArePasses z 0 ps → ((k : ℕ) (p : Place Item) → slice_get ps k ≡ Some p → p.seen ≡ opening) → opening ≡ [] → AreSet z rs
all_set z opening ps rs e new are seen none k d lt =
    let p = paired ps rs k d (sym e) lt in
    let n = new k d lt in
    let a = are k p.0 p.1 in
    let z' : 0 + k ≡ k = omega arith in
    let number : (get_or rs k d).number ≡ k = n.0 in (
      record {
        own = p.0;
        has = p.2;
        ours = (a.0, a.1 ∙ (z' ∙ sym number), a.2);
        kept = n.1 ∙ sym (ap (made (get_or rs k d).number) (seen k p.0 p.1 ∙ none));
      },
      number,
    )

pub set_have : (z : TableId) (rs : List Racer) → AreSet z rs → HavePasses rs
set_have z rs set k d lt = subst IsSome (sym (set k d lt).0.has) refl

pub back_set : (z : TableId) (ps : List (Place Item)) (rs : List Racer) → AreSet z rs → map Some ps ≡ map pass_of rs → ArePasses z 0 ps
back_set z ps rs set e k p at =
    let lt = slice_get_within ps k p at in
    let many = as_many ps rs e in
    let lt' : k < length rs = omega arith in
    let d : Racer = first_of_all rs lt' in
    let q = paired ps rs k d e lt' in
    let s = set k d lt' in
    let same : s.0.own ≡ p = some_same s.0.own p (sym s.0.has ∙ (q.2 ∙ (sym q.1 ∙ at))) in
    let z' : k ≡ 0 + k = omega arith in
    let o : IsPass z (get_or rs k d).number p = subst (IsPass z (get_or rs k d).number) same s.0.ours in
    (o.0, o.1 ∙ (s.1 ∙ z'), o.2)
  where
    first_of_all : (rs : List Racer) {k : ℕ} → k < length rs → Racer
    first_of_all [] lt = absurd (omega arith)
    first_of_all (r ∷ rs) lt = r

-- the record of each seat is what the log has of it
pub in_log : (z : TableId) (ps : List (Place Item)) (rs : List Racer) (log : List Item) → AreSet z rs → map Some ps ≡ map pass_of rs → ((k : ℕ) (p : Place Item) → slice_get ps k ≡ Some p → Follows who k (seen_of p) log)
    → (k : ℕ) (d : Racer) → k < length rs → (get_or rs k d).added.items ≡ made k log
in_log z ps rs log set e closed k d lt =
    let s = set k d lt in
    let q = paired ps rs k d e lt in
    let same : s.0.own ≡ q.0 = some_same s.0.own q.0 (sym s.0.has ∙ q.2) in
    s.0.kept ∙ (ap (λ n. made n (seen_of s.0.own)) s.1 ∙ (ap (λ p. made k (seen_of p)) same ∙ sym (made_follows k (seen_of q.0) log (closed k q.0 q.1))))

pub added_at : (rs : List Racer) (k : ℕ) (v : Vec ℕ) (r : Racer) → k < length rs → get_or (map added_of rs) k v ≡ (get_or rs k r).added
added_at [] k v r lt = absurd (omega arith)
added_at (x ∷ rs) zero v r lt = refl
added_at (x ∷ rs) (suc k) v r lt = added_at rs k v r (omega arith)

pub some_racer : (rs : List Racer) (k : ℕ) → k < length rs → Racer
some_racer [] k lt = absurd (omega arith)
some_racer (r ∷ rs) k lt = r

pub told : (z : TableId) (ps : List (Place Item)) (rs : List Racer) (records : List (Vec ℕ)) (log : List Item) → AreSet z rs → map Some ps ≡ map pass_of rs → records ≡ map added_of rs
    → ((k : ℕ) (p : Place Item) → slice_get ps k ≡ Some p → Follows who k (seen_of p) log)
    → (k : ℕ) (v : Vec ℕ) → k < length rs → (get_or records k v).items ≡ made k log
told z ps rs records log set e is closed k v lt =
    let r : Racer = some_racer rs k lt in
    ap (λ l. (get_or l k v).items) is ∙ (ap (λ w. w.items) (added_at rs k v r lt) ∙ in_log z ps rs log set e closed k r lt)
