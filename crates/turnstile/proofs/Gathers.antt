-- Taking the passes in, one after another.
use Rattle.std.proofs.Common.{◌≡◌, ℕ, zero, suc, ◌+◌, List, [], ◌∷◌, ◌++◌, length, map, drop, Option, Some, None, refl, sym, ap, ◌∙◌, subst, arith}
use Rattle.std.specs.List.{slice_get}
use Rattle.std.proofs.lemmas.List.{length-append, length-map, append_assoc, append-nil}
use mathlib.Core.Option.{some}
use lib.ListN.{get_elem?}
use Rattle.atomic_table.specs.Seated.{TableId}
use Rattle.atomic_table.specs.declared.shared.Seat.{Seat}
use Rattle.turnstile.specs.declared.view.View.{View}
use Rattle.turnstile.specs.declared.view.Stage.TheVariants.{Outside}
use Rattle.turnstile.specs.Places.{Place}
use Rattle.atomic_table.specs.Table.{Me}
use Rattle.turnstile.specs.Tidy.{inside_of, HoldsRight, IsTidy}
use Rattle.turnstile.specs.Rows.{ArePasses, AreSeats, HaveSeen, IsSeat, place_of}
use Rattle.turnstile.specs.Steps.{joined}

abbrev pub seen_of : {I : Type 0} → Place I → List I
seen_of p = p.seen

module _ {I : Type 0} where
  pub tail_passes : (z : TableId) (m : ℕ) (p : Place I) (ps : List (Place I)) → ArePasses z m (p ∷ ps) → ArePasses z (m + 1) ps
  tail_passes z m p ps are k x e = let h = are (suc k) x e in let n : m + suc k ≡ (m + 1) + k = omega arith in (h.0, h.1 ∙ n, h.2)

  pub seen_there : (ps : List (Place I)) (ks : List (List I)) (k : ℕ) (p : Place I) → map seen_of ps ≡ ks → slice_get ps k ≡ Some p → get_elem? ks k ≡ some (seen_of p)
  seen_there ps ks k p e at = subst (λ (l : List (List I)). get_elem? l k ≡ some (seen_of p)) e (mapped ps k p at)
    where
      mapped : (ps : List (Place I)) (k : ℕ) (p : Place I) → slice_get ps k ≡ Some p → get_elem? (map seen_of ps) k ≡ some (seen_of p)
      mapped [] k p e = absurd (cc e)
      mapped (x ∷ ps) zero p e = let same : x ≡ p = cc e in ap (λ y. some (seen_of y)) same
      mapped (x ∷ ps) (suc k) p e = mapped ps k p e

  head_tail : (l : List (Place I)) (a : Place I) → slice_get l 0 ≡ Some a → l ≡ a ∷ drop 1 l
  head_tail [] a e = absurd (cc e)
  head_tail (x ∷ l) a e = let same : x ≡ a = cc e in λ i. same i ∷ l

module _ {S I : Type 0} where
  -- what the loop keeps: the seat of the first pass, and the passes that are left
  pub record Gathering (z : TableId) (all : List (Place I)) (seat : Seat (Option S) (View I)) (left : List (Place I)) : Type 0 where
    pub own : seat.table_id ≡ z
    pub outside : seat.me.0.stage ≡ Outside
    pub empty : seat.me.1 ≡ []
    pub number : seat.me.0.number ≡ 0
    pub seen : map seen_of all ≡ seat.me.0.seen ∷ (seat.me.0.kept ++ map seen_of left)
    pub passes : ArePasses z (length seat.me.0.kept + 1) left

  pub gathers : (z : TableId) (all left : List (Place I)) (p : Place I) (seat : Seat (Option S) (View I)) → slice_get all 0 ≡ Some p → left ≡ drop 1 all → ArePasses z 0 all
      → seat.table_id ≡ p.turnstile → seat.me.0.number ≡ p.number → seat.me.0.seen ≡ p.seen → seat.me.0.stage ≡ Outside → seat.me.1 ≡ [] → seat.me.0.kept ≡ [] → Gathering z all seat left
  gathers z all left p seat at rest are own number seen outside empty kept =
      let a = are 0 p at in
      let split : all ≡ p ∷ left = head_tail all p at ∙ ap (λ l. p ∷ l) (sym rest) in record {
        own = own ∙ a.0;
        outside = outside;
        empty = empty;
        number = number ∙ a.1;
        seen = ap (map seen_of) split ∙ (ap (λ (x : List I). x ∷ map seen_of left) (sym seen) ∙ ap (λ (k : List (List I)). seat.me.0.seen ∷ (k ++ map seen_of left)) (sym kept));
        passes = subst (λ (k : List (List I)). ArePasses z (length k + 1) left) (sym kept) (tail_passes z 0 p left (subst (ArePasses z 0) split are));
      }

  pub gathers_next : (z : TableId) (all left rest : List (Place I)) (seat seat' : Seat (Option S) (View I)) (p : Place I) (w : View I) → left ≡ p ∷ rest → w.seen ≡ p.seen → Gathering z all seat left
      → seat'.table_id ≡ seat.table_id → seat'.me ≡ (joined seat.me.0 w, seat.me.1) → Gathering z all seat' rest
  gathers_next z all left rest seat seat' p w is saw g own me =
      let kept : List (List I) = seat.me.0.kept in
      let len : length (kept ++ w.seen ∷ []) + 1 ≡ (length kept + 1) + 1 = omega (arith, length-append kept (w.seen ∷ [])) in record {
        own = own ∙ g.own;
        outside = ap (λ m. m.0.stage) me ∙ g.outside;
        empty = ap (λ m. m.1) me ∙ g.empty;
        number = ap (λ m. m.0.number) me ∙ g.number;
        seen = subst (λ m. map seen_of all ≡ m.0.seen ∷ (m.0.kept ++ map seen_of rest)) (sym me)
            (g.seen ∙ ap (λ l. seat.me.0.seen ∷ l) (ap (λ l. kept ++ map seen_of l) is ∙ (ap (λ (x : List I). kept ++ x ∷ map seen_of rest) (sym saw) ∙ sym (append_assoc kept (w.seen ∷ []) (map seen_of rest)))));
        passes = subst (λ m. ArePasses z (length m.0.kept + 1) rest) (sym me) (subst (λ (k : ℕ). ArePasses z k rest) (sym len) (tail_passes z (length kept + 1) p rest (subst (ArePasses z (length kept + 1)) is g.passes)));
      }

  pub gathers_first : (z : TableId) (all left rest : List (Place I)) (seat : Seat (Option S) (View I)) (p : Place I) → left ≡ p ∷ rest → Gathering z all seat left → (p.turnstile ≡ z) × (p.number ≡ length seat.me.0.kept + 1) × (p.inside ≡ None)
  gathers_first z all left rest seat p is g = let h = subst (ArePasses z (length seat.me.0.kept + 1)) is g.passes 0 p refl in let n : (length seat.me.0.kept + 1) + 0 ≡ length seat.me.0.kept + 1 = omega arith in (h.0, h.1 ∙ n, h.2)

  pub gathered : (z : TableId) (all left : List (Place I)) (seat : Seat (Option S) (View I)) → length left ≡ 0 → Gathering z all seat left
      → (map seen_of all ≡ seat.me.0.seen ∷ seat.me.0.kept) × (length seat.me.0.kept + 1 ≡ length all)
  gathered z all [] seat e g =
      let is : map seen_of all ≡ seat.me.0.seen ∷ seat.me.0.kept = g.seen ∙ ap (λ k. seat.me.0.seen ∷ k) (append-nil seat.me.0.kept) in
      let l : length (map seen_of all) ≡ length seat.me.0.kept + 1 = ap length is ∙ omega arith in
      (is, sym l ∙ length-map all seen_of)
  gathered z all (x ∷ left) seat e g = absurd (omega arith)

module _ {S I : Type 0} where
  at_map : (row : List (Seat (Option S) (View I))) (k : ℕ) (p : Place I) → slice_get (map place_of row) k ≡ Some p → (s : Seat (Option S) (View I)) × (slice_get row k ≡ Some s) × (place_of s ≡ p)
  at_map [] k p e = absurd (cc e)
  at_map (x ∷ row) zero p e = let same : place_of x ≡ p = cc e in (x, refl, same)
  at_map (x ∷ row) (suc k) p e = at_map row k p e

  pub are_passes : (z : TableId) (row : List (Seat (Option S) (View I))) (ps : List (Place I)) → ps ≡ map place_of row → AreSeats z 0 row → ArePasses z 0 ps
  are_passes z row ps is are k p e = let h = at_map row k p (subst (λ l. slice_get l k ≡ Some p) is e) in let a = are k h.0 h.1 in
      subst (λ (q : Place I). (q.turnstile ≡ z) × (q.number ≡ 0 + k) × (q.inside ≡ None)) h.2 (a.0, a.3, ap inside_of a.1)

  pub have_seen : (opening : List I) (row : List (Seat (Option S) (View I))) (ps : List (Place I)) → ps ≡ map place_of row → HaveSeen opening row → (k : ℕ) (p : Place I) → slice_get ps k ≡ Some p → p.seen ≡ opening
  have_seen opening row ps is seen k p e = let h = at_map row k p (subst (λ l. slice_get l k ≡ Some p) is e) in subst (λ (q : Place I). q.seen ≡ opening) h.2 (seen k h.0 h.1)

  pub first_seat : (z : TableId) (n : ℕ) (s : Seat (Option S) (View I)) (left rest : List (Seat (Option S) (View I))) → left ≡ s ∷ rest → AreSeats z n left → IsSeat z n s
  first_seat z n s left rest is are = let h = subst (AreSeats z n) is are 0 s refl in let m : n + 0 ≡ n = omega arith in (h.0, h.1, h.2, h.3 ∙ m, h.4)

  pub rest_seats : (z : TableId) (n m : ℕ) (s : Seat (Option S) (View I)) (left rest : List (Seat (Option S) (View I))) → left ≡ s ∷ rest → m ≡ n + 1 → AreSeats z n left → AreSeats z m rest
  rest_seats z n m s left rest is more are k x e = let h = subst (AreSeats z n) is are (suc k) x e in let l : n + suc k ≡ m + k = omega arith in (h.0, h.1, h.2, h.3 ∙ l, h.4)

  pub tidy : (names : I → Option ℕ) (me : Me (Option S) (View I)) → me.0.stage ≡ Outside → me.1 ≡ [] → me.0.kept ≡ [] → IsTidy names me
  tidy names me out bare kept = (kept, subst (λ st. HoldsRight names me.0.number me.0.seen st me.1) (sym out) bare)

  pub grown : (xs ys : List (Place I)) (left rest : List (Seat (Option S) (View I))) (all : List (Place I)) (s : Seat (Option S) (View I)) → ys ≡ xs ++ place_of s ∷ [] → left ≡ s ∷ rest → xs ++ map place_of left ≡ all → ys ++ map place_of rest ≡ all
  grown xs ys left rest all s more is old = ap (λ l. l ++ map place_of rest) more ∙ (append_assoc xs (place_of s ∷ []) (map place_of rest) ∙ (ap (λ l. xs ++ l) (sym (ap (map place_of) is)) ∙ old))
