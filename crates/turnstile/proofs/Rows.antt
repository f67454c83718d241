-- Rows of seats.
use Rattle.std.proofs.Common.{◌≡◌, ◌≢◌, ℕ, zero, suc, ◌+◌, ◌<◌, List, [], ◌∷◌, ◌++◌, length, get_or, set, Option, Some, refl, sym, ap, ◌∙◌, subst, ⊎_elim, arith}
use Rattle.std.specs.List.{slice_get}
use Rattle.std.proofs.lemmas.List.{length-append, length-set}
use mathlib.Core.Option.{some, some-injective, some-ne-none}
use lib.ListN.{get_elem?}
use Rattle.atomic_table.specs.Seated.{TableId}
use Rattle.atomic_table.specs.declared.shared.Seat.{Seat}
use Rattle.atomic_table.proofs.Lists.{at_set}
use Rattle.turnstile.specs.declared.view.View.{View}
use Rattle.turnstile.specs.Steps.{split_left, split_right}
use Rattle.turnstile.specs.Rows.{IsSeat, AreSeats, HaveSeen, Counts}
use Rattle.turnstile.proofs.Seen.{at_get, at_end}

module _ {A : Type 0} where
  pub got : (l : List A) (i : ℕ) (a : A) → slice_get l i ≡ Some a → get_elem? l i ≡ some a
  got [] i a e = absurd (cc e)
  got (x ∷ l) zero a e = let same : x ≡ a = cc e in ap some same
  got (x ∷ l) (suc i) a e = got l i a e

  pub gets : (l : List A) (i : ℕ) (a : A) → get_elem? l i ≡ some a → slice_get l i ≡ Some a
  gets [] i a e = absurd (some-ne-none a (sym e))
  gets (x ∷ l) zero a e = ap Some (some-injective x a e)
  gets (x ∷ l) (suc i) a e = gets l i a e

  pub got_index : (l : List A) (i : ℕ) (a : A) → i < length l → a ≡ get_or l i a → slice_get l i ≡ Some a
  got_index [] i a lt e = absurd (omega arith)
  got_index (x ∷ l) zero a lt e = ap Some (sym e)
  got_index (x ∷ l) (suc i) a lt e = got_index l i a (omega arith) e

module _ {S I : Type 0} where
  -- each of a longer list, where the first changed
  each_more : (K : ℕ → Seat (Option S) (View I) → Type 0) (ps : List (Seat (Option S) (View I))) (q n : Seat (Option S) (View I)) → ((k : ℕ) (p : Seat (Option S) (View I)) → k ≢ 0 → slice_get ps k ≡ Some p → K k p) → K 0 q → K (length ps) n
      → (k : ℕ) (p : Seat (Option S) (View I)) → slice_get (set ps 0 q ++ n ∷ []) k ≡ Some p → K k p
  each_more K ps q n old first last k p e =
      ⊎_elim
      (λ was. ⊎_elim
      (λ (h : (k ≡ 0) × (q ≡ p)). subst (λ (y : ℕ × Seat (Option S) (View I)). K y.0 y.1) (λ i. (sym h.0 i, h.1 i)) first)
      (λ (h : (k ≢ 0) × (get_elem? ps k ≡ some p)). old k p h.0 (gets ps k p h.1))
      (at_set ps 0 k q p was))
      (λ (h : (k ≡ length (set ps 0 q)) × (n ≡ p)). subst (λ (y : ℕ × Seat (Option S) (View I)). K y.0 y.1) (λ i. (sym (h.0 ∙ length-set ps 0 q) i, h.1 i)) last)
      (at_end (set ps 0 q) n p k (got (set ps 0 q ++ n ∷ []) k p e))

  pub dealt_more : (z : TableId) (opening : List I) (ps : List (Seat (Option S) (View I))) (p q n : Seat (Option S) (View I)) → slice_get ps 0 ≡ Some p → AreSeats z 0 ps → HaveSeen opening ps → Counts ps
      → q.table_id ≡ z → q.me ≡ (split_left p.me.0, p.me.1) → n.table_id ≡ z → n.me ≡ (split_right p.me.0, [])
      → AreSeats z 0 (set ps 0 q ++ n ∷ []) × HaveSeen opening (set ps 0 q ++ n ∷ []) × Counts (set ps 0 q ++ n ∷ [])
  dealt_more z opening ps p q n at are seen counts q_of q_is n_of n_is =
      let a = are 0 p at in
      let count : p.me.0.next ≡ length ps = counts p at in
      let len : length (set ps 0 q ++ n ∷ []) ≡ length ps + 1 = omega (arith, length-append (set ps 0 q) (n ∷ []), length-set ps 0 q) in (
        each_more (λ k x. IsSeat z (0 + k) x) ps q n (λ k x _ e. are k x e)
            (q_of, ap (λ m. m.0.stage) q_is ∙ a.1, ap (λ m. m.1) q_is ∙ a.2, ap (λ m. m.0.number) q_is ∙ a.3, ap (λ m. m.0.kept) q_is ∙ a.4)
            (n_of, ap (λ m. m.0.stage) n_is, ap (λ m. m.1) n_is, ap (λ m. m.0.number) n_is ∙ (count ∙ omega arith), ap (λ m. m.0.kept) n_is),
        each_more (λ k x. x.me.0.seen ≡ opening) ps q n (λ k x _ e. seen k x e) (ap (λ m. m.0.seen) q_is ∙ seen 0 p at) (ap (λ m. m.0.seen) n_is ∙ seen 0 p at),
        λ x e. each_more (λ k y. k ≡ 0 → y.me.0.next ≡ length (set ps 0 q ++ n ∷ [])) ps q n (λ k y ne _ z. absurd (ne z))
            (λ _. ap (λ m. m.0.next) q_is ∙ (ap (λ (k : ℕ). k + 1) count ∙ sym len))
            (λ none. let lt = (at_get ps 0 p (got ps 0 p at)).0 in absurd (omega arith)) 0 x e refl,
      )
