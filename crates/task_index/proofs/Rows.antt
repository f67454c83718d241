-- Rows in which places are put, and those that are pushed.
use Rattle.std.proofs.Common.{◌≡◌, ℕ, zero, suc, ◌<◌, List, [], ◌∷◌, ◌++◌, length, true, false, refl, sym, subst, arith, slice_index_or, slice_set}
use Rattle.tree_log.proofs.Admitted.{both}
use Rattle.task_index.specs.declared.row.Row.{Row}
use Rattle.task_index.specs.Fed.{are_ordered, ascends, has, in_row, KeepsRow, KeepPlaces}
use Rattle.task_index.proofs.Queues.{all_of}

-- no row has lost a place where one row was written that has those of the old one
set_places : (rows : List Row) (i : ℕ) (old new : Row) → old ≡ slice_index_or rows i old → KeepsRow old new → (r p : ℕ) → has rows r p ≡ true → has (slice_set rows i new) r p ≡ true
set_places [] i old new is keeps r p h = absurd cc
set_places (x ∷ rows) zero old new is keeps zero p h = keeps.places p (subst (λ (s : Row). in_row s p ≡ true) (sym is) h)
set_places (x ∷ rows) zero old new is keeps (suc r) p h = h
set_places (x ∷ rows) (suc i) old new is keeps zero p h = h
set_places (x ∷ rows) (suc i) old new is keeps (suc r) p h = set_places rows i old new is keeps r p h

pub set_order : (rows : List Row) (i : ℕ) (old new : Row) → old ≡ slice_index_or rows i old → (ascends old.queue.items ≡ true → ascends new.queue.items ≡ true) → are_ordered rows ≡ true → are_ordered (slice_set rows i new) ≡ true
set_order [] i old new is later h = h
set_order (x ∷ rows) zero old new is later h =
    let parts = both (ascends x.queue.items) (are_ordered rows) h in
    all_of (ascends new.queue.items) (are_ordered rows) (later (subst (λ (s : Row). ascends s.queue.items ≡ true) (sym is) parts.0)) parts.1
set_order (x ∷ rows) (suc i) old new is later h =
    let parts = both (ascends x.queue.items) (are_ordered rows) h in
    all_of (ascends x.queue.items) (are_ordered (slice_set rows i new)) parts.0 (set_order rows i old new is later parts.1)

pub set_kept : (rows : List Row) (i : ℕ) (old new : Row) → old ≡ slice_index_or rows i old → KeepsRow old new → KeepPlaces rows (slice_set rows i new)
set_kept rows i old new is keeps = record { places = set_places rows i old new is keeps; order = set_order rows i old new is keeps.order }

-- the queue of one row of those that are in order
pub order_at : (rows : List Row) (i : ℕ) (row : Row) → i < length rows → row ≡ slice_index_or rows i row → are_ordered rows ≡ true → ascends row.queue.items ≡ true
order_at [] i row lt is h = absurd (omega arith)
order_at (x ∷ rows) zero row lt is h = subst (λ (s : Row). ascends s.queue.items ≡ true) (sym is) (both (ascends x.queue.items) (are_ordered rows) h).0
order_at (x ∷ rows) (suc i) row lt is h = order_at rows i row (omega arith) is (both (ascends x.queue.items) (are_ordered rows) h).1

pub set_there : (rows : List Row) (i p : ℕ) (new : Row) → i < length rows → in_row new p ≡ true → has (slice_set rows i new) i p ≡ true
set_there [] i p new lt h = absurd (omega arith)
set_there (x ∷ rows) zero p new lt h = h
set_there (x ∷ rows) (suc i) p new lt h = set_there rows i p new (omega arith) h

-- the row of a renderer that has one
pub has_at : (rows : List Row) (i p : ℕ) (row : Row) → i < length rows → row ≡ slice_index_or rows i row → has rows i p ≡ in_row row p
has_at [] i p row lt is = absurd (omega arith)
has_at (x ∷ rows) zero p row lt is = sym (subst (λ (s : Row). in_row s p ≡ in_row x p) (sym is) refl)
has_at (x ∷ rows) (suc i) p row lt is = has_at rows i p row (omega arith) is

pub has_set : (rows : List Row) (i p : ℕ) (new : Row) → i < length rows → has (slice_set rows i new) i p ≡ in_row new p
has_set [] i p new lt = absurd (omega arith)
has_set (x ∷ rows) zero p new lt = refl
has_set (x ∷ rows) (suc i) p new lt = has_set rows i p new (omega arith)

pub has_other : (rows : List Row) (i r p : ℕ) (new : Row) → (i ≡ r → ⊥) → has (slice_set rows i new) r p ≡ has rows r p
has_other [] i r p new other = refl
has_other (x ∷ rows) zero zero p new other = absurd (other refl)
has_other (x ∷ rows) zero (suc r) p new other = refl
has_other (x ∷ rows) (suc i) zero p new other = refl
has_other (x ∷ rows) (suc i) (suc r) p new other = has_other rows i r p new (λ e. other (omega arith))

pub has_none : (rows : List Row) (r p : ℕ) → (r < length rows → ⊥) → has rows r p ≡ false
has_none [] r p out = refl
has_none (x ∷ rows) zero p out = absurd (out (omega arith))
has_none (x ∷ rows) (suc r) p out = has_none rows r p (λ lt. out (omega arith))

-- one more row
push_places : (rows : List Row) (x : Row) (r p : ℕ) → has rows r p ≡ true → has (rows ++ x ∷ []) r p ≡ true
push_places [] x r p h = absurd cc
push_places (y ∷ rows) x zero p h = h
push_places (y ∷ rows) x (suc r) p h = push_places rows x r p h

push_order : (rows : List Row) (x : Row) → ascends x.queue.items ≡ true → are_ordered rows ≡ true → are_ordered (rows ++ x ∷ []) ≡ true
push_order [] x new h = all_of (ascends x.queue.items) true new refl
push_order (y ∷ rows) x new h =
    let parts = both (ascends y.queue.items) (are_ordered rows) h in
    all_of (ascends y.queue.items) (are_ordered (rows ++ x ∷ [])) parts.0 (push_order rows x new parts.1)

pub push_kept : (rows : List Row) (x : Row) → ascends x.queue.items ≡ true → KeepPlaces rows (rows ++ x ∷ [])
push_kept rows x new = record { places = push_places rows x; order = push_order rows x new }

pub kept_again : (old rows new : List Row) → KeepPlaces old rows → KeepPlaces rows new → KeepPlaces old new
kept_again old rows new first second = record { places = λ r p h. second.places r p (first.places r p h); order = λ h. second.order (first.order h) }
