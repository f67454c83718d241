-- The entries that a renderer is told, one by one.
use Rattle.std.proofs.Common.{◌≡◌, ℕ, zero, suc, ◌+◌, ◌-◌, ◌≤◌, List, [], ◌∷◌, ◌++◌, length, take, drop, map, reverse, Some, Bool, refl, sym, ap, subst, ◌∙◌, arith, inl, inr}
use Rattle.std.specs.Prelude.{slice_get, if◌then◌else◌}
use Rattle.std.specs.Option.{option_map}
use Rattle.std.proofs.lemmas.Bool.{cases_lt}
use Rattle.std.proofs.lemmas.Bool.Decides.{eqb_tells}
use Rattle.std.proofs.lemmas.Option.{slice_get-map}
use Rattle.std.proofs.lemmas.List.{length-drop, length-map, length-reverse, reverse-append, reverse-reverse, map-append, take-append-drop, drop_at, drop_all, drop-map}
use Rattle.tree_log.specs.declared.entry.Entry.{Entry}
use Rattle.tree_log.specs.Admits.{AreAdmitted}
use Rattle.tree_log.specs.Blanking.{blank, is_homed}
use Rattle.tree_log.specs.Log.{entry_at}
use Rattle.tree_log.specs.Tree.{tree_of}
use Rattle.tree_log.proofs.Places.{at_reversed}
use Rattle.coordinator_rules.specs.Told.{news_from}
use Rattle.told_replies.specs.Within.{IsWithin}
use Rattle.told_replies.proofs.Homes.{AllWithin, told_by_homes}

-- LISTS READ FROM BEHIND

map_reversed : {A B : Type 0} (f : A → B) (xs : List A) → map f (reverse xs) ≡ reverse (map f xs)
map_reversed f [] = refl
map_reversed f (x ∷ xs) =
    ap (map f) (reverse-append (x ∷ []) xs)
    ∙ map-append f (reverse xs) (x ∷ [])
    ∙ ap (λ ys. ys ++ f x ∷ []) (map_reversed f xs)
    ∙ sym (reverse-append (f x ∷ []) (map f xs))

front_reversed : {A : Type 0} (xs : List A) (n : ℕ) → reverse (take (length xs - n) xs) ≡ drop n (reverse xs)
front_reversed {A} xs n = elim (cases_lt n (length xs)) as (λ _. reverse (take (length xs - n) xs) ≡ drop n (reverse xs)) [
  | inl lt ↦
      let count : length (reverse (drop (length xs - n) xs)) ≡ n = omega (arith, length-reverse (drop (length xs - n) xs), length-drop (length xs - n) xs) in
      sym (ap (λ ys. drop n (reverse ys)) (sym (take-append-drop (length xs - n) xs))
      ∙ ap (drop n) (reverse-append (take (length xs - n) xs) (drop (length xs - n) xs))
      ∙ drop_at (reverse (drop (length xs - n) xs)) (reverse (take (length xs - n) xs)) n count)
  | inr le ↦
      let none : length xs - n ≡ 0 = omega arith in
      ap (λ k. reverse (take k xs)) none ∙ sym (drop_all n (reverse xs) (omega (arith, length-reverse xs)))
]

get_dropped : {A : Type 0} (n : ℕ) (xs : List A) (k : ℕ) → slice_get (drop n xs) k ≡ slice_get xs (n + k)
get_dropped zero xs k = ap (slice_get xs) (omega arith)
get_dropped (suc n) [] k = refl
get_dropped (suc n) (x ∷ xs) k = get_dropped n xs k ∙ ap (slice_get (x ∷ xs)) (let e : suc (n + k) ≡ suc n + k = omega arith in e)

-- WHAT IS TOLD

news_are : (r from : ℕ) (log : List Entry) → AreAdmitted log → news_from r from log ≡ map (blank (is_homed (tree_of log) r)) (drop from (reverse log))
news_are r from log h =
    let f : Entry → Entry = blank (is_homed (tree_of log) r) in
    ap (λ (es : List Entry). reverse (take (length log - from) es)) (told_by_homes r log h)
    ∙ ap (λ (n : ℕ). reverse (take (n - from) (map f log))) (sym (length-map log f))
    ∙ front_reversed (map f log) from
    ∙ ap (drop from) (sym (map_reversed f log))
    ∙ drop-map f from (reverse log)

-- the news one by one: the entries of the log from the place on, each as the homes on the whole log tell it
pub news_at : (r from : ℕ) (log : List Entry) (place : ℕ) → AreAdmitted log → from ≤ place → slice_get (news_from r from log) (place - from) ≡ option_map (blank (is_homed (tree_of log) r)) (entry_at log place)
news_at r from log place h le =
    let f : Entry → Entry = blank (is_homed (tree_of log) r) in
    ap (λ (es : List Entry). slice_get es (place - from)) (news_are r from log h)
    ∙ slice_get-map f (drop from (reverse log)) (place - from)
    ∙ ap (option_map f) (get_dropped from (reverse log) (place - from) ∙ ap (slice_get (reverse log)) (let e : from + (place - from) ≡ place = omega arith in e) ∙ at_reversed (reverse log) place ∙ ap (λ (es : List Entry). entry_at es place) (reverse-reverse log))

-- each is of a document that is there
pub within_at : (docs : ℕ) (log : List Entry) → AllWithin docs log → (place : ℕ) (e : Entry) → entry_at log place ≡ Some e → IsWithin docs e.what
unfolding entry_at
within_at docs [] h place e is = absurd cc
within_at docs (x ∷ older) h place e is = elim (eqb_tells (length older) place) as (λ _. IsWithin docs e.what) [
  | inl same ↦ let here : Some x ≡ Some e = sym (ap (λ (b : Bool). if b then Some x else entry_at older place) same.0) ∙ is in let one : x ≡ e = cc in subst (λ (y : Entry). IsWithin docs y.what) one h.0
  | inr other ↦ within_at docs older h.1 place e (sym (ap (λ (b : Bool). if b then Some x else entry_at older place) other.0) ∙ is)
]
