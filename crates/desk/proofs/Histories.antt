-- The history of a log and of tellings, as both grow.
use Rattle.std.proofs.Common.{◌≡◌, ℕ, zero, suc, ◌-◌, ◌≤◌, List, [], ◌∷◌, ◌++◌, length, take, Bool, true, false, refl, ap, ◌∙◌, arith, length-append, if◌then◌else◌}
use Rattle.std.specs.Prelude.{nat_le, ◌==◌}
use Rattle.std.proofs.lemmas.Bool.Decides.{nat_tests}
use Rattle.tree_log.specs.declared.entry.Entry.{Entry}
use Rattle.tree_log.specs.Log.{prefix}
use Rattle.tree_log.proofs.Places.{prefix_whole}
use Rattle.desk.specs.declared.item.Item.{Item}
use Rattle.desk.specs.declared.item.Item.TheVariants.{Entered, Told}
use Rattle.desk.specs.declared.telling.Telling.{Telling}
use Rattle.desk.specs.History.{log_of, told_of, entered, newer, history, told_in, newest_at}

-- what joined after a length, and what stood before

split_if : (k : ℕ) (e : Entry) (older : List Entry) (b : Bool) → nat_le k (length older) ≡ b → newer k older ++ prefix k older ≡ older
    → take (suc (length older) - k) (e ∷ older) ++ (if b then prefix k older else e ∷ older) ≡ e ∷ older
split_if k e older true q below = let m : suc (length older) - k ≡ suc (length older - k) = grind (arith, nat_tests) in rw m (ap (λ es. e ∷ es) below)
split_if k e older false q below = let m : suc (length older) - k ≡ 0 = grind (arith, nat_tests) in rw m refl

pub split : (k : ℕ) (log : List Entry) → newer k log ++ prefix k log ≡ log
unfolding prefix
split k [] = nothing (0 - k) where
  nothing : (n : ℕ) → take n (let none : List Entry = [] in none) ++ [] ≡ []
  nothing zero = refl
  nothing (suc n) = refl
split k (e ∷ older) = split_if k e older (nat_le k (length older)) refl (split k older)

-- THE LOG OF A HISTORY

pub log_of_entered : (es : List Entry) (items : List Item) → log_of (entered es ++ items) ≡ es ++ log_of items
log_of_entered [] items = refl
log_of_entered (e ∷ es) items = ap (λ rest. e ∷ rest) (log_of_entered es items)

append-nil : (es : List Entry) → es ++ [] ≡ es
append-nil [] = refl
append-nil (e ∷ es) = ap (λ rest. e ∷ rest) (append-nil es)

only_entered : (es : List Entry) → log_of (entered es) ≡ es
only_entered [] = refl
only_entered (e ∷ es) = ap (λ rest. e ∷ rest) (only_entered es)

pub log_of_history : (ts : List Telling) (log : List Entry) → log_of (history log ts) ≡ log
log_of_history [] log = only_entered log
log_of_history (t ∷ older) log =
    log_of_entered (newer t.at log) (Told t.renderer t.upto ∷ history (prefix t.at log) older)
    ∙ ap (λ rest. newer t.at log ++ rest) (log_of_history older (prefix t.at log)) ∙ split t.at log

-- WHAT WAS TOLD

pub told_of_entered : (es : List Entry) (items : List Item) (r : ℕ) → told_of (entered es ++ items) r ≡ told_of items r
told_of_entered [] items r = refl
told_of_entered (e ∷ es) items r = told_of_entered es items r

none_told : (es : List Entry) (r : ℕ) → told_of (entered es) r ≡ 0
none_told [] r = refl
none_told (e ∷ es) r = none_told es r

pub told_of_history : (ts : List Telling) (log : List Entry) (r : ℕ) → told_of (history log ts) r ≡ told_in ts r
told_of_history [] log r = none_told log r
told_of_history (t ∷ older) log r =
    told_of_entered (newer t.at log) (Told t.renderer t.upto ∷ history (prefix t.at log) older) r
    ∙ ap (λ told. if t.renderer == r then t.upto else told) (told_of_history older (prefix t.at log) r)

-- GROWTH

-- an entry joins
pub history_pushed : (ts : List Telling) (e : Entry) (log : List Entry) → newest_at ts ≤ length log → history (e ∷ log) ts ≡ Entered e ∷ history log ts
unfolding prefix
history_pushed [] e log h = refl
history_pushed (t ∷ older) e log h =
    let m : suc (length log) - t.at ≡ suc (length log - t.at) = omega arith in
    let b : nat_le t.at (length log) ≡ true = grind (arith, nat_tests) in
    rw (m, b) refl

-- and so do several
pub history_entered : (ts : List Telling) (es log : List Entry) → newest_at ts ≤ length log → history (es ++ log) ts ≡ entered es ++ history log ts
history_entered ts [] log h = refl
history_entered ts (e ∷ es) log h = history_pushed ts e (es ++ log) (let l = length-append es log in omega arith) ∙ ap (λ items. Entered e ∷ items) (history_entered ts es log h)

-- a renderer is told
pub history_told : (ts : List Telling) (log : List Entry) (r upto : ℕ) → history log (record { renderer = r; upto = upto; at = length log } ∷ ts) ≡ Told r upto ∷ history log ts
history_told ts log r upto =
    let m : length log - length log ≡ 0 = omega arith in
    rw m (ap (λ l. Told r upto ∷ history l ts) (prefix_whole log (length log) (omega arith)))
