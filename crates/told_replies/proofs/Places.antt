-- What stands at a place of a log to which newer entries are joined.
use Rattle.std.proofs.Common.{◌≡◌, ℕ, suc, ◌+◌, ◌-◌, ◌<◌, ◌≤◌, ◌^◌, List, [], ◌∷◌, ◌++◌, length, Some, None, Bool, true, false, refl, ap, ◌∙◌, arith, inl, inr, eq-eqb}
use Rattle.std.specs.Prelude.{◌==◌, if◌then◌else◌}
use Rattle.std.proofs.lemmas.Bool.{ne_eqb}
use Rattle.std.proofs.lemmas.Bool.Decides.{eqb_tells}
use Rattle.std.proofs.lemmas.List.{length-append}
use Rattle.tree_log.specs.declared.entry.Entry.{Entry}
use Rattle.tree_log.specs.Log.{entry_at}
use Rattle.request_decisions.specs.Made.{entries_of}
use Rattle.request_decisions.specs.declared.decisions.Made.{Made}
use Rattle.request_decisions.specs.declared.decisions.Made.TheVariants.{Nothing, One, Two}

-- at a place of the log its entry
pub of_the_log : (newer log : List Entry) (place : ℕ) → place < length log → entry_at (newer ++ log) place ≡ entry_at log place
unfolding entry_at
of_the_log [] log place lt = refl
of_the_log (e ∷ newer) log place lt =
    let more : length (newer ++ log) ≡ length newer + length log = length-append newer log in
    rw (ne_eqb (length (newer ++ log)) place (λ is. absurd (omega arith))) (of_the_log newer log place lt)

past : (log : List Entry) (place : ℕ) → length log ≤ place → entry_at log place ≡ None
unfolding entry_at
past [] place le = refl
past (e ∷ log) place le = rw (ne_eqb (length log) place (λ is. absurd (omega arith))) (past log place (omega arith))

-- and behind them the newer ones
pub of_the_newest : (newer log : List Entry) (place : ℕ) → length log ≤ place → entry_at (newer ++ log) place ≡ entry_at newer (place - length log)
unfolding entry_at
of_the_newest [] log place le = past log place le
of_the_newest (e ∷ newer) log place le =
    let more : length (newer ++ log) ≡ length newer + length log = length-append newer log in
    elim (eqb_tells (length newer) (place - length log)) as (λ _. (if length (newer ++ log) == place then Some e else entry_at (newer ++ log) place) ≡ (if length newer == place - length log then Some e else entry_at newer (place - length log))) [
      | inl same ↦
          let here : (length (newer ++ log) == place) ≡ true = eq-eqb (length (newer ++ log)) place (let is : length newer ≡ place - length log = same.1 in omega arith) in
          rw (here, same.0) refl
      | inr other ↦
          let apart : (length (newer ++ log) == place) ≡ false = ne_eqb (length (newer ++ log)) place (λ is. other.1 (omega arith)) in
          rw (apart, other.0) (of_the_newest newer log place le)
    ]

pub place_within : (log : List Entry) (place : ℕ) (e : Entry) → Some e ≡ entry_at log place → place < length log
unfolding entry_at
place_within [] place e is = absurd cc
place_within (x ∷ older) place e is = elim (eqb_tells (length older) place) as (λ _. place < suc (length older)) [
  | inl same ↦ omega (arith, same.1)
  | inr other ↦ let lt : place < length older = place_within older place e (is ∙ ap (λ (b : Bool). if b then Some x else entry_at older place) other.0) in omega arith
]

made_few : (made : Made) → length (entries_of made) ≤ 2
made_few Nothing = omega arith
made_few (One entry) = omega arith
made_few (Two first second) = omega arith

-- the places are few enough
pub place_small : (made : Made) (log : List Entry) (place : ℕ) (e : Entry) → Some e ≡ entry_at (entries_of made ++ log) place → length log < 2 ^ 30 → place + 1 < 2 ^ 32
place_small made log place e is few =
    let lt : place < length (entries_of made ++ log) = place_within (entries_of made ++ log) place e is in
    omega (arith, length-append (entries_of made) log, made_few made)
