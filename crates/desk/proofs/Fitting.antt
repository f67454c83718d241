-- What is decided on bytes keeps the log in range of frames.
use Rattle.std.proofs.Common.{◌≡◌, ℕ, ◌<◌, ◌^◌, List, [], ◌∷◌, ◌++◌, length, reverse, subst, arith}
use Rattle.std.specs.List.{AllByRecursion}
use Rattle.std.proofs.lemmas.List.Elements.{All-from_recursion, recursion_from_All}
use Rattle.std.proofs.lemmas.List.Sorted.{All-permutation, IsPermutation-reverse}
use Rattle.coordinator_rules.specs.Decision.{Rules}
use Rattle.exchange_laws.specs.Fit.{IsFitLog}
use Rattle.exchange_laws.proofs.Fit.Joined.{log_fits}
use Rattle.link_fields.specs.Lawful.{IsBytes}
use Rattle.tree_log.specs.Range.{AreInRange, IsInRange}
use Rattle.tree_log.specs.declared.entry.Entry.{Entry}
use Rattle.desk.proofs.Joining.{by_answer, may_join}
use Rattle.desk.proofs.Told.{joined_short}
use Rattle.desk.specs.Books.{KeepsFit}
use Rattle.desk.specs.Serving.{answered}

abbrev InRange : Entry → Type 0
InRange e = IsInRange e.what

pub answered_keeps : (rules : Rules) (log : List Entry) (r : ℕ) (bytes : List ℕ) → IsBytes bytes → r < rules.renderers → KeepsFit rules (answered rules log r bytes).entries log
answered_keeps rules log r bytes small lt = record {
  kept = λ f range.
      by_answer (λ es. AreInRange es → length (es ++ log) < 2 ^ 30 → IsFitLog rules (es ++ log)) rules log r bytes small (λ none few. f)
      (λ q is room. log_fits rules log r q f is (let few = f.few in omega arith))
      range (joined_short (answered rules log r bytes).entries log (may_join rules log r bytes small f.admitted f.short).room f.short);
}

-- THE ENTRIES OF A LOG

-- in either order
pub range_turned : (stored log : List Entry) → reverse stored ≡ log → AreInRange stored → AreInRange log
range_turned stored log is range = subst AreInRange is (All-permutation InRange stored (reverse stored) (IsPermutation-reverse stored) range)

-- and the newest of them
newest : (es log : List Entry) → AllByRecursion InRange (es ++ log) → AllByRecursion InRange es
newest [] log range = tt
newest (e ∷ es) log range = (range.0, newest es log range.1)

pub range_newest : (es log now : List Entry) → now ≡ es ++ log → AreInRange now → AreInRange es
range_newest es log now is range = All-from_recursion InRange es (newest es log (recursion_from_All InRange (es ++ log) (subst AreInRange is range)))
