-- An entry that sets an opener leaves the rows: it leaves nothing to be done.
use Rattle.std.proofs.Common.{◌≡◌, ℕ, List, ◌∷◌, length, Option, Some, None, refl, sym, subst}
use Rattle.std.specs.Option.{option_or}
use Rattle.tree_log.specs.Admits.{AreAdmitted}
use Rattle.tree_log.specs.declared.entry.Entry.{Entry}
use Rattle.tree_log.specs.declared.entry.What.{What}
use Rattle.tree_log.specs.declared.entry.What.TheVariants.{Opener}
use Rattle.tree_log.specs.Tree.{Tree, tree_of}
use Rattle.task_index.specs.declared.waiting.Waiting.{Waiting}
use Rattle.task_index.specs.Fed.{closing_in, IsFed, IsTaken}
use Rattle.task_index.proofs.Feeding.{fed_next}

or_none : (o : Option ℕ) → option_or o None ≡ o
or_none None = refl
or_none (Some place) = refl

opener_taken : (log : List Entry) (t : Tree) (place nav : ℕ) (to : Option ℕ) (waiting : Waiting) → IsTaken log t place (Opener nav to) waiting waiting
opener_taken log t place nav to waiting = record {
  over = λ post. refl;
  early = λ doc post. refl;
  closings = λ n. sym (or_none (closing_in waiting n));
  places = record { places = λ r p h. h; order = λ h. h };
  due = tt;
}

pub openers_fed : (waiting : Waiting) (e : Entry) (log : List Entry) (nav : ℕ) (to : Option ℕ) → AreAdmitted (e ∷ log) → e.what ≡ Opener nav to → IsFed waiting log → IsFed waiting (e ∷ log)
openers_fed waiting e log nav to all is fed =
    fed_next e log all waiting waiting fed (subst (λ (w : What). IsTaken log (tree_of (e ∷ log)) (length log) w waiting waiting) (sym is) (opener_taken log (tree_of (e ∷ log)) (length log) nav to waiting))
