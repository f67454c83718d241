-- An entry that sets an opener leaves the rows: it ends nothing.
use Rattle.std.proofs.Common.{◌≡◌, ℕ, List, ◌∷◌, length, Option, sym, subst}
use Rattle.tree_log.specs.Admits.{AreAdmitted}
use Rattle.tree_log.specs.declared.entry.Entry.{Entry}
use Rattle.tree_log.specs.declared.entry.What.{What}
use Rattle.tree_log.specs.declared.entry.What.TheVariants.{Opener}
use Rattle.tree_log.specs.Tree.{Tree, tree_of}
use Rattle.document_ends.specs.declared.ends.Ends.{Ends}
use Rattle.document_ends.specs.Ended.{row_of, IsFed, IsTaken}
use Rattle.document_ends.proofs.Feeding.{fed_next}
use Rattle.document_ends.proofs.Walks.{or_none}

opener_taken : (t : Tree) (place : ℕ) (actor : Option ℕ) (nav : ℕ) (to : Option ℕ) (ends : Ends) → IsTaken t place actor (Opener nav to) ends ends
opener_taken t place actor nav to ends = record {
  cuts = λ n. sym (or_none (row_of ends.cuts n));
  documents = λ d. sym (or_none (row_of ends.documents d));
  embedders = λ n. sym (or_none (row_of ends.embedders n));
}

pub openers_fed : (ends : Ends) (e : Entry) (log : List Entry) (nav : ℕ) (to : Option ℕ) → AreAdmitted (e ∷ log) → e.what ≡ Opener nav to → IsFed ends log → IsFed ends (e ∷ log)
openers_fed ends e log nav to all is fed =
    fed_next e log ends ends all fed (subst (λ (w : What). IsTaken (tree_of log) (length log) e.actor w ends ends) (sym is) (opener_taken (tree_of log) (length log) e.actor nav to ends))
