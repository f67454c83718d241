-- Whose a document is.
use Rattle.std.proofs.Common.{◌≡◌, ℕ, ◌≤◌, ◌<◌, List, None, Bool, true, false, refl, arith}
use Rattle.agent_laws.proofs.Groups.Well.{admitted_well}
use Rattle.coordinator_rules.specs.Decision.{home_if_active}
use Rattle.tree_log.specs.Admits.{AreAdmitted}
use Rattle.tree_log.specs.Tree.{Tree, tree_of}
use Rattle.tree_log.specs.declared.entry.Entry.{Entry}

pub home_none : (t : Tree) (d : ℕ) → (t.doc d).been_active ≡ false → home_if_active t d ≡ None
home_none t d h = rw h refl

-- a document that wasn't made was never active
pub not_there : (log : List Entry) (d : ℕ) → AreAdmitted log → (tree_of log).docs ≤ d → ((tree_of log).doc d).been_active ≡ false
not_there log d all far = never ((tree_of log).doc d).been_active refl where
  never : (b : Bool) → ((tree_of log).doc d).been_active ≡ b → b ≡ false
  never true h = let lt : d < (tree_of log).docs = (admitted_well log all).shown d h in absurd (omega arith)
  never false h = refl
