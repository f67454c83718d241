-- Who made the entries of an exchange, and who acted in them.
use Rattle.std.specs.Prelude.{◌≡◌, ℕ, List, [], ◌∷◌, Option, Some, Bool, true, false}
use Rattle.tree_log.specs.declared.entry.Entry.{Entry}
use Rattle.tree_log.specs.Tree.{tree_of, home_of, is_active}
use Rattle.agent_terms.specs.declared.request.Request.{Request}
use Rattle.agent_terms.specs.declared.request.Request.TheVariants as ask
use Rattle.coordinator_rules.specs.Decision.{asker_of}

-- whether no document asks: for the next task, and for the rest of a reply
unfoldable pub has_no_asker : Request → Bool
has_no_asker ask.Next = true
has_no_asker ask.More = true
has_no_asker _ = false

-- each entry is renderer r's, and acted by this document or by none
abbrev pub AreActedBy : ℕ → Option ℕ → List Entry → Type 0
AreActedBy r actor [] = Unit {0}
AreActedBy r actor (e ∷ es) = ((e.by ≡ Some r) × (e.actor ≡ actor)) × AreActedBy r actor es

-- the asker is an active document of renderer r, and acts in each of the entries
pub record IsFenced (log : List Entry) (r : ℕ) (q : Request) (es : List Entry) : Type 0 where
  pub active : is_active (tree_of log) (asker_of q) ≡ true
  pub home : home_of (tree_of log) (asker_of q) ≡ r
  pub acted : AreActedBy r (Some (asker_of q)) es
