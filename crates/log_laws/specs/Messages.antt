-- Messages and the entries that end them; and documents that act no more.
use Rattle.std.specs.Prelude.{◌≡◌, ◌≢◌, ◌<◌, ℕ, List, [], ◌∷◌, Option, Some, true, false}
use Rattle.origin_core.specs.declared.origin.Origin.{Origin}
use Rattle.plain_data.specs.declared.data.Data.{Data}
use Rattle.tree_log.specs.declared.entry.Cause.{Cause}
use Rattle.tree_log.specs.declared.entry.Cause.TheVariants as causes
use Rattle.tree_log.specs.declared.entry.Entry.{Entry}
use Rattle.tree_log.specs.declared.entry.Target.{Target}
use Rattle.tree_log.specs.declared.entry.What.{What}
use Rattle.tree_log.specs.declared.entry.What.TheVariants.{Post, Fire}
use Rattle.tree_log.specs.Log.{entry_at, prefix}
use Rattle.tree_log.specs.Tree.{Tree, tree_of, home_of, origin_of, is_active}
use Rattle.coordinator_rules.specs.NextTask.{is_for}

-- the document acts in none of the entries
abbrev pub IsActorOfNone : ℕ → List Entry → Type 0
IsActorOfNone d [] = Unit {0}
IsActorOfNone d (e ∷ es) = (e.actor ≢ Some d) × IsActorOfNone d es

-- the entry at place post is a message to this document, for documents of this target
pub record IsMessage (log : List Entry) (post to : ℕ) (target : Target) : Type 0 where
  pub entry : Entry
  pub from : ℕ
  pub origin : Origin
  pub body : Data
  pub stands : entry_at log post ≡ Some entry
  pub posted : entry.what ≡ Post to from origin target body

-- the entry at place q fires the message at place post as it should, on the log before it: the message is one to this very
-- document, the document is active and of an origin that the message is for, and the renderer is its home
pub record HasFired (log : List Entry) (q : ℕ) (by : Option ℕ) (doc post : ℕ) : Type 0 where
  pub target : Target
  pub message : IsMessage log post doc target
  pub earlier : post < q
  pub active : is_active (tree_of (prefix q log)) doc ≡ true
  pub wanted : is_for target (origin_of (tree_of (prefix q log)) doc) ≡ true
  pub home : by ≡ Some (home_of (tree_of (prefix q log)) doc)

-- the document isn't active; or it is, and of an origin that the message isn't for
abbrev pub IsCause : Tree → ℕ → Target → Cause → Type 0
IsCause t doc target causes.Inactive = is_active t doc ≡ false
IsCause t doc target causes.Origin = (is_active t doc ≡ true) × (is_for target (origin_of t doc) ≡ false)

-- the entry at place q lets the message at place post lapse as it should, on the log before it
pub record HasLapsed (log : List Entry) (q : ℕ) (by : Option ℕ) (doc post : ℕ) (cause : Cause) : Type 0 where
  pub target : Target
  pub message : IsMessage log post doc target
  pub earlier : post < q
  pub why : IsCause (tree_of (prefix q log)) doc target cause
  pub home : by ≡ Some (home_of (tree_of (prefix q log)) doc)

-- what fires does so at the document that the message is to
abbrev pub IsAtItsOwn : List Entry → What → Type 0
IsAtItsOwn log (Fire doc post) = (target : Target) × IsMessage log post doc target
IsAtItsOwn log _ = Unit {0}
