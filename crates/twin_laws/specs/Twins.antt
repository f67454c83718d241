-- Two logs that a renderer can't tell apart.
use Rattle.std.specs.Prelude.{◌≡◌, ◌<◌, ℕ, List, [], ◌∷◌, Option, Some, None, Bool}
use Rattle.tree_log.specs.declared.entry.Entry.{Entry}
use Rattle.tree_log.specs.declared.entry.Load.{Load}
use Rattle.tree_log.specs.declared.entry.Target.TheVariants as targets
use Rattle.tree_log.specs.declared.entry.Cause.TheVariants as causes
use Rattle.tree_log.specs.declared.entry.What.{What}
use Rattle.tree_log.specs.declared.entry.What.TheVariants.{Open, Frame, Begin, Fragment, Post, Fire, Lapse}
use Rattle.plain_data.specs.declared.data.Data.TheVariants as data'
use Rattle.tree_log.specs.Blanking.{blank, is_homed}
use Rattle.tree_log.specs.Tree.{Tree, tree_of, home_of}

abbrev pub bare_load : Load → Load
bare_load load = record load { url = [] }

abbrev pub bare_load_or_none : Option Load → Option Load
bare_load_or_none None = None
bare_load_or_none (Some load) = Some (bare_load load)

-- what happened, without URLs, without targets and data of messages, and without how a message ended
abbrev pub bare_what : What → What
bare_what (Open nav doc group home origin name opener flags navigator load) = Open nav doc group home origin name opener flags navigator (bare_load_or_none load)
bare_what (Frame nav doc home origin name flags load) = Frame nav doc home origin name flags (bare_load_or_none load)
bare_what (Begin nav load) = Begin nav (bare_load load)
bare_what (Fragment nav doc url) = Fragment nav doc []
bare_what (Post to from origin _ body) = Post to from origin targets.Never data'.Undefined
bare_what (Fire doc post) = Lapse doc post causes.Inactive
bare_what (Lapse doc post _) = Lapse doc post causes.Inactive
bare_what what = what

abbrev pub bare : Entry → Entry
bare e = record { by = e.by; actor = e.actor; what = bare_what e.what }

-- the same entry, but for what one who may see the kept documents isn't shown
pub record IsTwin (kept : ℕ → Bool) (a b : Entry) : Type 0 where
  pub same_bare : bare a ≡ bare b
  pub same_blank : blank kept a ≡ blank kept b

-- twin logs for renderer r: each pair of entries is the same but for what r isn't told, by the homes once the entry stands
abbrev pub TwinLogs : ℕ → List Entry → List Entry → Type 0
TwinLogs r [] [] = Unit {0}
TwinLogs r (a ∷ left) (b ∷ right) = IsTwin (is_homed (tree_of (a ∷ left)) r) a b × TwinLogs r left right
TwinLogs r [] (b ∷ right) = ⊥
TwinLogs r (a ∷ left) [] = ⊥

-- LOGS WHOSE HOMES STAY

-- a message is for a document that is there
abbrev pub IsForThere : Tree → What → Type 0
IsForThere t (Post to _ _ _ _) = to < t.docs
IsForThere t w = Unit {0}

abbrev pub KeepsHomes : Tree → Tree → Type 0
KeepsHomes t s = (d : ℕ) → d < t.docs → home_of s d ≡ home_of t d

-- each message of the log is for a document that is there by then, and no entry gives a document that is there another home
abbrev pub HomesStay : List Entry → Type 0
HomesStay [] = Unit {0}
HomesStay (e ∷ older) = IsForThere (tree_of older) e.what × KeepsHomes (tree_of older) (tree_of (e ∷ older)) × HomesStay older
