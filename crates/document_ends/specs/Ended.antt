-- At which place of a log a document ended: the first at which it was replaced, or at which something that it stands in was cut.
use Rattle.std.specs.Prelude.{◌≡◌, ◌<◌, ℕ, List, [], ◌∷◌, length, Option, Some, None, nat_lt, if◌then◌else◌}
use Rattle.std.specs.BTreeMap as map
use Rattle.std.specs.BTreeMap.{BTreeMap}
use Rattle.std.specs.Option.{option_or}
use Rattle.std.specs.Ordering.{nat_cmp}
use Rattle.document_ends.specs.declared.ends.Ends.{Ends}
use Rattle.tree_log.specs.declared.entry.Entry.{Entry}
use Rattle.tree_log.specs.declared.entry.What.{What}
use Rattle.tree_log.specs.declared.entry.What.TheVariants.{Frame, Drop, Gone, Commit}
use Rattle.tree_log.specs.Facts.{at}
use Rattle.tree_log.specs.Tree.{Tree, tree_of, embedder, nav_of, chain, is_discarded}

-- PLACES

-- the lesser of two places, of those that are there
abbrev pub sooner : Option ℕ → Option ℕ → Option ℕ
sooner None b = b
sooner (Some a) None = Some a
sooner (Some a) (Some b) = Some (if nat_lt b a then b else a)

-- the least of the places that a list of navigables has
abbrev pub soonest : (ℕ → Option ℕ) → List ℕ → Option ℕ
soonest place [] = None
soonest place (n ∷ ns) = sooner (place n) (soonest place ns)

-- WHAT AN ENTRY ENDS

-- the navigable that an entry drops or closes
abbrev pub cut_by : ℕ → ℕ → What → Option ℕ
cut_by place n (Drop nav) = at n nav place
cut_by place n (Gone nav) = at n nav place
cut_by place n _ = None

-- The document that a commit replaces. One that is committed in a navigable that was discarded is never active: it ended from the
-- beginning.
abbrev pub ended_by : Tree → ℕ → ℕ → What → Option ℕ
ended_by t place d (Commit nav doc _) = if is_discarded t nav then at d doc 0 else at d (t.nav nav).active place
ended_by t place d _ = None

-- WHAT A LOG ENDED

-- the first place at which n was dropped or closed
abbrev pub first_cut : List Entry → ℕ → Option ℕ
first_cut [] n = None
first_cut (e ∷ older) n = option_or (first_cut older n) (cut_by (length older) n e.what)

-- the first place at which d itself ended
abbrev pub own_end : List Entry → ℕ → Option ℕ
own_end [] d = None
own_end (e ∷ older) d = option_or (own_end older d) (ended_by (tree_of older) (length older) d e.what)

abbrev pub end_if_any : List Entry → Option ℕ → Option ℕ
end_if_any log None = None
end_if_any log (Some d) = own_end log d

-- the first place at which n was cut, or the document that embeds it ended
abbrev pub cut_end : List Entry → ℕ → Option ℕ
cut_end log n = sooner (first_cut log n) (end_if_any log (embedder (tree_of log) n))

-- the first such place of n and of the navigables above it
abbrev pub nav_end : List Entry → ℕ → Option ℕ
nav_end log n = soonest (cut_end log) (chain (tree_of log) n)

-- the first place at which d ended, or something that it stands in
abbrev pub first_end : List Entry → ℕ → Option ℕ
first_end log d = sooner (own_end log d) (nav_end log (nav_of (tree_of log) d))

-- ROWS

abbrev pub row_of : BTreeMap ℕ ℕ → ℕ → Option ℕ
row_of rows number = map.get nat_cmp rows number

-- the rows are those of a log
pub record IsFed (ends : Ends) (log : List Entry) : Type 0 where
  pub cuts : (n : ℕ) → row_of ends.cuts n ≡ first_cut log n
  pub documents : (d : ℕ) → row_of ends.documents d ≡ own_end log d
  pub embedders : (n : ℕ) → row_of ends.embedders n ≡ embedder (tree_of log) n

-- a row takes a number that it doesn't have
abbrev pub IsPut : ℕ → ℕ → BTreeMap ℕ ℕ → BTreeMap ℕ ℕ → Type 0
IsPut key place old new = (number : ℕ) → row_of new number ≡ option_or (row_of old number) (at number key place)

abbrev pub IsSame : BTreeMap ℕ ℕ → BTreeMap ℕ ℕ → Type 0
IsSame old new = (number : ℕ) → row_of new number ≡ row_of old number

-- the document of a Frame entry embeds its navigable
abbrev pub embedded_at : ℕ → ℕ → Option ℕ → Option ℕ
embedded_at n nav None = None
embedded_at n nav (Some d) = at n nav d

abbrev pub embeds : ℕ → Option ℕ → What → Option ℕ
embeds n actor (Frame nav _ _ _ _ _ _) = embedded_at n nav actor
embeds n actor _ = None

abbrev pub IsEmbedded : ℕ → Option ℕ → BTreeMap ℕ ℕ → BTreeMap ℕ ℕ → Type 0
IsEmbedded nav actor old new = (number : ℕ) → row_of new number ≡ option_or (row_of old number) (embedded_at number nav actor)

-- what an entry names is there
abbrev pub Stands : Tree → What → Type 0
Stands t (Commit nav doc _) = nav < t.navs
Stands t _ = Unit {0}

-- what happened at a place was taken in
pub record IsTaken (t : Tree) (place : ℕ) (actor : Option ℕ) (w : What) (old new : Ends) : Type 0 where
  pub cuts : (n : ℕ) → row_of new.cuts n ≡ option_or (row_of old.cuts n) (cut_by place n w)
  pub documents : (d : ℕ) → row_of new.documents d ≡ option_or (row_of old.documents d) (ended_by t place d w)
  pub embedders : (n : ℕ) → row_of new.embedders n ≡ option_or (row_of old.embedders n) (embeds n actor w)

-- nothing has changed
pub record IsKept (old new : Ends) : Type 0 where
  pub cuts : IsSame old.cuts new.cuts
  pub documents : IsSame old.documents new.documents
  pub embedders : IsSame old.embedders new.embedders
