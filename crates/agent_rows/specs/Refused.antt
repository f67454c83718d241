-- Entries that can't follow the log of a window and its frame, whose page hasn't come.
use Rattle.std.specs.Prelude.{◌≡◌, refl, ℕ, Option, Some, None, Bool, false, codes}
use Rattle.tree_log.specs.declared.entry.Load.{Load}
use Rattle.tree_log.specs.declared.entry.What.{What}
use Rattle.tree_log.specs.declared.entry.What.TheVariants.{Frame, Drop, Begin, Commit, Opener, Fire, Lost, Sync, Hidden}
use Rattle.tree_log.specs.Tree.{tree_of, is_active, is_discarded, chain}
use Rattle.tree_log.specs.Admits.{admits}
use Rattle.agent_rows.specs.Logs.{site, a_test, load}
use Rattle.agent_rows.specs.Growing.{waiting}

unfoldable pub follows : Option ℕ → Option ℕ → What → Bool
unfolding admits tree_of is_active is_discarded chain
follows by actor what = admits (tree_of waiting) (record { by = by; actor = actor; what = what })

abbrev pub page : ℕ → Load
page doc = load doc 0 (site (codes "c.test")) (codes "https://c.test/")

-- a number that is used, or isn't the next one
pub used_navigable : follows (Some 0) (Some 1) (Frame 1 2 0 a_test (codes "") 0 None) ≡ false
unfolding follows
used_navigable = refl

pub used_document : follows (Some 0) (Some 1) (Begin 1 (page 3)) ≡ false
unfolding follows
used_document = refl

pub document_too_far : follows (Some 0) (Some 1) (Begin 1 (page 5)) ≡ false
unfolding follows
document_too_far = refl

-- a navigable or a document that isn't there
pub drops_none : follows (Some 0) (Some 1) (Drop 2) ≡ false
unfolding follows
drops_none = refl

pub opener_is_none : follows (Some 0) (Some 1) (Opener 0 (Some 2)) ≡ false
unfolding follows
opener_is_none = refl

pub fires_at_none : follows (Some 0) None (Fire 4 0) ≡ false
unfolding follows
fires_at_none = refl

-- a document that isn't active, one that isn't there, and none
pub not_active : follows (Some 0) (Some 3) Sync ≡ false
unfolding follows
not_active = refl

pub not_there : follows (Some 0) (Some 4) Sync ≡ false
unfolding follows
not_there = refl

pub no_document : follows (Some 0) None Sync ≡ false
unfolding follows
no_document = refl

pub no_renderer : follows None (Some 1) Sync ≡ false
unfolding follows
no_renderer = refl

-- a commit of another navigable's document, of one that was active, and by a document
pub commits_elsewhere : follows (Some 0) None (Commit 0 3 2) ≡ false
unfolding follows
commits_elsewhere = refl

pub commits_twice : follows (Some 0) None (Commit 1 2 2) ≡ false
unfolding follows
commits_twice = refl

pub commits_by_script : follows (Some 0) (Some 1) (Commit 1 3 2) ≡ false
unfolding follows
commits_by_script = refl

-- what the coordinator alone writes
pub loses_itself : follows (Some 0) None (Lost 1) ≡ false
unfolding follows
loses_itself = refl

pub hides : follows (Some 0) None Hidden ≡ false
unfolding follows
hides = refl
