-- The numbers that an entry names, where it was admitted.
use Rattle.std.proofs.Common.{◌≡◌, ℕ, ◌+◌, ◌<◌, ◌≤◌, ◌^◌, List, length, Option, Some, None, true, inl, inr, arith}
use Rattle.std.specs.Prelude.{◌&&◌, ◌⊎◌}
use Rattle.tree_log.specs.declared.entry.Entry.{Entry}
use Rattle.tree_log.specs.declared.entry.What.{What}
use Rattle.tree_log.specs.declared.entry.What.TheVariants.{Open, Drop, Name, Begin, Commit, Fragment, Opener, Post, Fire, Lapse, Closing, Gone, Domain}
use Rattle.tree_log.specs.Tree.{Tree, tree_of}
use Rattle.tree_log.specs.Admits.{is_documents, is_renderers, has, has_if_any, admits_what}
use Rattle.tree_log.proofs.Admitted.{both, lt_of, few_of}
use Rattle.agent_laws.proofs.Logs.Entries.{open_next, begin_next, commit_there}
use Rattle.link_fields.specs.Basic.{u32, optional}
use Rattle.exchange_laws.proofs.Fit.Parts.{some_fits, none_fits}

abbrev pub IsOneIfAny : ℕ → Option ℕ → Type 0
IsOneIfAny count None = Unit {0}
IsOneIfAny count (Some n) = n < count

-- the numbers that it names are there
abbrev pub IsNamed : Tree → What → Type 0
IsNamed t (Open nav doc group _ _ _ _ _ _ _) = group ≤ t.groups
IsNamed t (Drop nav) = nav < t.navs
IsNamed t (Name nav _) = nav < t.navs
IsNamed t (Begin nav _) = nav < t.navs
IsNamed t (Commit nav doc _) = (nav < t.navs) × (doc < t.docs)
IsNamed t (Fragment nav doc _) = (nav < t.navs) × (doc < t.docs)
IsNamed t (Opener nav to) = (nav < t.navs) × IsOneIfAny t.navs to
IsNamed t (Post to from _ _ _) = (to < t.docs) × (from < t.navs)
IsNamed t (Fire doc _) = doc < t.docs
IsNamed t (Lapse doc _ _) = doc < t.docs
IsNamed t (Closing nav) = nav < t.navs
IsNamed t (Gone nav) = nav < t.navs
IsNamed t (Domain doc _) = doc < t.docs
IsNamed t _ = Unit {0}

one_if_any : (count : ℕ) (o : Option ℕ) → has_if_any count o ≡ true → IsOneIfAny count o
one_if_any count None h = tt
one_if_any count (Some n) h = lt_of n count h

in_groups : (group groups : ℕ) → (group < groups) ⊎ (group ≡ groups) → group ≤ groups
in_groups group groups (inl lt) = omega arith
in_groups group groups (inr same) = omega arith

pub named : (t : Tree) (by actor : Option ℕ) (w : What) → admits_what t by actor w ≡ true → IsNamed t w
named t by actor (Open nav doc group home origin name opener fl navigator load) h = in_groups group t.groups (open_next t by actor nav doc group home origin name opener fl navigator load h).in_group
named t by actor (Drop nav) h = lt_of nav t.navs (both (is_documents t by actor) (has t.navs nav) h).1
named t by actor (Name nav name) h = lt_of nav t.navs (both (is_documents t by actor) (has t.navs nav) h).1
named t by actor (Begin nav load) h = (begin_next t by actor nav load h).0
named t by actor (Commit nav doc begin) h = let there = commit_there t by actor nav doc begin h in (there.0, there.1)
named t by actor (Fragment nav doc url) h =
    let two = both (is_documents t by actor && has t.navs nav) (has t.docs doc) h in
    (lt_of nav t.navs (both (is_documents t by actor) (has t.navs nav) two.0).1, lt_of doc t.docs two.1)
named t by actor (Opener nav to) h =
    let two = both (is_documents t by actor && has t.navs nav) (has_if_any t.navs to) h in
    (lt_of nav t.navs (both (is_documents t by actor) (has t.navs nav) two.0).1, one_if_any t.navs to two.1)
named t by actor (Post to from origin target body) h =
    let two = both (is_documents t by actor && has t.docs to) (has t.navs from) h in
    (lt_of to t.docs (both (is_documents t by actor) (has t.docs to) two.0).1, lt_of from t.navs two.1)
named t by actor (Fire doc post) h = lt_of doc t.docs (both (is_renderers by actor) (has t.docs doc) h).1
named t by actor (Lapse doc post cause) h = lt_of doc t.docs (both (is_renderers by actor) (has t.docs doc) h).1
named t by actor (Closing nav) h = lt_of nav t.navs (both (is_documents t by actor) (has t.navs nav) h).1
named t by actor (Gone nav) h = lt_of nav t.navs (both (is_renderers by actor) (has t.navs nav) h).1
named t by actor (Domain doc domain) h = lt_of doc t.docs (both (is_documents t by actor) (has t.docs doc) h).1
named t by actor _ h = tt

-- a tree whose numbers are all in range
pub record IsSmall (t : Tree) : Type 0 where
  pub navs : t.navs < 2 ^ 31
  pub docs : t.docs < 2 ^ 31 + 2
  pub groups : t.groups < 2 ^ 31

pub small_tree : (log : List Entry) → length log ≤ 2 ^ 30 → IsSmall (tree_of log)
small_tree log short =
    let few = few_of log in
    record { navs = omega (arith, few.navs); docs = omega (arith, few.docs); groups = omega (arith, few.groups) }

pub one_fits : (t : Tree) (o : Option ℕ) → IsSmall t → IsOneIfAny t.navs o → (optional u32).Fits o
one_fits t None small h = none_fits u32
one_fits t (Some n) small h = some_fits u32 n (let few : t.navs < 2 ^ 31 = small.navs in omega arith)
