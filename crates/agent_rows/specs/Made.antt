-- What is read of navigables and documents as they were made, and of numbers that nothing has.
use Rattle.std.specs.Prelude.{◌≡◌, refl, ℕ, List, [], ◌∷◌, Option, Some, None, Bool, true, false, codes}
use Rattle.origin_core.specs.declared.origin.Origin.TheVariants.{Opaque}
use Rattle.tree_log.specs.declared.entry.Entry.{Entry}
use Rattle.tree_log.specs.declared.entry.What.TheVariants.{Open, Begin, Fragment, Opener}
use Rattle.tree_log.specs.Tree.{tree_of, is_active, is_discarded, chain, is_top_level, group_of, nav_of, home_of, same_domain}
use Rattle.tree_log.specs.Admits.{admits, AreAdmitted}
use Rattle.tree_log.specs.Blanking.{is_open_to}
use Rattle.tree_log.specs.Urls.{url_of}
use Rattle.coordinator_rules.specs.Decision.{by}
use Rattle.agent_rows.specs.Logs.{site, a_test, load}
use Rattle.agent_rows.specs.Growing.{waiting, waiting_admitted}

-- how a navigable was made
pub record OfNavigable : Type 0 where
  pub top_level : Bool
  pub opener : Option ℕ
  pub navigator : Option ℕ
  pub flags : ℕ
  pub scripted : Bool
  pub group : Option ℕ
  pub name : List ℕ

unfoldable pub made : List Entry → ℕ → OfNavigable
unfolding tree_of group_of chain
made log n = record {
  top_level = is_top_level (tree_of log) n;
  opener = ((tree_of log).nav n).opener;
  navigator = ((tree_of log).nav n).made.navigator;
  flags = ((tree_of log).nav n).made.flags;
  scripted = ((tree_of log).nav n).made.scripted;
  group = group_of (tree_of log) n;
  name = ((tree_of log).nav n).name;
}

-- how a document was made, and whether it is same origin-domain with d1
pub record OfDocument : Type 0 where
  pub nav : ℕ
  pub home : ℕ
  pub been_active : Bool
  pub url : List ℕ
  pub same_as_window : Bool

unfoldable pub born : List Entry → ℕ → OfDocument
unfolding tree_of url_of
born log d = record {
  nav = nav_of (tree_of log) d;
  home = home_of (tree_of log) d;
  been_active = ((tree_of log).doc d).been_active;
  url = url_of log d;
  same_as_window = same_domain (tree_of log) d 1;
}

-- the frame n1 is the opener of the window n2 and may navigate it; n2 has all sandbox flags but those for scripts and popups
abbrev pub opened : List Entry
opened = by 0 1 (Open 2 4 0 0 (Opaque 4) [] (Some 1) 221 (Some 1) (Some (load 5 0 a_test (codes "https://a.test/")))) ∷ waiting

pub opened_admitted : AreAdmitted opened
unfolding admits tree_of is_active is_discarded chain
opened_admitted = (refl, waiting_admitted)

pub three_navigables : (tree_of opened).navs ≡ 3
unfolding tree_of
three_navigables = refl

pub six_documents : (tree_of opened).docs ≡ 6
unfolding tree_of
six_documents = refl

pub window_made : made opened 0 ≡ record { top_level = true; opener = None; navigator = None; flags = 0; scripted = false; group = Some 0; name = [] }
unfolding made
window_made = refl

pub frame_made : made opened 1 ≡ record { top_level = false; opener = None; navigator = None; flags = 0; scripted = false; group = Some 0; name = codes "x" }
unfolding made
frame_made = refl

pub popup_made : made opened 2 ≡ record { top_level = true; opener = Some 1; navigator = Some 1; flags = 221; scripted = true; group = Some 0; name = [] }
unfolding made
popup_made = refl

-- n2 loses its opener, d1 moves to a fragment, and n1 begins to load a page of a third site
abbrev pub later : List Entry
later =
    by 0 1 (Begin 1 (load 6 2 (site (codes "c.test")) (codes "https://c.test/y")))
    ∷ by 0 1 (Fragment 0 1 (codes "https://a.test/#f"))
    ∷ by 0 1 (Opener 2 None)
    ∷ opened

pub later_admitted : AreAdmitted later
unfolding admits tree_of is_active is_discarded chain
later_admitted = (refl, (refl, (refl, opened_admitted)))

pub no_more_navigables : (tree_of later).navs ≡ 3
unfolding tree_of
no_more_navigables = refl

pub seven_documents : (tree_of later).docs ≡ 7
unfolding tree_of
seven_documents = refl

pub disowned : ((tree_of later).nav 2).opener ≡ None
unfolding tree_of
disowned = refl

pub newest_load : ((tree_of later).nav 1).last_load ≡ Some 6
unfolding tree_of
newest_load = refl

pub first_born : born later 0 ≡ record { nav = 0; home = 0; been_active = true; url = codes "about:blank"; same_as_window = false }
unfolding born
first_born = refl

pub window_born : born later 1 ≡ record { nav = 0; home = 0; been_active = true; url = codes "https://a.test/#f"; same_as_window = true }
unfolding born
window_born = refl

pub frame_born : born later 3 ≡ record { nav = 1; home = 1; been_active = false; url = codes "https://b.test/x"; same_as_window = false }
unfolding born
frame_born = refl

pub begun_born : born later 6 ≡ record { nav = 1; home = 2; been_active = false; url = codes "https://c.test/y"; same_as_window = false }
unfolding born
begun_born = refl

-- NUMBERS THAT NOTHING HAS

-- no document is active before one was made, and no navigable a top-level one
pub none_active : is_active (tree_of []) 0 ≡ false
unfolding tree_of is_active is_discarded chain
none_active = refl

pub none_top_level : is_top_level (tree_of []) 0 ≡ false
unfolding tree_of
none_top_level = refl

pub next_inactive : is_active (tree_of later) 7 ≡ false
unfolding tree_of is_active is_discarded chain
next_inactive = refl

pub next_not_top_level : is_top_level (tree_of later) 3 ≡ false
unfolding tree_of
next_not_top_level = refl

-- the initial document d0 has an opaque origin, which no document to come shares
pub first_to_next : is_open_to (tree_of later) 0 7 ≡ false
unfolding tree_of group_of chain
first_to_next = refl

pub next_to_first : is_open_to (tree_of later) 7 0 ≡ false
unfolding tree_of group_of chain
next_to_first = refl

pub first_to_itself : is_open_to (tree_of later) 0 0 ≡ true
unfolding tree_of group_of chain
first_to_itself = refl
