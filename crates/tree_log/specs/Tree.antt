-- The tree of navigables that a log makes (HTML Standard, 7.3): what the log says of each navigable and document, and what follows from that.
use Rattle.std.specs.Prelude.{ℕ, zero, suc, List, [], ◌∷◌, length, filter, Option, Some, None, Bool, true, false, not, ◌||◌, ◌&&◌, ◌==◌, if◌then◌else◌, unwrap_or, is_none, nat_lt, ◌≡◌, refl}
use Rattle.std.specs.List.{list_any}
use Rattle.origin_core.specs.Origin.{is_same_origin_domain}
use Rattle.tree_log.specs.Names.{Entry}
use Rattle.origin_core.specs.declared.origin.Origin.{Origin}
pub use Rattle.tree_log.specs.Log.{is}
use Rattle.tree_log.specs.Facts.{newest, some_entry, gathered, no_number, Making, no_making, making, activates, drops, says_gone, says_closing, names, says_opener, says_domain, loads_in, Birth, no_birth, bears, shows, frames_after, loads_after, tops_after, navs_after, docs_after, groups_after}

-- what is known of a navigable
pub record Nav : Type 0 where
  pub made : Making
  pub active : ℕ
  pub dropped : Bool
  pub gone : Bool
  pub closing : Bool
  pub name : List ℕ
  pub opener : Option ℕ
  pub last_load : Option ℕ

-- what is known of a document
pub record Doc : Type 0 where
  pub born : Birth
  pub been_active : Bool
  pub domain : Option (List ℕ)

-- Numbers that were not made have the answers of an empty log.
pub record Tree : Type 0 where
  pub len : ℕ
  pub navs : ℕ
  pub docs : ℕ
  pub groups : ℕ
  pub nav : ℕ → Nav
  pub doc : ℕ → Doc
  pub frames : ℕ → List ℕ
  pub tops : List ℕ
  pub loads : List ℕ

abbrev pub nav_in : List Entry → ℕ → Nav
nav_in log n = record {
  made = newest (λ e. making n e.actor e.what) no_making log;
  active = newest (λ e. activates n e.what) no_number log;
  dropped = some_entry (λ e. drops n e.what) log;
  gone = some_entry (λ e. says_gone n e.what) log;
  closing = some_entry (λ e. says_closing n e.what) log;
  name = newest (λ e. names n e.what) [] log;
  opener = newest (λ e. says_opener n e.what) None log;
  last_load = newest (λ e. loads_in n e.what) None log;
}

abbrev pub doc_in : List Entry → ℕ → Doc
doc_in log d = record {
  born = newest (λ e. bears d e.what) no_birth log;
  been_active = some_entry (λ e. shows d e.what) log;
  domain = newest (λ e. says_domain d e.what) None log;
}

-- the tree of a log, newest entry first
unfoldable pub tree_of : List Entry → Tree
tree_of log = record {
  len = length log;
  navs = gathered (λ e. navs_after e.what) 0 log;
  docs = gathered (λ e. docs_after e.what) 0 log;
  groups = gathered (λ e. groups_after e.what) 0 log;
  nav = nav_in log;
  doc = doc_in log;
  frames = λ d. gathered (λ e. frames_after d e.actor e.what) [] log;
  tops = gathered (λ e. tops_after e.what) [] log;
  loads = gathered (λ e. loads_after e.what) [] log;
}

-- the tree after one more entry: for each fact the entry decides, if it says anything
unfoldable pub tree_after : Tree → Entry → Tree
tree_after t e = record {
  len = suc t.len;
  navs = navs_after e.what t.navs;
  docs = docs_after e.what t.docs;
  groups = groups_after e.what t.groups;
  nav = λ n. record {
    made = unwrap_or (making n e.actor e.what) (t.nav n).made;
    active = unwrap_or (activates n e.what) (t.nav n).active;
    dropped = drops n e.what || (t.nav n).dropped;
    gone = says_gone n e.what || (t.nav n).gone;
    closing = says_closing n e.what || (t.nav n).closing;
    name = unwrap_or (names n e.what) (t.nav n).name;
    opener = unwrap_or (says_opener n e.what) (t.nav n).opener;
    last_load = unwrap_or (loads_in n e.what) (t.nav n).last_load;
  };
  doc = λ d. record {
    born = unwrap_or (bears d e.what) (t.doc d).born;
    been_active = shows d e.what || (t.doc d).been_active;
    domain = unwrap_or (says_domain d e.what) (t.doc d).domain;
  };
  frames = λ d. frames_after d e.actor e.what (t.frames d);
  tops = tops_after e.what t.tops;
  loads = loads_after e.what t.loads;
}

-- one more entry of the log is one step of the tree
pub tree_of_step : (e : Entry) (log : List Entry) → tree_of (e ∷ log) ≡ tree_after (tree_of log) e
unfolding tree_of tree_after
tree_of_step e log = refl

abbrev pub embedder : Tree → ℕ → Option ℕ
embedder t n = (t.nav n).made.embedder

abbrev pub nav_of : Tree → ℕ → ℕ
nav_of t d = (t.doc d).born.nav

abbrev pub origin_of : Tree → ℕ → Origin
origin_of t d = (t.doc d).born.origin

-- the domain that a document has set, if it has (HTML Standard, 7.1.1, an origin's domain)
abbrev pub domain_of : Tree → ℕ → Option (List ℕ)
domain_of t d = (t.doc d).domain

-- whether two documents are same origin-domain (HTML Standard, 7.1.1)
abbrev pub same_domain : Tree → ℕ → ℕ → Bool
same_domain t a b = is_same_origin_domain (origin_of t a) (domain_of t a) (origin_of t b) (domain_of t b)

abbrev pub home_of : Tree → ℕ → ℕ
home_of t d = (t.doc d).born.home

-- n, then the navigable of its embedder, and so on, at most k
abbrev pub chain_from : Tree → ℕ → ℕ → List ℕ
chain_from t zero n = []
chain_from t (suc k) n = n ∷ elim (embedder t n) [ None ↦ [] | Some d ↦ chain_from t k (nav_of t d) ]

-- n and the navigables above it: each has a smaller number than the one that it embeds
unfoldable pub chain : Tree → ℕ → List ℕ
chain t n = chain_from t (suc n) n

-- whether d is the active document of its navigable, be that discarded or not
abbrev pub is_shown : Tree → ℕ → Bool
is_shown t d = (t.nav (nav_of t d)).active == d

abbrev pub is_embedded : Tree → Option ℕ → Bool
is_embedded t None = true
is_embedded t (Some d) = is_shown t d

-- whether n was dropped or closed, or its embedder was replaced
abbrev pub is_cut : Tree → ℕ → Bool
is_cut t n = (t.nav n).dropped || (t.nav n).gone || not (is_embedded t (embedder t n))

-- whether n was discarded: it or a navigable above it is cut
unfoldable pub is_discarded : Tree → ℕ → Bool
is_discarded t n = list_any (is_cut t) (chain t n)

-- whether d is the active document of a navigable that isn't discarded
unfoldable pub is_active : Tree → ℕ → Bool
is_active t d = is_shown t d && not (is_discarded t (nav_of t d))

unfoldable pub parent_of : Tree → ℕ → Option ℕ
parent_of t n = if is_discarded t n then None else elim (embedder t n) [ None ↦ None | Some d ↦ Some (nav_of t d) ]

-- the last of the list, or else x
abbrev pub last_or : ℕ → List ℕ → ℕ
last_or x [] = x
last_or x (y ∷ ys) = last_or y ys

-- the top-level of n, be it discarded or not
abbrev pub root_of : Tree → ℕ → ℕ
root_of t n = last_or n (chain t n)

unfoldable pub top_level_of : Tree → ℕ → Option ℕ
top_level_of t n = if is_discarded t n then None else Some (root_of t n)

-- the parent, its parent, and so on
abbrev pub rest_of : List ℕ → List ℕ
rest_of [] = []
rest_of (n ∷ ns) = ns

unfoldable pub ancestors : Tree → ℕ → List ℕ
ancestors t n = if is_discarded t n then [] else rest_of (chain t n)

-- whether n is there and no document embeds it
abbrev pub is_top_level : Tree → ℕ → Bool
is_top_level t n = nat_lt n t.navs && is_none (embedder t n)

-- the group of n: that of its top-level
unfoldable pub group_of : Tree → ℕ → Option ℕ
group_of t n = (t.nav (root_of t n)).made.group

-- the children of d, in order
unfoldable pub children_of : Tree → ℕ → List ℕ
children_of t d = if is_active t d then filter (λ n. not (t.nav n).dropped) (t.frames d) else []

-- whether both are there, and one number
abbrev pub are_same : Option ℕ → Option ℕ → Bool
are_same None other = false
are_same (Some n) other = is other n

-- whether two navigables are of one group
abbrev pub same_group : Tree → ℕ → ℕ → Bool
same_group t a b = are_same (group_of t a) (group_of t b)
