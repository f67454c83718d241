-- What the rows of a view say: the tree, and the URL of each document.
use Rattle.std.specs.Prelude.{ℕ, suc, ◌+◌, List, [], ◌∷◌, ◌++◌, length, get_or, drop, filter, codes, Option, Some, None, Bool, true, false, not, ◌&&◌, ◌==◌, is_some, if◌then◌else◌}
use Rattle.origin_core.specs.declared.origin.Origin.{Origin}
use Rattle.origin_core.specs.declared.origin.Origin.TheVariants.{Opaque}
use Rattle.tree_log.specs.declared.entry.Load.{Load}
use Rattle.tree_log.specs.Facts.{no_number, Making, Birth}
use Rattle.tree_log.specs.Tree.{Tree, Nav, Doc, tree_after, is}
use Rattle.tree_log.specs.Urls.{urls_after}
use Rattle.tree_log.specs.declared.entry.Entry.{Entry}
use Rattle.tree_view.specs.declared.plain.rows.MadeRow.{MadeRow}
use Rattle.tree_view.specs.declared.plain.rows.NavRow.{NavRow}
use Rattle.tree_view.specs.declared.plain.rows.DocRow.{DocRow}

abbrev pub made_facts : MadeRow → Making
made_facts row = record { embedder = row.embedder; group = row.group; flags = row.flags; navigator = row.navigator; scripted = row.scripted }

abbrev pub nav_facts : NavRow → Nav
nav_facts row = record {
  made = made_facts row.made;
  active = row.active;
  dropped = row.dropped;
  gone = row.gone;
  closing = row.closing;
  name = row.name;
  opener = row.opener;
  last_load = row.last_load;
}

abbrev pub birth_facts : DocRow → Birth
birth_facts row = record { nav = row.nav; origin = row.origin; home = row.home; loaded = row.loaded }

abbrev pub doc_facts : DocRow → Doc
doc_facts row = record { born = birth_facts row; been_active = row.been_active; domain = row.domain }

-- the rows where there is none
abbrev pub no_nav : NavRow
no_nav = record {
  made = record { embedder = None; group = None; flags = 0; navigator = None; scripted = false };
  active = no_number;
  dropped = false;
  gone = false;
  closing = false;
  name = [];
  opener = None;
  last_load = None;
}

abbrev pub no_doc : DocRow
no_doc = record { nav = no_number; origin = Opaque no_number; home = 65536; loaded = false; been_active = false; url = codes "about:blank"; domain = None }

-- the number k, if a test passes
abbrev pub if_so : Bool → ℕ → List ℕ
if_so passes k = if passes then k ∷ [] else []

-- the numbers, from k on, of the rows that pass a test
abbrev pub numbers_of : {A : Type 0} → (A → Bool) → ℕ → List A → List ℕ
numbers_of test k [] = []
numbers_of test k (row ∷ rows) = if_so (test row) k ++ numbers_of test (suc k) rows

abbrev pub is_embedded_by : ℕ → NavRow → Bool
is_embedded_by d row = is row.made.embedder d

abbrev pub is_top : NavRow → Bool
is_top row = is_some row.made.group

abbrev pub is_loaded : DocRow → Bool
is_loaded row = row.loaded

-- what is known: the tree, and the URLs beside it
pub record Known : Type 0 where
  pub tree : Tree
  pub urls : ℕ → List ℕ

abbrev pub known_of : List NavRow → List DocRow → ℕ → ℕ → Known
known_of navs docs groups len = record {
  tree = record {
    len = len;
    navs = length navs;
    docs = length docs;
    groups = groups;
    nav = λ n. nav_facts (get_or navs n no_nav);
    doc = λ d. doc_facts (get_or docs d no_doc);
    frames = λ d. numbers_of (is_embedded_by d) 0 navs;
    tops = numbers_of is_top 0 navs;
    loads = numbers_of is_loaded 0 docs;
  };
  urls = λ d. (get_or docs d no_doc).url;
}

-- what is known after one more entry
abbrev pub after_known : Known → Entry → Known
after_known k e = record { tree = tree_after k.tree e; urls = urls_after k.urls e }

-- the rows of new documents
abbrev pub initial_row : ℕ → Origin → ℕ → DocRow
initial_row nav origin home = record { nav = nav; origin = origin; home = home; loaded = false; been_active = true; url = codes "about:blank"; domain = None }

abbrev pub load_row : ℕ → Load → DocRow
load_row nav load = record { nav = nav; origin = load.origin; home = load.home; loaded = true; been_active = false; url = load.url; domain = None }

abbrev pub load_row_if_any : ℕ → Option Load → Option DocRow
load_row_if_any nav None = None
load_row_if_any nav (Some load) = Some (load_row nav load)

abbrev pub new_docs : DocRow → Option DocRow → List DocRow
new_docs initial None = initial ∷ []
new_docs initial (Some loaded) = initial ∷ loaded ∷ []

-- the numbers of those that were loaded, behind so many documents
abbrev pub new_loads : ℕ → Option DocRow → List ℕ
new_loads docs None = []
new_loads docs (Some _) = (docs + 1) ∷ []

-- how many groups there are with that of a new navigable
abbrev pub grown : ℕ → Option ℕ → ℕ
grown groups None = groups
grown groups (Some group) = if group == groups then groups + 1 else groups

-- whether a row is of a navigable that d embeds and that wasn't dropped
abbrev pub is_kid : ℕ → NavRow → Bool
is_kid d row = is row.made.embedder d && not row.dropped

abbrev pub stays : List NavRow → ℕ → Bool
stays navs n = not (get_or navs n no_nav).dropped

-- the children of d from row i on
abbrev pub kids_from : List NavRow → ℕ → ℕ → List ℕ
kids_from navs d i = filter (stays navs) (numbers_of (is_embedded_by d) i (drop i navs))
