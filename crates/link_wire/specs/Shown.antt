-- Entries with another URL in place of the one that they hold, where one is given.
use Rattle.std.specs.Prelude.{ℕ, List, Option, Some, None}
use Rattle.tree_log.specs.declared.entry.Entry.{Entry}
use Rattle.tree_log.specs.declared.entry.Load.{Load}
use Rattle.tree_log.specs.declared.entry.What.{What}
use Rattle.tree_log.specs.declared.entry.What.TheVariants as whats

-- the URL that is given, or else this one
abbrev pub url_with : Option (List ℕ) → List ℕ → List ℕ
url_with (Some other) _ = other
url_with None url = url

abbrev pub load_with : Option (List ℕ) → Load → Load
load_with other l = record { doc = l.doc; home = l.home; origin = l.origin; url = url_with other l.url }

abbrev pub optional_load_with : Option (List ℕ) → Option Load → Option Load
optional_load_with other (Some l) = Some (load_with other l)
optional_load_with other None = None

-- in a load, or in a navigation to a fragment
abbrev pub what_with : Option (List ℕ) → What → What
what_with other (whats.Open nav doc group home o name opener fl navigator l) = whats.Open nav doc group home o name opener fl navigator (optional_load_with other l)
what_with other (whats.Frame nav doc home o name fl l) = whats.Frame nav doc home o name fl (optional_load_with other l)
what_with other (whats.Begin nav l) = whats.Begin nav (load_with other l)
what_with other (whats.Fragment nav doc url) = whats.Fragment nav doc (url_with other url)
what_with other what = what

abbrev pub entry_with : Option (List ℕ) → Entry → Entry
entry_with other e = record { by = e.by; actor = e.actor; what = what_with other e.what }
