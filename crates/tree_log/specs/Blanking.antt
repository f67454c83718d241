-- What is shown of a log to one who may see only some documents: no URL and no message of any other. This project's own, so
-- that what the standard hides from other origins can be kept from their renderers.
use Rattle.std.specs.Prelude.{ℕ, List, [], ◌∷◌, Option, Some, None, Bool, false, not, filter, codes, ◌==◌, ◌&&◌, if◌then◌else◌}
use Rattle.std.specs.List.{list_any, range_with_len}
use Rattle.origin_core.specs.Origin.{blank_text}
use Rattle.tree_log.specs.Names.{Entry, Load, What, Open, Frame, Begin, Fragment, Post, Fire, Lapse, Hidden}
use Rattle.tree_log.specs.Tree.{Tree, home_of, origin_of, nav_of, same_group, same_domain}

-- the URL of a document that isn't kept becomes that of the root of its origin
abbrev pub blank_load : (ℕ → Bool) → Load → Load
blank_load kept load = record load { url = if kept load.doc then load.url else blank_text load.origin }

abbrev pub blank_load_or_none : (ℕ → Bool) → Option Load → Option Load
blank_load_or_none kept None = None
blank_load_or_none kept (Some load) = Some (blank_load kept load)

abbrev pub blank_what : (ℕ → Bool) → What → What
blank_what kept (Open nav doc group home origin name opener flags navigator load) =
    Open nav doc group home origin name opener flags navigator (blank_load_or_none kept load)
blank_what kept (Frame nav doc home origin name flags load) = Frame nav doc home origin name flags (blank_load_or_none kept load)
blank_what kept (Begin nav load) = Begin nav (blank_load kept load)
blank_what kept (Fragment nav doc url) = Fragment nav doc (if kept doc then url else codes "about:blank")
blank_what kept what = what

-- whether the entry is a message, or the end of one, for a document that isn't kept
abbrev pub is_hidden : (ℕ → Bool) → What → Bool
is_hidden kept (Post to _ _ _ _) = not (kept to)
is_hidden kept (Fire doc _) = not (kept doc)
is_hidden kept (Lapse doc _ _) = not (kept doc)
is_hidden kept what = false

abbrev pub hidden : Entry
hidden = record { by = None; actor = None; what = Hidden }

-- the entry as it is shown where these documents are kept
abbrev pub blank : (ℕ → Bool) → Entry → Entry
blank kept e = if is_hidden kept e.what then hidden else record { by = e.by; actor = e.actor; what = blank_what kept e.what }

abbrev pub blanked : (ℕ → Bool) → List Entry → List Entry
blanked kept [] = []
blanked kept (e ∷ older) = blank kept e ∷ blanked kept older

-- What is kept: the document is one of these
abbrev pub is_kept : List ℕ → ℕ → Bool
is_kept kept d = list_any (λ k. k == d) kept

-- a renderer may see the documents whose home it is
abbrev pub is_homed : Tree → ℕ → ℕ → Bool
is_homed t r d = home_of t d == r

-- those documents, in ascending order
abbrev pub homed_at : Tree → ℕ → List ℕ
homed_at t r = filter (is_homed t r) (range_with_len 0 t.docs)

-- a document may see those of its group that are same origin-domain with it
abbrev pub is_open_to : Tree → ℕ → ℕ → Bool
is_open_to t asker d = same_group t (nav_of t asker) (nav_of t d) && same_domain t asker d
