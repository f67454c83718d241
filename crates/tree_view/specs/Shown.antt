-- What a view says.
use Rattle.std.specs.Prelude.{ℕ, List, Option, Some, None, if◌then◌else◌}
use Rattle.origin_core.specs.Origin.{is_same_origin}
use Rattle.tree_log.specs.Tree.{Tree, origin_of}
use Rattle.tree_view.specs.declared.plain.rows.PlainView.{PlainView}
use Rattle.tree_view.specs.Rows.{Known, known_of}

abbrev pub known : PlainView → Known
known v = known_of v.navs.items v.docs.items v.groups v.len

abbrev pub tree_shown : PlainView → Tree
tree_shown v = (known v).tree

abbrev pub shown_urls : PlainView → ℕ → List ℕ
shown_urls v = (known v).urls

-- the navigable, if its active document is same origin with d
abbrev pub if_same_origin : Tree → ℕ → ℕ → Option ℕ
if_same_origin t d n = if is_same_origin (origin_of t d) (origin_of t (t.nav n).active) then Some n else None
