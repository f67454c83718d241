-- What an indexed view says: what its rows say.
use Rattle.std.specs.Prelude.{ℕ, List}
use Rattle.tree_log.specs.Tree.{Tree}
use Rattle.tree_view.specs.Shown.{tree_shown, shown_urls}
use Rattle.indexed_view.specs.declared.view.IndexedView.{IndexedView}

abbrev pub tree_indexed : IndexedView → Tree
tree_indexed v = tree_shown v.rows

abbrev pub urls_indexed : IndexedView → ℕ → List ℕ
urls_indexed v = shown_urls v.rows
