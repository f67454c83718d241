-- A view that is one of what a renderer heard.
use Rattle.std.specs.Prelude.{◌≡◌, ◌≤◌, ℕ, List, length}
use Rattle.tree_log.specs.declared.entry.Entry.{Entry}
use Rattle.tree_log.specs.Admits.{AreAdmitted}
use Rattle.tree_log.specs.Tree.{Tree, tree_of}
use Rattle.tree_log.specs.Urls.{url_of}
use Rattle.exchange_laws.specs.Fit.{AreFit}
use Rattle.link_wire.specs.Links.{most_heard}

-- the view is one of these entries; each of them could follow those before it, and is in range of frames
pub record IsViewOf {V : Type 0} (tree : V → Tree) (urls : V → ℕ → List ℕ) (view : V) (heard : List Entry) : Type 0 where
  pub tree_is : tree view ≡ tree_of heard
  pub urls_are : urls view ≡ url_of heard
  pub admitted : AreAdmitted heard
  pub fit : AreFit heard
  pub few : length heard ≤ most_heard
