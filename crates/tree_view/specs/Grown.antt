-- A tree that grew an entry at a time: its lists say no more than its numbers do.
use Rattle.std.specs.Prelude.{◌≡◌, ℕ, ◌<◌, filter}
use Rattle.std.specs.List.{range_with_len}
use Rattle.tree_log.specs.Tree.{Tree, is, embedder, nav_of, is_top_level}
use Rattle.tree_view.specs.Ordered.{IsOrdered}

pub record IsGrown (t : Tree) : Type 0 where
  pub ordered : IsOrdered t
  -- a navigable shows a document that was made for it
  pub shows_its_own : (n : ℕ) → n < t.navs → nav_of t (t.nav n).active ≡ n
  -- the frames of a document are the navigables that it embeds, in the order of their numbers
  pub frames : (d : ℕ) → t.frames d ≡ filter (λ n. is (embedder t n) d) (range_with_len 0 t.navs)
  -- the top-levels are the navigables that nothing embeds, in the order of their numbers
  pub tops : t.tops ≡ filter (is_top_level t) (range_with_len 0 t.navs)
