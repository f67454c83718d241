use Rattle.std.proofs.Common.{◌≡◌, ◌≤◌, drop}
use Rattle.session_player.specs.Growing.{grow, grow_urls, AllFollow}
use Rattle.session_player.proofs.worker.hear.Given as goal

abbrev pub invariant-loop-entry : goal.invariant-loop-entry
invariant-loop-entry g l = record {
  tree : grow (g.V.View.tree l.view) (drop l.entry-index l.news) ≡ grow (g.V.View.tree l.initial.view) l.news;
  urls : grow_urls (g.V.View.urls l.view) (drop l.entry-index l.news) ≡ grow_urls (g.V.View.urls l.initial.view) l.news;
  all : AllFollow (g.V.View.tree l.initial.view) l.news → AllFollow (g.V.View.tree l.view) (drop l.entry-index l.news);
  more : (g.V.View.tree l.initial.view).docs ≤ (g.V.View.tree l.view).docs;
  navs : (g.V.View.tree l.initial.view).navs ≤ (g.V.View.tree l.view).navs;
}
