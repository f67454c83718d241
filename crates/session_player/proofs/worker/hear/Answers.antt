use Rattle.session_player.proofs.Growth.{heard_tree, heard_urls, heard_all, heard_docs, heard_navs}
use Rattle.session_player.proofs.worker.hear.Goals as goal

pub loop-entry-preserved : goal.loop-entry-preserved
loop-entry-preserved g c =
    let i = c.loop-entry.entry-index in
    let e = c.entry-item.result in
    let heard = c.loop-entry.invariant in
    let step = c.in_ok-apply.ensures in
    record {
      tree = heard_tree c.args.news.now i e c.loop-entry-test.true c.entry-item.is _ _ _ step.ok heard.tree;
      urls = heard_urls c.args.news.now i e c.loop-entry-test.true c.entry-item.is _ _ _ step.urls_ok heard.urls;
      all = heard_all c.args.news.now i e c.loop-entry-test.true c.entry-item.is _ _ _ step.ok heard.all;
      more = heard_docs c.args.news.now i e c.loop-entry-test.true c.entry-item.is (g.V.View.tree c.args.view.now) (g.V.View.tree c.loop-entry.view) (g.V.View.tree c.apply.new.self) step.ok heard.more;
      navs = heard_navs c.args.news.now i e c.loop-entry-test.true c.entry-item.is (g.V.View.tree c.args.view.now) (g.V.View.tree c.loop-entry.view) (g.V.View.tree c.apply.new.self) step.ok heard.navs;
    }
