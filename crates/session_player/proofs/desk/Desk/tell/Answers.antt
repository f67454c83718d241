use Rattle.std.proofs.Common.{◌∙◌, ap, arith, drop}
use Rattle.std.specs.Prelude.{slice_set, get_or}
use Rattle.tree_log.proofs.Places.{news_front}
use Rattle.session_player.proofs.Leaves.{get_default}
use Rattle.session_player.proofs.desk.Desk.tell.Goals as goal

pub returns-clause-tells : goal.returns-clause-tells
returns-clause-tells g c = record {
  upto = c.len-upto.ensures;
  news = news_front c.entries.result.now c.in_ok-news.news.items c.args.self.now.log.entries (get_or c.args.self.now.told.items c.args.renderer 0) c.entries.ensures.value
      (c.in_ok-news.ensures ∙ ap (λ k. drop k c.entries.result.now) (c.index.ensures ∙ get_default c.args.self.now.told.items c.args.renderer c.index.result.now (omega (arith, c.requires, c.args.self.now.told.ok.0))));
  noted = ap (slice_set c.args.self.now.told.items c.args.renderer) c.len-upto.ensures;
}
