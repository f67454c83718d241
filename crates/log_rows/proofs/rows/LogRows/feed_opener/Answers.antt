use Rattle.std.proofs.Common.{ap}
use Rattle.tree_log.specs.Facts.{load_in}
use Rattle.log_rows.proofs.Fed.{tree_next, urls_next, on_both}
use Rattle.log_rows.proofs.rows.LogRows.feed_opener.Goals as goal

pub returns : goal.returns
returns g c = λ suffixes log nav to all is was.
    let e = c.args.entry.now in
    let rows = c.args.self.now in
    on_both c.apply.result
    (λ seen shown. record {
      tree_is = tree_next e log _ _ was.tree_is seen;
      urls_are = urls_next e log _ _ was.urls_are shown;
      waits = c.fed_by_openers-2.ensures rows.waiting e log nav to all is was.waits;
      homed = c.fed_by_others.ensures suffixes rows.homes e log all (ap load_in is) was.homed;
      ended = c.fed_by_openers.ensures rows.ends e log nav to all is was.ended;
    })
    c.apply.ensures.ok c.apply.ensures.urls_ok
