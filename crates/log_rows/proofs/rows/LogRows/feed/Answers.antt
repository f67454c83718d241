use Rattle.std.proofs.Common.{◌<◌, sym, subst}
use Rattle.std.proofs.lemmas.Result.{on_ok_weaker}
use Rattle.tree_log.specs.Tree.{Tree}
use Rattle.log_rows.proofs.Fed.{tree_next, urls_next}
use Rattle.log_rows.proofs.Loaded.{load_there}
use Rattle.log_rows.proofs.rows.LogRows.feed.Goals as goal

pub note_load-requires : goal.note_load-requires
note_load-requires g c =
    let load = c.in-Some.load.now in
    subst (λ (t : Tree). load.doc < t.docs) (sym (tree_next c.args.entry.now c.args.log.now.entries _ _ c.requires.fed.tree_is c.in_ok-apply.ensures.ok))
    (load_there c.args.entry.now c.args.log.now.entries load c.requires.admitted (sym c.in-Some.ensures))

pub returns-in-Some : goal.returns-in-Some
returns-in-Some g c =
    let e = c.args.entry.now in
    let log = c.args.log.now.entries in
    let was = c.requires.fed in
    let next = tree_next e log _ _ was.tree_is c.in_ok-apply.ensures.ok in
    on_ok_weaker c.note_load.result
    (λ noted. record {
      tree_is = next;
      urls_are = urls_next e log _ _ was.urls_are c.in_ok-apply.ensures.urls_ok;
      waits = c.in_ok-feed-2.ensures.ok;
      homed = noted e log next c.requires.admitted (sym c.in-Some.ensures) was.homed;
      ended = c.in_ok-feed.ensures.ok;
    })
    c.note_load.ensures

pub returns-in-None : goal.returns-in-None
returns-in-None g c =
    let e = c.args.entry.now in
    let log = c.args.log.now.entries in
    let was = c.requires.fed in
    record {
      tree_is = tree_next e log _ _ was.tree_is c.in_ok-apply.ensures.ok;
      urls_are = urls_next e log _ _ was.urls_are c.in_ok-apply.ensures.urls_ok;
      waits = c.in_ok-feed-2.ensures.ok;
      homed = c.fed_by_others.ensures c.args.suffixes.now c.args.self.now.homes e log c.requires.admitted (sym c.in-None.ensures) was.homed;
      ended = c.in_ok-feed.ensures.ok;
    }
