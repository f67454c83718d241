use Rattle.std.proofs.Common.{ℕ, sym, subst}
use Rattle.std.proofs.lemmas.Result.{on_ok_weaker}
use Rattle.tree_log.specs.Tree.{Tree, tree_of}
use Rattle.tree_log.proofs.Admitted.{what_admitted}
use Rattle.document_ends.specs.Ended.{Stands, IsTaken}
use Rattle.document_ends.proofs.Feeding.{entry_stands, fed_next}
use Rattle.document_ends.proofs.ends.Ends.feed.Goals as goal

pub feed_what-requires : goal.feed_what-requires
feed_what-requires g c =
    let e = c.args.entry.now in
    subst (λ (t : Tree). Stands t e.what) (sym c.requires.tree) (entry_stands (tree_of c.args.log.now.entries) e.by e.actor e.what (what_admitted (tree_of c.args.log.now.entries) e c.requires.admitted.0))

pub returns-clause-ok : goal.returns-clause-ok
returns-clause-ok g c =
    let e = c.args.entry.now in
    on_ok_weaker c.feed_what.result
    (λ taken. fed_next e c.args.log.now.entries c.args.self.now c.feed_what.new.ends c.requires.admitted c.requires.fed
    (subst (λ (n : ℕ). IsTaken (tree_of c.args.log.now.entries) n e.actor e.what c.args.self.now c.feed_what.new.ends) c.len.ensures
    (subst (λ (t : Tree). IsTaken t c.len.result e.actor e.what c.args.self.now c.feed_what.new.ends) c.requires.tree taken)))
    c.feed_what.ensures.ok
