use Rattle.std.proofs.Common.{ℕ, sym, subst, ◌∷◌}
use Rattle.std.proofs.lemmas.Result.{on_ok_weaker, on_err_weaker}
use Rattle.tree_log.specs.Tree.{Tree, tree_of}
use Rattle.task_index.specs.Fed.{Stands, IsTaken}
use Rattle.task_index.proofs.Feeding.{entry_stands, fed_next, fed_same}
use Rattle.task_index.proofs.waiting.Waiting.feed.Goals as goal

pub feed_what-requires : goal.feed_what-requires
feed_what-requires g c = subst (λ (t : Tree). Stands t c.args.entry.now.what) (sym c.requires.tree) (entry_stands c.args.entry.now c.args.log.now.entries c.requires.admitted)

pub returns-clause-ok : goal.returns-clause-ok
returns-clause-ok g c =
    let log = c.args.log.now.entries in
    let what = c.args.entry.now.what in
    on_ok_weaker c.feed_what.result
    (λ taken. fed_next c.args.entry.now log c.requires.admitted c.args.self.now c.feed_what.new.waiting c.requires.fed
    (subst (λ (n : ℕ). IsTaken log (tree_of (c.args.entry.now ∷ log)) n what c.args.self.now c.feed_what.new.waiting) c.len.ensures
    (subst (λ (t : Tree). IsTaken log t c.len.result what c.args.self.now c.feed_what.new.waiting) c.requires.tree taken)))
    c.feed_what.ensures.ok

pub returns-clause-err : goal.returns-clause-err
returns-clause-err g c = on_err_weaker c.feed_what.result (λ kept. fed_same c.args.log.now.entries c.args.self.now c.feed_what.new.waiting c.requires.fed kept) c.feed_what.ensures.err
