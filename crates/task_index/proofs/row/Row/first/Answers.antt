use Rattle.std.proofs.Common.{ℕ, Option, sym, subst}
use Rattle.std.specs.BTreeSet.{contains}
use Rattle.std.specs.Ordering.{nat_cmp}
use Rattle.task_index.specs.Fed.{in_row, queued, IsFirstOf}
use Rattle.task_index.proofs.Queues.{lesser_first, queue_first}
use Rattle.task_index.proofs.row.Row.first.Goals as goal

pub returns : goal.returns
returns c =
    subst (λ (o : Option ℕ). IsFirstOf (in_row c.args.self.now) o) (sym c.lesser.ensures)
    (lesser_first c.front_of.result c.first_of.result (queued c.args.self.now.queue.items) (contains nat_cmp c.args.self.now.moved)
    (subst (λ (o : Option ℕ). IsFirstOf (queued c.args.self.now.queue.items) o) (sym c.front_of.ensures) (queue_first c.args.self.now.queue.items c.requires)) c.first_of.ensures)
