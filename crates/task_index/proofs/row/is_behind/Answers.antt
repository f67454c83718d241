use Rattle.std.proofs.Common.{◌-◌, ◌<◌, arith, refl}
use Rattle.std.proofs.lemmas.Bool.{ltb-true}
use Rattle.std.specs.VecDeque.{deque_len}
use Rattle.task_index.proofs.Queues.{last_at}
use Rattle.task_index.proofs.row.is_behind.Goals as goal

pub returns-in-Some : goal.returns-in-Some
returns-in-Some c = λ below.
    let some : 0 < deque_len c.args.queue.now = c.in-Some.ensures.variant.0 refl in
    last_at c.args.queue.now.items (deque_len c.args.queue.now - 1) c.in-Some.newest.now c.args.place (omega arith) c.in-Some.ensures.lookup (ltb-true c.in-Some.newest.now c.args.place below)
