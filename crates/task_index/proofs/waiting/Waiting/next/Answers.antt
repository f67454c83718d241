use Rattle.std.proofs.Common.{ℕ, sym, subst, ◌∙◌, arith, inl, inr}
use Rattle.std.proofs.lemmas.Bool.Decides.{eqb_tells}
use Rattle.std.specs.Prelude.{slice_set}
use Rattle.task_index.specs.Fed.{has, in_row, HasTasks}
use Rattle.task_index.proofs.FirstTasks.{next_none, same_places}
use Rattle.task_index.proofs.Rows.{has_none, has_at, has_set, has_other, order_at, set_order}
use Rattle.task_index.proofs.waiting.Waiting.next.Goals as goal

pub returns-then-renderer-len-clause-task : goal.returns-then-renderer-len-clause-task
returns-then-renderer-len-clause-task g c =
    sym (next_none c.args.log.now.entries c.args.renderer (has c.args.self.now.rows.items c.args.renderer) (c.requires.fed.tasks c.args.renderer)
    (λ p. has_none c.args.self.now.rows.items c.args.renderer p (λ lt. absurd (omega arith))))

pub next_in_row-requires-clause-order : goal.next_in_row-requires-clause-order
next_in_row-requires-clause-order g c = order_at c.args.self.now.rows.items c.args.renderer c.index_mut-row.result.now (omega arith) c.index_mut-row.ensures.value c.requires.fed.order

pub next_in_row-requires-clause-tasks : goal.next_in_row-requires-clause-tasks
next_in_row-requires-clause-tasks g c =
    same_places c.args.log.now.entries c.args.renderer (has c.args.self.now.rows.items c.args.renderer) (in_row c.index_mut-row.result.now) (c.requires.fed.tasks c.args.renderer)
    (λ q there. sym (has_at c.args.self.now.rows.items c.args.renderer q c.index_mut-row.result.now (omega arith) c.index_mut-row.ensures.value) ∙ there)

pub returns-clause-fed : goal.returns-clause-fed
returns-clause-fed g c =
    let rows = c.args.self.now.rows.items in
    record {
      over = c.requires.fed.over;
      early = c.requires.fed.early;
      unset = c.requires.fed.unset;
      closings = c.requires.fed.closings;
      order = set_order rows c.args.renderer c.index_mut-row.result.now c.next_in_row.new.row c.index_mut-row.ensures.value (λ h. c.next_in_row.ensures.order) c.requires.fed.order;
      tasks = λ r. elim (eqb_tells c.args.renderer r) as (λ _. HasTasks c.args.log.now.entries r (has (slice_set rows c.args.renderer c.next_in_row.new.row) r)) [
        | inl same ↦
            subst (λ (n : ℕ). HasTasks c.args.log.now.entries n (has (slice_set rows c.args.renderer c.next_in_row.new.row) n)) same.1
            (same_places c.args.log.now.entries c.args.renderer (in_row c.next_in_row.new.row) (has (slice_set rows c.args.renderer c.next_in_row.new.row) c.args.renderer) c.next_in_row.ensures.tasks
            (λ q there. has_set rows c.args.renderer q c.next_in_row.new.row (omega arith) ∙ there))
        | inr other ↦
            same_places c.args.log.now.entries r (has rows r) (has (slice_set rows c.args.renderer c.next_in_row.new.row) r) (c.requires.fed.tasks r)
            (λ q there. has_other rows c.args.renderer r q c.next_in_row.new.row other.1 ∙ there)
      ];
    }
