use Rattle.std.proofs.Common.{◌≡◌, ◌+◌, Bool, true, sym, subst, ◌∙◌, arith}
use Rattle.std.specs.Prelude.{if◌then◌else◌}
use Rattle.std.specs.BTreeSet.{btree_set_len}
use Rattle.task_index.proofs.Queues.{is_moved}
use Rattle.task_index.proofs.row.Row.remove_first.Goals as goal

pub returns-else-is_led_by-clause-fewer : goal.returns-else-is_led_by-clause-fewer
returns-else-is_led_by-clause-fewer c =
    let there = is_moved c.args.self.now c.args.place c.requires.order c.requires.first (sym c.is_led_by.ensures ∙ c.if-is_led_by.false) in
    let gone : c.remove.result ≡ true = c.remove.ensures.test ∙ there in
    let len = subst (λ (b : Bool). btree_set_len c.remove.new.self + (if b then 1 else 0) ≡ btree_set_len c.args.self.now.moved) gone c.remove.ensures.len in
    omega arith
