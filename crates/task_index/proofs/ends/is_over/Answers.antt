use Rattle.std.proofs.Common.{length, sym, ◌∙◌}
use Rattle.std.proofs.lemmas.Bool.{le-ltb}
use Rattle.task_index.proofs.Over.{over_is, over_past}
use Rattle.task_index.proofs.ends.is_over.Goals as goal

pub returns-then-place-over : goal.returns-then-place-over
returns-then-place-over c = over_is c.args.over.now c.args.place

pub returns-else-place-over : goal.returns-else-place-over
returns-else-place-over c = le-ltb c.args.place (length c.args.over.now) c.if-place-over.false ∙ sym (over_past c.args.over.now c.args.place c.if-place-over.false)
