use Rattle.std.proofs.Common.{◌∙◌, ap}
use Rattle.script_steps.specs.Rows.{found}
use Rattle.script_steps.proofs.RowLaws.{written_at, found-push}
use Rattle.script_steps.proofs.registers.Rows.write.Goals as goal

pub returns-in-Some-clause-ok : goal.returns-in-Some-clause-ok
returns-in-Some-clause-ok c = written_at c.args.self.now.rows.items c.in-Some.i c.index_mut-row.result.now c.args.name.now c.args.value c.index_mut-row.ensures.value c.in-Some.ensures

pub returns-in_ok-add-in-None-clause-ok : goal.returns-in_ok-add-in-None-clause-ok
returns-in_ok-add-in-None-clause-ok c = λ other. ap (λ rows. found rows other) c.in_ok-add-in-None.ensures.ok ∙ found-push c.args.self.now.rows.items c.args.name.now c.args.value c.in-None.ensures other
