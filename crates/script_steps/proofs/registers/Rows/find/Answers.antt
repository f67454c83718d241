use Rattle.std.proofs.Common.{sym}
use Rattle.script_steps.proofs.RowLaws.{found_at}
use Rattle.script_steps.proofs.registers.Rows.find.Goals as goal

pub returns-in-Some : goal.returns-in-Some
returns-in-Some c = sym (found_at c.args.self.now.rows.items c.in-Some.i c.index.result.now c.args.name.now c.index.ensures c.in-Some.ensures)
