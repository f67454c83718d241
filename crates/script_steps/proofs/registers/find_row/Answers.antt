use Rattle.std.proofs.Common.{sym, ap, ◌∙◌}
use Rattle.std.specs.Prelude.{bytes_eq}
use Rattle.script_steps.specs.declared.registers.Row.{Row}
use Rattle.script_steps.proofs.RowLaws.{found-one_more}
use Rattle.script_steps.proofs.registers.find_row.Goals as goal

pub loop-i-preserved : goal.loop-i-preserved
loop-i-preserved c = found-one_more c.args.rows.now c.loop-i.i c.args.name.now c.index-rows-i.result c.loop-i-test.true c.loop-i.invariant
    (ap (λ (r : Row). bytes_eq c.args.name.now r.name) (sym c.index-rows-i.is) ∙ sym c.is_named.ensures ∙ c.if-is_named.false)
