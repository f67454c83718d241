use Rattle.std.proofs.Common.{◌∙◌, ap}
use Rattle.object_access.specs.Registers.{written}
use Rattle.script_steps.specs.Kept.{kept, rows_of}
use Rattle.script_steps.proofs.KeptLaws.{on_ok, held_set}
use Rattle.script_steps.proofs.registers.Registers.set.Goals as goal

pub returns-clause-ok : goal.returns-clause-ok
unfolding kept written
returns-clause-ok c = on_ok c.write-wrote.result c.write-wrote.ensures.ok (λ wrote. λ i d name.
    held_set _ _ _ _ c.args.doc c.args.name.now c.args.value _ _ c.in_ok-make_room.ensures.same c.take.ensures.rest c.put.ensures
    (c.or_none-rows.ensures ∙ ap rows_of c.take.ensures.value) wrote d name i)
