use Rattle.object_operations.proofs.KeptLaws.{on_err, setter_kept}
use Rattle.object_operations.proofs.access.changing.set_own.Goals as goal

pub returns-clause-err : goal.returns-clause-err
returns-clause-err g c = on_err c.setter.result (setter_kept _ _ c.args.props.now c.set_stored.new.props c.args.key.now c.args.value _ c.object.ensures c.in_ok-truth.ensures.ok c.in_ok-truth.ensures.after c.in-Setter.is)
