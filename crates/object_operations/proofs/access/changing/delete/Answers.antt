use Rattle.window_props.specs.History.{delete_at}
use Rattle.object_operations.proofs.KeptLaws.{done_kept}
use Rattle.object_operations.proofs.access.changing.delete.Goals as goal

pub returns-clause-kept : goal.returns-clause-kept
returns-clause-kept g c = done_kept _ _ c.args.props.now c.delete_stored.new.props (delete_at c.args.key.now) _ c.object.ensures c.in_ok-answer.ensures.ok c.in_ok-answer.ensures.after
