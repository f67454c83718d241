use Rattle.window_props.specs.Shown.{store_in}
use Rattle.object_access.specs.Access.{Seen}
use Rattle.object_operations.proofs.KeptLaws.{set_kept}
use Rattle.object_operations.proofs.access.changing.set.Goals as goal

pub returns-clause-kept : goal.returns-clause-kept
returns-clause-kept g c =
    let seen : Seen = g.M.Met.seen c.args.met.now in
    set_kept c.set_own.result seen (store_in seen.object c.args.props.now) (store_in seen.object c.set_own.new.props) c.args.key.now c.args.value c.set_own.ensures.ok c.set_own.ensures.after
