use Rattle.window_props.proofs.StoreLaws.{refused_keeps}
use Rattle.window_props.proofs.laws.refused_calls_change_nothing.Goals as goal

pub returns : goal.returns
returns c = refused_keeps
