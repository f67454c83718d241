use Rattle.window_props.proofs.FixedLaws.{fixed_for_ever}
use Rattle.window_props.proofs.laws.fixed_properties_stay.Goals as goal

pub returns : goal.returns
returns c = fixed_for_ever
