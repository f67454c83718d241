use Rattle.window_props.proofs.FixedLaws.{fixed_stays}
use Rattle.window_props.proofs.laws.unconfigurable_properties_stay.Goals as goal

pub returns : goal.returns
returns c = fixed_stays
