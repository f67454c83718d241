-- What asks changes no property.
use Rattle.step_ranges.proofs.Asking.{unchanged_by_asking}
use Rattle.step_ranges.proofs.laws.asking_changes_no_property.Goals as goal

pub returns : goal.returns
returns c = unchanged_by_asking
