use Rattle.link_fields.proofs.LimitLaws.{data_fits}
use Rattle.link_fields.proofs.laws.data_fits_within_limits.Goals as goal

pub returns : goal.returns
returns c = record { limits = data_fits }
