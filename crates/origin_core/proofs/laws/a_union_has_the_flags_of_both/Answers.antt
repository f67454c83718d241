use Rattle.origin_core.proofs.FlagLaws.{has_flag-union}
use Rattle.origin_core.proofs.laws.a_union_has_the_flags_of_both.Goals as goal

pub returns : goal.returns
returns c = has_flag-union
