use Rattle.home_index.proofs.Grown.{others_fed}
use Rattle.home_index.proofs.laws.fed_by_others.Goals as goal

pub returns : goal.returns
returns c = others_fed
