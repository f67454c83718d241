use Rattle.std.proofs.Common.{ap, ◌∙◌}
use Rattle.home_index.specs.Keyed.{rows_in}
use Rattle.home_index.proofs.Grown.{none_fed}
use Rattle.home_index.proofs.homes.Homes.new.Goals as goal

pub returns-clause-fed : goal.returns-clause-fed
returns-clause-fed c = λ suffixes. ap rows_in c.new-2.ensures.empty ∙ none_fed suffixes
