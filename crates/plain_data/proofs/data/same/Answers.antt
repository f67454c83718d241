use Rattle.plain_data.proofs.SameLaw.{same_data-is}
use Rattle.plain_data.proofs.data.same.Goals as goal

pub returns-clause-test : goal.returns-clause-test
returns-clause-test c = same_data-is c.same_trees.result _ _ c.same_trees.ensures
