use Rattle.tree_view.proofs.GrownRows.{rows_grown}
use Rattle.tree_view.proofs.plain.view.PlainViewView.navs.Goals as goal

pub returns-clause-grown : goal.returns-clause-grown
returns-clause-grown c = rows_grown c.args.self.now
