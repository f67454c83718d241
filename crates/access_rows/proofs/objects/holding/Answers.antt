use Rattle.access_rows.proofs.Holding.{first_write_fits}
use Rattle.access_rows.proofs.objects.holding.Goals as goal

pub returns : goal.returns
returns g c =
    first_write_fits (g.V.View.tree c.args._view.now) c.args.asker _ c.args.object _ _ c.new-registers.ensures c.in_ok-set.ensures.ok c.requires.there c.requires.held
