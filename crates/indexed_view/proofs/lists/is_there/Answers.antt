use Rattle.indexed_view.proofs.Ascending.{there, missed}
use Rattle.indexed_view.proofs.lists.is_there.Goals as goal

pub returns-in-Ok : goal.returns-in-Ok
returns-in-Ok c = there c.args.list.now c.args.nav c.in-Ok.field-0 c.requires.ascending c.in-Ok.ensures.position

pub returns-in-Err : goal.returns-in-Err
returns-in-Err c = missed c.args.list.now c.args.nav c.in-Err.field-0 c.requires.ascending c.in-Err.ensures.position
