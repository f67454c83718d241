use Rattle.std.proofs.Common.{sym, subst}
use Rattle.indexed_view.specs.Lists.{IsAscending}
use Rattle.indexed_view.specs.Families.{named}
use Rattle.indexed_view.proofs.FamilyRows.{taken_ascends}
use Rattle.indexed_view.proofs.Naming.{room_stays}
use Rattle.indexed_view.proofs.names.rename.Goals as goal

pub put_name-requires-clause-ascending : goal.put_name-requires-clause-ascending
put_name-requires-clause-ascending c =
    subst IsAscending (sym (c.take_name.ensures.names c.args.to.now)) (taken_ascends c.args.nav c.args.from.now c.args.to.now (named c.args.names.now c.args.to.now) (c.requires.ascending c.args.to.now))

pub put_name-requires-clause-room : goal.put_name-requires-clause-room
put_name-requires-clause-room c = room_stays c.args.names.now c.take_name.new.names c.args.to.now c.take_name.ensures.room c.requires.room
