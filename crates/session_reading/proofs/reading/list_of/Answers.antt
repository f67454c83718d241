use Rattle.std.proofs.Common.{subst, sym, arith}
use Rattle.session_reading.specs.Refusing.{Gives}
use Rattle.session_reading.proofs.Lists.{list_of_read}
use Rattle.session_reading.proofs.reading.list_of.Goals as goal

pub returns-clause-given : goal.returns-clause-given
returns-clause-given g c =
    let read = list_of_read c.args.least c.args.most (g.R.ReadsItem.reads_item c.args.item.now) _ c.in-Some.values.now.items (sym c.in-Some.ensures) (omega arith) (omega arith) in
    subst (Gives c.each.result) (sym read) (rw c.as_slice.ensures.value at c.each.ensures.given)
