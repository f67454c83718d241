use Rattle.std.specs.Vec.Iter.{into_iter_items}
use Rattle.link_exchange.proofs.Following.{IsHearing}
use Rattle.link_exchange.proofs.replica.Replica.hear_all.Given as goal

abbrev pub invariant-loop-entry : goal.invariant-loop-entry
invariant-loop-entry g l = IsHearing l.fn.self l.fn.news.items l.self (into_iter_items l.entry-iterator)
