use Rattle.std.specs.Prelude.{◌-◌, length, Some}
use Rattle.agent_terms.specs.declared.request.Request.TheVariants.{More}
use Rattle.link_wire.specs.Links.{most_heard}
use Rattle.link_exchange.specs.Calls.{Course, Exchanges}
use Rattle.link_exchange.specs.Hearing.{Extends}
use Rattle.link_exchange.proofs.exchanging.ask_on.Given as goal

abbrev pub invariant-calls : goal.invariant-calls
invariant-calls g l = record {
  tail : (course : Course) (m : _) → Exchanges g.L.Link l.renderer l.link l.replica (Some (record { outcome = l.outcome; older = l.older })) More course m
      → Exchanges g.L.Link l.renderer l.fn.link l.fn.replica (Some (record { outcome = l.outcome; older = l.older })) More course m;
  grown : Extends l.fn.replica l.replica;
}

abbrev pub decreases-calls : goal.decreases-calls
decreases-calls g l = most_heard - length l.replica
