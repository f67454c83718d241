use Rattle.std.proofs.Common.{sym}
use Rattle.origin_core.proofs.TupleLemmas.{tuple_in_range}
use Rattle.origin_core.proofs.of_url.record_origin_of.Goals as goal

pub invariant_of-result : goal.invariant_of-result
invariant_of-result c =
    rw (c.in_ok-host.ensures, c.host_of.ensures.value, c.has_address.ensures, c.port.ensures.value)
    (tuple_in_range c.args.url.now c.in-Some.scheme c.host_of.ensures.valid (sym c.in-Some.ensures) c.requires)
