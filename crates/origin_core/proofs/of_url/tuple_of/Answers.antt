use Rattle.origin_core.proofs.TupleLemmas.{tuple_bounded}
use Rattle.origin_core.proofs.of_url.tuple_of.Goals as goal

pub invariant_of-result : goal.invariant_of-result
invariant_of-result c =
    rw (c.in_ok-copy_of.ensures, c.host_of.ensures.value, c.has_address.ensures, c.port.ensures.value)
    (tuple_bounded c.args.url.now c.args.scheme c.host_of.ensures.valid c.requires.web c.requires.small)
