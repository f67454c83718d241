use Rattle.std.proofs.Common.{ap, not, nat_eq, arith}
use Rattle.origin_core.proofs.PortLaw.{own_port_iff}
use Rattle.origin_core.proofs.origin.is_not_default.Goals as goal

pub returns-clause-standard : goal.returns-clause-standard
returns-clause-standard c =
    own_port_iff c.args.scheme c.args.port _ (omega (arith, c.ranges.port)) (ap (λ d. not (nat_eq c.args.port d)) c.default_port.ensures)
