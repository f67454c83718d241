use Rattle.origin_core.proofs.HostLaw.{every_host}
use Rattle.origin_core.proofs.host.host_kind.Goals as goal

pub returns-clause-every_host : goal.returns-clause-every_host
returns-clause-every_host c = every_host c.args.text.now _ c.root_host.ensures.value
