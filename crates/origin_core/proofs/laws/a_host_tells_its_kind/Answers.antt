use Rattle.origin_core.proofs.HostLaw.{host_of_root}
use Rattle.origin_core.proofs.laws.a_host_tells_its_kind.Goals as goal

pub returns : goal.returns
returns c = host_of_root
