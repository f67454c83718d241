use Rattle.origin_core.proofs.TupleLemmas as law
use Rattle.origin_core.proofs.laws.a_tuple_passes_its_tests.Goals as goal

pub returns-clause-host : goal.returns-clause-host
returns-clause-host c = law.tuple_host

pub returns-clause-port : goal.returns-clause-port
returns-clause-port c = law.tuple_port

pub returns-clause-limit : goal.returns-clause-limit
returns-clause-limit c = law.tuple_limit
