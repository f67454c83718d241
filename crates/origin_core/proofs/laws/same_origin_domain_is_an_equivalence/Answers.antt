use Rattle.origin_core.proofs.SameDomainLaw as law
use Rattle.origin_core.proofs.laws.same_origin_domain_is_an_equivalence.Goals as goal

pub returns-clause-reflexive : goal.returns-clause-reflexive
returns-clause-reflexive c = law.reflexive

pub returns-clause-symmetric : goal.returns-clause-symmetric
returns-clause-symmetric c = law.symmetric

pub returns-clause-transitive : goal.returns-clause-transitive
returns-clause-transitive c = law.transitive

pub returns-clause-unset : goal.returns-clause-unset
returns-clause-unset c = law.unset
