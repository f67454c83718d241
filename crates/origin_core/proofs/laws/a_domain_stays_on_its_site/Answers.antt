use Rattle.origin_core.proofs.DomainLaw as law
use Rattle.origin_core.proofs.laws.a_domain_stays_on_its_site.Goals as goal

pub returns-clause-step : goal.returns-clause-step
returns-clause-step c = law.fits_site

pub returns-clause-steps : goal.returns-clause-steps
returns-clause-steps c = law.domain_site

pub returns-clause-one_site : goal.returns-clause-one_site
returns-clause-one_site c = law.one_site

pub returns-clause-pages : goal.returns-clause-pages
returns-clause-pages c = law.pages_site
