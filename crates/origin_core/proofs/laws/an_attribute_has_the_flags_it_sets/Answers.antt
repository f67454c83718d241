use Rattle.origin_core.proofs.FlagLaws as law
use Rattle.origin_core.proofs.laws.an_attribute_has_the_flags_it_sets.Goals as goal

pub returns-clause-navigation : goal.returns-clause-navigation
returns-clause-navigation c = law.navigation_of

pub returns-clause-auxiliary : goal.returns-clause-auxiliary
returns-clause-auxiliary c = law.auxiliary_of

pub returns-clause-top : goal.returns-clause-top
returns-clause-top c = law.top_of

pub returns-clause-top_by_user : goal.returns-clause-top_by_user
returns-clause-top_by_user c = law.top_by_user_of

pub returns-clause-origin : goal.returns-clause-origin
returns-clause-origin c = law.origin_of

pub returns-clause-scripts : goal.returns-clause-scripts
returns-clause-scripts c = law.scripts_of

pub returns-clause-propagates : goal.returns-clause-propagates
returns-clause-propagates c = law.propagates_of

pub returns-clause-domain : goal.returns-clause-domain
returns-clause-domain c = law.domain_of
