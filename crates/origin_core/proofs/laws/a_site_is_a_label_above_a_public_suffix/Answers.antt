use Rattle.std.proofs.Common.{ap, ◌∙◌}
use Rattle.origin_core.specs.Site.{site_host}
use Rattle.origin_core.specs.declared.site.Site.TheVariants.{Named}
use Rattle.origin_core.proofs.SuffixLaw as law
use Rattle.origin_core.proofs.laws.a_site_is_a_label_above_a_public_suffix.Goals as goal

pub returns-clause-suffix : goal.returns-clause-suffix
returns-clause-suffix c = law.suffix_of_host

pub returns-clause-above : goal.returns-clause-above
returns-clause-above c = λ t suffixes suffix name stop is other.
    let s = law.site_above t.host suffixes suffix stop is other in
    (s.0, ap (λ ip. Named t.scheme (site_host t.host ip suffixes)) name ∙ ap (Named t.scheme) s.1, s.2)

pub returns-clause-itself : goal.returns-clause-itself
returns-clause-itself c = λ t suffixes name is.
    ap (λ ip. Named t.scheme (site_host t.host ip suffixes)) name ∙ ap (Named t.scheme) (law.site_itself t.host suffixes is)

pub returns-clause-dotted : goal.returns-clause-dotted
returns-clause-dotted c = λ t suffixes stop. ap (Named t.scheme) (law.site_dotted t.host t.ip suffixes stop)

pub returns-clause-address : goal.returns-clause-address
returns-clause-address c = λ t suffixes address.
    ap (λ ip. Named t.scheme (site_host t.host ip suffixes)) address ∙ ap (Named t.scheme) (law.site_of_address t.host suffixes)
