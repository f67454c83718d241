use Rattle.std.proofs.Common.{sym, ◌∙◌}
use Rattle.std.proofs.lemmas.Slice.Eq.{bytes_eq-Decides}
use Rattle.origin_core.proofs.host.spelled_host.Goals as goal

pub returns-then-eq-clause-host : goal.returns-then-eq-clause-host
returns-then-eq-clause-host c =
    let same = (bytes_eq-Decides _ _).0 (sym c.eq.ensures ∙ c.if-eq.true) in (
      c.args.url.now,
      c.host_of.ensures.valid,
      sym c.is_web.ensures ∙ c.if-is_web.true,
      sym c.host_of.ensures.value ∙ same,
      sym c.has_address.ensures,
    )
