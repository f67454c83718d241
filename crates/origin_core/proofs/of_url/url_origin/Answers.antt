use Rattle.origin_core.proofs.OriginLaw.{standard_answer}
use Rattle.origin_core.proofs.of_url.url_origin.Goals as goal

pub returns-clause-standard : goal.returns-clause-standard
returns-clause-standard c =
    standard_answer c.args.url.now _ _ c.record.ensures.value c.record.ensures.valid (rw c.record.ensures.value c.record_origin_of.ensures)
