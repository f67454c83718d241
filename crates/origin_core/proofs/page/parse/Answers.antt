use Rattle.std.proofs.Common.{Some, None}
use Rattle.origin_core.proofs.PageLemmas.{against_record, parsed_as}
use Rattle.origin_core.proofs.page.parse.Goals as goal

pub returns-in-Some-clause-gives : goal.returns-in-Some-clause-gives
returns-in-Some-clause-gives c =
    rw (c.in-Some.is, ← c.page.view_is, against_record _ c.args.text.now c.page.invariant) c.join.ensures

pub returns-in-Some-clause-as_parsed : goal.returns-in-Some-clause-as_parsed
returns-in-Some-clause-as_parsed c =
    parsed_as (Some c.page.inside.url) _ _ (c.page.invariant.valid, c.page.invariant.canonical) c.join.ensures

pub returns-in-None-clause-as_parsed : goal.returns-in-None-clause-as_parsed
returns-in-None-clause-as_parsed c = parsed_as None _ _ tt c.parse.ensures
