use Rattle.std.proofs.Common.{sym, ◌∙◌}
use Rattle.origin_core.proofs.PageLemmas.{blank_reads}
use Rattle.origin_core.proofs.of_url.about_blank.Goals as goal

pub returns-in-Ok : goal.returns-in-Ok
returns-in-Ok c =
    let same = sym c.in-Ok.ensures ∙ blank_reads in
    cc
