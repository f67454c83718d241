use Rattle.std.proofs.Common.{ap, sym, ◌∙◌}
use Rattle.std.specs.Option.{option_copied}
use Rattle.step_ranges.specs.Ranges.{is_page_short}
use Rattle.page_index.proofs.Short.{found_passes}
use Rattle.page_index.proofs.pages.Pages.steps_of.Goals as goal

pub returns-in-Some-clause-short : goal.returns-in-Some-clause-short
returns-in-Some-clause-short g c = λ short. c.steps_in.ensures.short (found_passes is_page_short _ c.args.self.now c.in-Some.page.now short (sym c.find.ensures ∙ ap option_copied c.in-Some.is))
