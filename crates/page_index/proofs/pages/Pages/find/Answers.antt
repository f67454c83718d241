use Rattle.std.proofs.Common.{ap, ◌∙◌}
use Rattle.std.specs.Prelude.{find}
use Rattle.std.specs.Option.{option_copied}
use Rattle.origin_core.specs.Page.{without_fragment}
use Rattle.page_index.specs.Pages.{page_at, is_page_of}
use Rattle.page_index.proofs.pages.Pages.find.Goals as goal

pub returns : goal.returns
returns c =
    ap option_copied c.copied.ensures
    ∙ ap option_copied c.get.ensures.value
    ∙ ap (page_at c.self.inside.firsts) c.without_fragment-address.ensures
    ∙ c.self.invariant (without_fragment c.args.url.now)
    ∙ ap (find (is_page_of (without_fragment c.args.url.now))) c.self.view_is
