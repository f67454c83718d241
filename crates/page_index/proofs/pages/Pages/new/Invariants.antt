use Rattle.std.proofs.Common.{take}
use Rattle.page_index.specs.Pages.{page_at, FindsFirst}
use Rattle.page_index.proofs.pages.Pages.new.Given as goal

abbrev pub invariant-loop-page : goal.invariant-loop-page
invariant-loop-page l = FindsFirst (take l.page-index l.pages) (page_at l.firsts)
