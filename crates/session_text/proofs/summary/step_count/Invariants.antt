use Rattle.std.proofs.Common.{◌≡◌, ◌+◌, drop}
use Rattle.session_text.specs.Summary as spec
use Rattle.session_text.proofs.summary.step_count.Given as goal

-- what was counted and what is left make the whole
abbrev pub invariant-loop-page : goal.invariant-loop-page
invariant-loop-page l = l.count + spec.step_count (drop l.page-index l.pages) ≡ spec.step_count l.pages
