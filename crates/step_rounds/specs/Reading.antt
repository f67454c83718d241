-- Pages whose steps only get properties.
use Rattle.std.specs.Prelude.{◌&&◌, List, length, nat_le, Bool, true, false}
use Rattle.std.specs.List.{list_all}
use Rattle.agent_terms.specs.Limits.{most_steps}
use Rattle.agent_terms.specs.declared.session.Page.{Page}
use Rattle.agent_terms.specs.declared.step.Step.{Step}
use Rattle.agent_terms.specs.declared.step.Step.TheVariants as step

-- the step gets a property
abbrev pub gets : Step → Bool
gets (step.Get of key to) = true
gets _ = false

-- there are no more steps than may be, and each gets a property
abbrev pub all_get : List Step → Bool
all_get steps = nat_le (length steps) most_steps && list_all gets steps

abbrev pub only_gets : Page → Bool
only_gets page = all_get page.script && all_get page.handler
