-- Pages whose steps only get properties are short.
use Rattle.std.proofs.Common.{◌≡◌, List, [], ◌∷◌, length, Bool, true, false, refl}
use Rattle.std.specs.Prelude.{◌&&◌, nat_le}
use Rattle.std.specs.List.{list_all}
use Rattle.agent_terms.specs.Limits.{most_steps}
use Rattle.agent_terms.specs.declared.session.Page.{Page}
use Rattle.agent_terms.specs.declared.step.Step.{Step}
use Rattle.agent_terms.specs.declared.step.Step.TheVariants as step
use Rattle.step_ranges.specs.Ranges.{is_step_short, are_steps_short, is_page_short, are_pages_short}
use Rattle.step_rounds.specs.Reading.{gets, all_get, only_gets}

first : (a b : Bool) → (a && b) ≡ true → a ≡ true
first true b h = refl
first false b h = absurd cc

second : (a b : Bool) → (a && b) ≡ true → b ≡ true
second true b h = h
second false b h = absurd cc

both : (a b : Bool) → a ≡ true → b ≡ true → (a && b) ≡ true
both true b ha hb = hb
both false b ha hb = absurd cc

step_short : (s : Step) → gets s ≡ true → is_step_short s ≡ true
unfolding is_step_short
step_short (step.Get of key to) h = refl
step_short _ h = absurd cc

steps_short : (steps : List Step) → list_all gets steps ≡ true → list_all is_step_short steps ≡ true
steps_short [] h = refl
steps_short (s ∷ steps) h = both _ _ (step_short s (first _ _ h)) (steps_short steps (second (gets s) _ h))

all_short : (steps : List Step) → all_get steps ≡ true → are_steps_short steps ≡ true
all_short steps h = both _ _ (first _ _ h) (steps_short steps (second (nat_le (length steps) most_steps) _ h))

page_short : (page : Page) → only_gets page ≡ true → is_page_short page ≡ true
page_short page h = both _ _ (all_short page.script (first _ _ h)) (all_short page.handler (second (all_get page.script) _ h))

pub pages_short : (pages : List Page) → list_all only_gets pages ≡ true → are_pages_short pages ≡ true
pages_short [] h = refl
pages_short (p ∷ pages) h = both _ _ (page_short p (first _ _ h)) (pages_short pages (second (only_gets p) _ h))
