use Rattle.std.proofs.Common.{◌≡◌, ◌<◌, ◌^◌, ℕ, List, sym, subst, true}
use Rattle.agent_terms.specs.declared.session.Page.{Page}
use Rattle.step_ranges.specs.Ranges.{are_pages_short}
use Rattle.renderer.proofs.Kept.{fit_after}
use Rattle.renderer.proofs.state.State.step.Goals as goal

pub returns-clause-fit : goal.returns-clause-fit
returns-clause-fit g c =
    fit_after c.make_move.new.self c.make_move.result (subst (λ (n : ℕ). n < 2 ^ 16) (sym c.make_move.ensures.renderer) c.requires.fit.seat)
    (subst (λ (p : List Page). are_pages_short p ≡ true) (sym c.make_move.ensures.pages) c.requires.fit.short) c.make_move.ensures.sound c.make_move.ensures.starved
