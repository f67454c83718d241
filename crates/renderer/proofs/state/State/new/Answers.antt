use Rattle.std.proofs.Common.{rules, arith}
use Rattle.renderer.proofs.Kept.{fresh_fit}
use Rattle.renderer.proofs.state.State.new.Goals as goal

pub returns-clause-fit : goal.returns-clause-fit
returns-clause-fit g c = fresh_fit _ c.args.pages.now (omega arith) c.in_ok-pages.ensures c.requires.short (search rules)
