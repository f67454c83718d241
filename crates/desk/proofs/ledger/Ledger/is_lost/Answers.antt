use Rattle.std.proofs.Common.{◌∙◌, ap, sym}
use Rattle.single_agent.specs.LegalRecord.{is_lost_on}
use Rattle.desk.specs.History.{log_of}
use Rattle.desk.proofs.Histories.{log_of_history}
use Rattle.desk.proofs.ledger.Ledger.is_lost.Goals as goal

pub returns : goal.returns
returns c =
    c.mark_of.ensures ∙ c.self.invariant.losses c.args.renderer
    ∙ ap (is_lost_on c.args.renderer) (sym (log_of_history c.self.inside.tellings.told c.self.inside.log.entries) ∙ ap (λ v. log_of v.history) c.self.view_is)
