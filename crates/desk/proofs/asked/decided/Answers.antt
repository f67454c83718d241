use Rattle.std.proofs.Common.{◌∙◌, ap, sym}
use Rattle.request_decisions.specs.Asked.{rules}
use Rattle.desk.specs.Serving as spec
use Rattle.desk.proofs.Deciding.{decided_more, must_ask}
use Rattle.desk.proofs.asked.decided.Goals as goal

pub asked-requires : goal.asked-requires
asked-requires g c = record { rows = c.requires.rows; admitted = c.requires.admitted; few = c.requires.few; some = c.requires.some; asks = must_ask c.args.request c.in_default.not-Next c.in_default.not-More }

pub returns-in-More-clause-decided : goal.returns-in-More-clause-decided
returns-in-More-clause-decided g c =
    c.refused.ensures ∙ sym (decided_more (rules c.args.renderers c.args.suffixes.now) c.args.log.now.entries c.args.renderer)
    ∙ ap (λ q. spec.decided (rules c.args.renderers c.args.suffixes.now) c.args.log.now.entries c.args.renderer q) (sym c.in-More.is)
