use Rattle.std.proofs.Common.{sym, ◌∙◌, ap, Some}
use Rattle.window_props.proofs.ActLaws.{found_one}
use Rattle.window_props.proofs.props.Props.own.Goals as goal

pub returns-in_ok-clone-in-Some : goal.returns-in_ok-clone-in-Some
returns-in_ok-clone-in-Some c = ap Some c.in_ok-clone-in-Some.ensures.cases ∙ sym (found_one c.args.self.now.rows.items c.args.key.now c.in-Some.i c.index.result.now c.index.ensures c.in-Some.ensures)
