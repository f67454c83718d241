use Rattle.std.proofs.Common.{sym, ap, ◌∙◌, arith}
use Rattle.std.specs.Option.{option_copied}
use Rattle.tree_log.proofs.Places.{prefix_none, entry_there}
use Rattle.coordinator_rules.specs.NextTask.{is_over}
use Rattle.web_message.proofs.FirstTask.{over_next, over_found, never_over}
use Rattle.web_message.proofs.tasks.is_over.Goals as goal

pub loop-number-init : goal.loop-number-init
loop-number-init c = ap (λ log. is_over log c.args.to c.args.place) (prefix_none c.args.log.now.entries)

pub unreachable-requires : goal.unreachable-requires
unreachable-requires c =
    entry_there c.args.log.now.entries c.loop-number.number (omega (arith, c.len-number-end.ensures, c.loop-number-test.true)) (sym c.at.ensures ∙ ap option_copied c.in_default.is)

pub returns-then-ends : goal.returns-then-ends
returns-then-ends c =
    over_found c.args.to c.args.place c.loop-number.number c.args.log.now.entries c.in-Some.entry.now (sym c.at.ensures ∙ ap option_copied c.in-Some.is) (sym c.if-ends.true ∙ c.ends.ensures)

pub loop-number-preserved : goal.loop-number-preserved
loop-number-preserved c =
    over_next c.args.to c.args.place c.loop-number.number c.args.log.now.entries c.in-Some.entry.now (sym c.at.ensures ∙ ap option_copied c.in-Some.is) (sym c.if-ends.false ∙ c.ends.ensures) c.loop-number.invariant

pub returns : goal.returns
returns c = never_over c.args.to c.args.place c.loop-number.number c.args.log.now.entries (omega arith) c.loop-number.invariant
