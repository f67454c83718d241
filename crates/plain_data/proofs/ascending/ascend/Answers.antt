use Rattle.std.proofs.Common.{◌<◌, ◌-◌, ◌∙◌, length, drop, arith}
use Rattle.std.proofs.lemmas.List.{length-drop}
use Rattle.plain_data.proofs.AscendingLaws.{few_ascend}
use Rattle.plain_data.proofs.ascending.ascend.Goals as goal

pub returns : goal.returns
returns c =
    let short : length (drop (c.loop-i.i - 1) c.args.members.now) < 2 = omega (arith, length-drop (c.loop-i.i - 1) c.args.members.now, c.loop-i-test.false, c.loop-i.auto.i) in
    few_ascend _ short ∙ c.loop-i.invariant
