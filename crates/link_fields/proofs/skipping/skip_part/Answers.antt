use Rattle.std.proofs.Common.{option_copied, arith}
use Rattle.link_fields.proofs.SkipLaws.{part_shorter}
use Rattle.link_fields.proofs.skipping.skip_part.Goals as goal

pub returns-clause-shorter : goal.returns-clause-shorter
returns-clause-shorter c =
    part_shorter c.args.top.in_record (option_copied c.args.top.before) c.args.rest.now (option_copied c.in_ok-before.before, c.in_ok-before.after.now) (c.in_ok-inside.inside, c.in_ok-inside.after.now)
    (λ i. omega (arith, c.type_inv.rest i)) c.in_ok-before.ensures c.in_ok-inside.ensures
