use Rattle.std.proofs.Common.{arith}
use Rattle.link_wire.proofs.PieceLaws.{filled}
use Rattle.link_wire.proofs.reader.fill_head.Goals as goal

pub returns-clause-filled : goal.returns-clause-filled
returns-clause-filled c =
    filled c.args.have.now.items c.args.piece.now c.split_at_head.result.0.now c.split_at_head.result.1.now _
    c.split_at_head.ensures.parts c.in_ok-extend_from_slice.ensures.items
    (λ h. c.split_at_head.ensures.all (omega arith)) (λ h. c.split_at_head.ensures.no_more (omega arith))
