use Rattle.std.proofs.Common.{ap, ◌∙◌}
use Rattle.link_wire.specs.Feeding.{is_partial}
use Rattle.link_wire.proofs.HeadLaws.{partial_nothing}
use Rattle.link_wire.proofs.reader.FrameReader.new.Goals as goal

pub invariant_of-result : goal.invariant_of-result
invariant_of-result c = ap is_partial c.new.ensures.items ∙ partial_nothing
