use Rattle.std.proofs.Common.{◌∙◌, ap, sym, arith, reverse}
use Rattle.desk.specs.History.{told_in}
use Rattle.desk.proofs.tellings.Tellings.new.Goals as goal

pub invariant_of-result : goal.invariant_of-result
invariant_of-result c =
    (omega (arith, c.new.ensures.len), λ r. c.loop-renderer.invariant.none r ∙ sym (ap (λ ts. told_in (reverse ts) r) c.new.ensures.items))
