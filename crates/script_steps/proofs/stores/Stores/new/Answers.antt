use Rattle.std.proofs.Common.{◌∙◌, ap}
use Rattle.window_props.specs.declared.platform.Object.TheVariants as object
use Rattle.script_steps.specs.Kind.{suits}
use Rattle.script_steps.proofs.StoredLaws.{stored_fresh}
use Rattle.script_steps.proofs.SuitLaws.{suits_none}
use Rattle.script_steps.proofs.stores.Stores.new.Goals as goal

pub invariant_of-result : goal.invariant_of-result
invariant_of-result c = record { suiting = λ d. ap (suits (object.Location d)) (c.new-2.ensures d) ∙ suits_none (object.Location d) }

pub returns : goal.returns
returns c = stored_fresh _ c.new.ensures c.new-2.ensures
