use Rattle.std.proofs.Common.{◌≡◌, Option, None, true, sym, subst}
use Rattle.std.specs.Prelude.{◌==◌}
use Rattle.window_props.specs.declared.platform.Object.TheVariants as object
use Rattle.window_props.specs.declared.props.Props.{Props}
use Rattle.script_steps.specs.Kind.{suits}
use Rattle.script_steps.specs.Slots.{slot}
use Rattle.script_steps.proofs.SuitLaws.{suits_none, suits_placed}
use Rattle.script_steps.proofs.stores.Stores.take_kept.Goals as goal

pub invariant_of-self-in-Location : goal.invariant_of-self-in-Location
invariant_of-self-in-Location c = record {
  suiting = λ d. subst (λ (p : Option Props). suits (object.Location d) p ≡ true) (sym (c.take-in-Location.ensures.rest d))
      (suits_placed c.in-Location.doc d (d == c.in-Location.doc) None (slot c.args.self.now.locations.slots.items d) (suits_none (object.Location c.in-Location.doc)) (c.args.self.now.suiting d));
}
