use Rattle.std.proofs.Common.{◌≡◌, true, sym, subst, ◌∙◌}
use Rattle.object_operations.proofs.KeptLaws.{on_err}
use Rattle.script_steps.specs.Kind.{suits}
use Rattle.script_steps.proofs.StoredLaws.{stored_at, stored_rest, stored_same}
use Rattle.script_steps.proofs.SuitLaws.{kept_suits}
use Rattle.script_steps.proofs.stores.Stores.take.Goals as goal

pub returns-in_err-make_room-clause-err : goal.returns-in_err-make_room-clause-err
returns-in_err-make_room-clause-err c = on_err c.from_residual.result (stored_same c.args.self.now c.make_room.new.self c.make_room.ensures.same)

pub returns-clause-value : goal.returns-clause-value
returns-clause-value c = sym (stored_at _ c.args.object c.take_kept.result (sym (c.take_kept.ensures.value ∙ c.make_room.ensures.same c.args.object)))

pub returns-clause-suits : goal.returns-clause-suits
returns-clause-suits c = subst (λ p. suits c.args.object p ≡ true) (sym c.take_kept.ensures.value) (kept_suits c.make_room.new.self c.args.object)

pub returns-clause-rest : goal.returns-clause-rest
returns-clause-rest c = stored_rest _ _ c.args.object (λ other e. c.take_kept.ensures.rest other e ∙ c.make_room.ensures.same other)
