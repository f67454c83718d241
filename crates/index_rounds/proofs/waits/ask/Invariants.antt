use Rattle.task_index.specs.Fed.{IsFed}
use Rattle.index_rounds.proofs.waits.ask.Given as goal

abbrev pub invariant-answers : goal.invariant-answers
invariant-answers g l = IsFed l.waiting l.log.entries
