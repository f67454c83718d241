use Rattle.std.proofs.Common.{◌≡◌, List, vec_len}
use Rattle.single_agent.specs.Turns.{Turned}
use Rattle.session_player.specs.Serves.{ledger}
use Rattle.session_player.specs.Underway.{AreNumbered, IsUnderway, AtRound, seats_of, acts_left}
use Rattle.session_player.proofs.playing.play.Given as goal

abbrev pub invariant-rounds : goal.invariant-rounds
invariant-rounds g l = record {
  seats : vec_len l.desk.told ≡ vec_len l.workers;
  few : vec_len l.workers ≡ l.session.renderers;
  numbered : AreNumbered (seats_of g.V.View l.workers.items);
  kept : (turns : List Turned) × IsUnderway l.session turns (ledger l.desk.log.entries l.desk.told.items) (seats_of g.V.View l.workers.items) × AtRound l.session turns;
}

abbrev pub decreases-rounds : goal.decreases-rounds
decreases-rounds g l = acts_left (seats_of g.V.View l.workers.items)
