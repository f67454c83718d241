use Rattle.std.proofs.Common.{◌≡◌, List, vec_len}
use Rattle.single_agent.specs.Turns.{Turned}
use Rattle.session_player.specs.Serves.{ledger}
use Rattle.session_player.specs.Underway.{AreNumbered, IsUnderway, AtRound, seats_of}
use Rattle.session_player.proofs.Rounds.{InRound}
use Rattle.session_player.proofs.playing.play_round.Given as goal

abbrev pub invariant-turns : goal.invariant-turns
invariant-turns g l = record {
  count : vec_len l.workers ≡ vec_len l.fn.workers;
  seats : vec_len l.desk.told ≡ vec_len l.fn.desk.told;
  numbered : AreNumbered (seats_of g.V.View l.workers.items);
  kept : (turns : List Turned) → IsUnderway l.session turns (ledger l.fn.desk.log.entries l.fn.desk.told.items) (seats_of g.V.View l.fn.workers.items) → AtRound l.session turns
      → InRound l.session (seats_of g.V.View l.fn.workers.items) l.number l.acted (ledger l.desk.log.entries l.desk.told.items) (seats_of g.V.View l.workers.items);
}
