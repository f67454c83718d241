use Rattle.std.proofs.Common.{◌≡◌, [], vec_len}
use Rattle.session_player.specs.Serves.{ledger}
use Rattle.session_player.specs.Underway.{AreNumbered, IsUnderway, seats_of}
use Rattle.session_player.proofs.Rounds.{InOrder}
use Rattle.session_player.proofs.playing.play_order.Given as goal

abbrev pub invariant-order : goal.invariant-order
invariant-order g l = record {
  count : vec_len l.workers ≡ vec_len l.fn.workers;
  seats : vec_len l.desk.told ≡ vec_len l.fn.desk.told;
  numbered : AreNumbered (seats_of g.V.View l.workers.items);
  kept : IsUnderway l.session [] (ledger l.fn.desk.log.entries l.fn.desk.told.items) (seats_of g.V.View l.fn.workers.items)
      → InOrder l.session l.number-index (ledger l.desk.log.entries l.desk.told.items) (seats_of g.V.View l.workers.items);
}
