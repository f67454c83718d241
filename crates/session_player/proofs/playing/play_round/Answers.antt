use Rattle.std.proofs.Common.{◌≡◌, ◌<◌, ◌∙◌, arith, length, vec_len}
use Rattle.session_player.specs.declared.worker.Turn.TheVariants.{Acted, Idle}
use Rattle.session_player.specs.Serves.{ledger}
use Rattle.session_player.specs.Underway.{TurnEnds, seat_of, seats_of}
use Rattle.session_player.proofs.Leaves.{map_length}
use Rattle.session_player.proofs.Rounds.{round_acted, round_idle, ends_quiet, ends_acted}
use Rattle.session_player.proofs.playing.play_round.Goals as goal
use Rattle.session_player.proofs.playing.play_round.Goals.{in-Acted, in-Idle}

pub turns-preserved : goal.turns-preserved
turns-preserved g c = record {
  count = c.turn.ensures.count ∙ c.turns.invariant.count;
  seats = c.turn.ensures.seats ∙ c.turns.invariant.seats;
  numbered = c.turn.ensures.numbered;
  kept = λ turns u at.
      let h = c.turns.invariant.kept turns u at in
      let many : vec_len c.turns.workers ≡ length (seats_of g.V.View c.turns.workers.items) = omega (arith, c.turns.workers.ok.0, map_length (seat_of g.V.View) c.turns.workers.items) in
      let lt : c.turns.number < c.args.session.now.renderers = omega (arith, h.underway.count, many, c.turns-test.true, c.len-number-end.ensures, c.turns.invariant.count) in
      let e = c.in_ok-turn.ensures.kept h.turns h.underway (h.due lt) in
      elim c.match-branch-2.branch [
        | in-Acted w ↦
            let ends : TurnEnds c.args.session.now h.turns c.turns.number (seats_of g.V.View c.turns.workers.items) Acted (ledger c.turn.new.desk.log.entries c.turn.new.desk.told.items)
            (seats_of g.V.View c.turn.new.workers.items) = rw w.in-Acted.is at e in
            rw w.acted-is (round_acted c.args.session.now _ c.turns.number c.turns.acted _ _ _ _ h ends)
        | in-Idle w ↦
            let ends : TurnEnds c.args.session.now h.turns c.turns.number (seats_of g.V.View c.turns.workers.items) Idle (ledger c.turn.new.desk.log.entries c.turn.new.desk.told.items)
            (seats_of g.V.View c.turn.new.workers.items) = rw w.in-Idle.is at e in
            rw w.acted-is (round_idle c.args.session.now _ c.turns.number c.turns.acted _ _ _ _ h ends)
      ];
}

pub returns-then-acted-clause-kept : goal.returns-then-acted-clause-kept
returns-then-acted-clause-kept g c = λ turns u at.
    let h = c.turns.invariant.kept turns u at in
    let many : c.turns.number ≡ length (seats_of g.V.View c.turns.workers.items) =
    omega (arith, c.turns.workers.ok.0, map_length (seat_of g.V.View) c.turns.workers.items, c.turns-test.false, c.turns.auto.number-end, c.len-number-end.ensures, c.turns.invariant.count) in
    ends_acted c.args.session.now _ c.turns.number c.turns.acted _ _ c.if-acted.true h many c.requires.some

pub returns-else-acted-clause-kept : goal.returns-else-acted-clause-kept
returns-else-acted-clause-kept g c = λ turns u at.
    let h = c.turns.invariant.kept turns u at in
    let many : c.turns.number ≡ length (seats_of g.V.View c.turns.workers.items) =
    omega (arith, c.turns.workers.ok.0, map_length (seat_of g.V.View) c.turns.workers.items, c.turns-test.false, c.turns.auto.number-end, c.len-number-end.ensures, c.turns.invariant.count) in
    ends_quiet c.args.session.now _ c.turns.number c.turns.acted _ _ c.if-acted.false h many c.requires.some
