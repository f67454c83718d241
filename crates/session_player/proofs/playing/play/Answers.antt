use Rattle.std.proofs.Common.{◌≤◌, ◌∙◌, arith, sym, ap, length}
use Rattle.session_player.specs.Serves.{ledger}
use Rattle.session_player.specs.Underway.{seat_of, seats_of}
use Rattle.session_player.proofs.Leaves.{map_length}
use Rattle.session_player.proofs.Begins.{begins_underway, play_of}
use Rattle.single_agent.proofs.Admitted.{starts_length}
use Rattle.session_player.proofs.playing.play.Goals as goal

pub returns-in-Ended : goal.returns-in-Ended
returns-in-Ended g c =
    let few : length c.in_ok-desk.desk.log.entries ≤ 40000 = omega (arith, ap length c.in_ok-desk.ensures.log, starts_length c.args.session.now, c.requires.starts) in
    let u = begins_underway c.args.session.now (ledger c.in_ok-desk.desk.log.entries c.in_ok-desk.desk.told.items) (seats_of g.V.View c.in_ok-workers.workers.items) c.requires.built.1 c.in_ok-desk.ensures.log c.in_ok-desk.ensures.told
    (omega (arith, c.in_ok-desk.ensures.count, c.in_ok-desk.desk.told.ok.0)) (map_length (seat_of g.V.View) c.in_ok-workers.workers.items ∙ c.in_ok-workers.ensures.count) c.in_ok-workers.ensures.fresh few c.in_ok-desk.desk.admitted in
    let e = rw c.in-Ended.is at (c.in_ok-play_order.ensures.kept u) in
    play_of c.args.session.now e.0 c.in-Ended.ending _ _ c.play_order.ensures.numbered e.1 e.2

pub unreachable-requires : goal.unreachable-requires
unreachable-requires g c =
    let few : length c.in_ok-desk.desk.log.entries ≤ 40000 = omega (arith, ap length c.in_ok-desk.ensures.log, starts_length c.args.session.now, c.requires.starts) in
    let u = begins_underway c.args.session.now (ledger c.in_ok-desk.desk.log.entries c.in_ok-desk.desk.told.items) (seats_of g.V.View c.in_ok-workers.workers.items) c.requires.built.1 c.in_ok-desk.ensures.log c.in_ok-desk.ensures.told
    (omega (arith, c.in_ok-desk.ensures.count, c.in_ok-desk.desk.told.ok.0)) (map_length (seat_of g.V.View) c.in_ok-workers.workers.items ∙ c.in_ok-workers.ensures.count) c.in_ok-workers.ensures.fresh few c.in_ok-desk.desk.admitted in
    rw c.in-BadReply.is at (c.in_ok-play_order.ensures.kept u)

pub rounds-init : goal.rounds-init
rounds-init g c =
    let few : length c.in_ok-desk.desk.log.entries ≤ 40000 = omega (arith, ap length c.in_ok-desk.ensures.log, starts_length c.args.session.now, c.requires.starts) in
    let u = begins_underway c.args.session.now (ledger c.in_ok-desk.desk.log.entries c.in_ok-desk.desk.told.items) (seats_of g.V.View c.in_ok-workers.workers.items) c.requires.built.1 c.in_ok-desk.ensures.log c.in_ok-desk.ensures.told
    (omega (arith, c.in_ok-desk.ensures.count, c.in_ok-desk.desk.told.ok.0)) (map_length (seat_of g.V.View) c.in_ok-workers.workers.items ∙ c.in_ok-workers.ensures.count) c.in_ok-workers.ensures.fresh few c.in_ok-desk.desk.admitted in
    let e = rw c.in-Acted.is at (c.in_ok-play_order.ensures.kept u) in
    record {
      seats = omega (arith, c.play_order.ensures.seats, c.play_order.ensures.count, c.in_ok-desk.ensures.count, c.in_ok-workers.ensures.count, c.in_ok-workers.workers.ok.0);
      few = omega (arith, c.play_order.ensures.count, c.in_ok-workers.ensures.count, c.in_ok-workers.workers.ok.0);
      numbered = c.play_order.ensures.numbered;
      kept = (e.0, e.1, e.2);
    }

pub rounds-preserved : goal.rounds-preserved
rounds-preserved g c =
    let i = c.rounds.invariant in
    let e = rw c.in-Acted-2.is at (c.in_ok-play_round.ensures.kept i.kept.0 i.kept.1 i.kept.2) in
    record {
      seats = c.play_round.ensures.seats ∙ i.seats ∙ sym c.play_round.ensures.count;
      few = c.play_round.ensures.count ∙ i.few;
      numbered = c.play_round.ensures.numbered;
      kept = (e.0, e.1, e.2);
    }

pub rounds-smaller : goal.rounds-smaller
rounds-smaller g c =
    let i = c.rounds.invariant in
    let e = rw c.in-Acted-2.is at (c.in_ok-play_round.ensures.kept i.kept.0 i.kept.1 i.kept.2) in
    e.3

pub returns-in-Ended-2 : goal.returns-in-Ended-2
returns-in-Ended-2 g c =
    let i = c.rounds.invariant in
    let e = rw c.in-Ended-2.is at (c.in_ok-play_round.ensures.kept i.kept.0 i.kept.1 i.kept.2) in
    play_of c.args.session.now e.0 c.in-Ended-2.ending _ _ c.play_round.ensures.numbered e.1 e.2
