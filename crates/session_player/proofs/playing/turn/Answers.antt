use Rattle.std.proofs.Common.{◌≡◌, ◌<◌, sym, subst, refl, arith, length}
use Rattle.std.proofs.lemmas.Option.{slice_get_read}
use Rattle.std.proofs.lemmas.Result.{IfOk-weaker}
use Rattle.session_player.specs.Serves.{ledger}
use Rattle.session_player.specs.Underway.{AreNumbered, seat_of, seats_of}
use Rattle.session_player.proofs.Turning.{still_numbered, worker_turned}
use Rattle.session_player.proofs.Leaves.{get_map, set_map, map_length}
use Rattle.session_player.proofs.playing.turn.Goals as goal

pub step-requires : goal.step-requires
step-requires g c =
    let within : c.args.number < length c.args.workers.now.items = omega (arith, c.args.workers.now.ok.0) in
    let here = slice_get_read c.args.workers.now.items (length c.args.workers.now.items) c.args.number c.index_mut.result.now refl within c.index_mut.ensures.value in
    let number : c.index_mut.result.now.renderer ≡ c.args.number = c.requires.numbered c.args.number _ (get_map (seat_of g.V.View) c.args.workers.now.items c.args.number c.index_mut.result.now here) in
    record { seat = omega arith; some = c.requires.some; built = c.requires.built }

pub returns-clause-numbered : goal.returns-clause-numbered
returns-clause-numbered g c =
    let within : c.args.number < length c.args.workers.now.items = omega (arith, c.args.workers.now.ok.0) in
    let here = slice_get_read c.args.workers.now.items (length c.args.workers.now.items) c.args.number c.index_mut.result.now refl within c.index_mut.ensures.value in
    subst AreNumbered (sym (set_map (seat_of g.V.View) c.args.workers.now.items c.args.number c.step.new.self))
    (still_numbered (seats_of g.V.View c.args.workers.now.items) c.args.number (seat_of g.V.View c.index_mut.result.now) (seat_of g.V.View c.step.new.self) c.requires.numbered
    (get_map (seat_of g.V.View) c.args.workers.now.items c.args.number c.index_mut.result.now here) (omega (arith, map_length (seat_of g.V.View) c.args.workers.now.items)) c.step.ensures.renderer)

pub returns-clause-kept : goal.returns-clause-kept
returns-clause-kept g c =
    let within : c.args.number < length c.args.workers.now.items = omega (arith, c.args.workers.now.ok.0) in
    let here = slice_get_read c.args.workers.now.items (length c.args.workers.now.items) c.args.number c.index_mut.result.now refl within c.index_mut.ensures.value in
    let number : c.index_mut.result.now.renderer ≡ c.args.number = c.requires.numbered c.args.number _ (get_map (seat_of g.V.View) c.args.workers.now.items c.args.number c.index_mut.result.now here) in
    IfOk-weaker c.step.result _ _ (λ turn steps turns u due.
    worker_turned g.V.View c.args.session.now turns (ledger c.args.desk.now.log.entries c.args.desk.now.told.items) (ledger c.step.new.desk.log.entries c.step.new.desk.told.items)
    c.args.workers.now.items c.args.number c.index_mut.result.now c.step.new.self turn here within u due c.step.new.desk.admitted number c.step.ensures.renderer steps) c.step.ensures.step
