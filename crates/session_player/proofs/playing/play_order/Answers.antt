use Rattle.std.proofs.Common.{◌≡◌, ◌<◌, ◌∙◌, sym, ap, arith, List, ℕ, length, get_or, Some}
use Rattle.single_agent.specs.Turns.{next_renderer}
use Rattle.session_player.proofs.Leaves.{at_read}
use Rattle.session_player.proofs.Rounds.{order_goes_on, due_order, due_first}
use Rattle.session_player.proofs.playing.play_order.Goals as goal
use Rattle.session_player.proofs.playing.play_order.Goals.{in-Acted, in-Idle}

pub returns-in-Full-clause-kept : goal.returns-in-Full-clause-kept
returns-in-Full-clause-kept g c = λ u.
    let h = c.order.invariant.kept u in
    let order = c.args.session.now.order in
    let lt : c.order.number-index < length order = omega (arith, c.order-test.true, ap length c.as_slice-number-items.ensures) in
    let is : c.from.result ≡ get_or order c.order.number-index 0 = c.from.ensures ∙ ap (λ (xs : List ℕ). get_or xs c.order.number-index 0) c.as_slice-number-items.ensures in
    let due : next_renderer c.args.session.now h.turns ≡ Some c.from.result = due_order c.args.session.now h.turns c.order.number-index c.from.result h.count (at_read order c.order.number-index lt ∙ ap Some (sym is)) lt in
    let e = rw c.in-Full.is at (c.in_ok-turn.ensures.kept h.turns h.underway due) in
    (h.turns, e.1, (c.from.result, e.0))

pub returns-in-ActsFull-clause-kept : goal.returns-in-ActsFull-clause-kept
returns-in-ActsFull-clause-kept g c = λ u.
    let h = c.order.invariant.kept u in
    let order = c.args.session.now.order in
    let lt : c.order.number-index < length order = omega (arith, c.order-test.true, ap length c.as_slice-number-items.ensures) in
    let is : c.from.result ≡ get_or order c.order.number-index 0 = c.from.ensures ∙ ap (λ (xs : List ℕ). get_or xs c.order.number-index 0) c.as_slice-number-items.ensures in
    let due : next_renderer c.args.session.now h.turns ≡ Some c.from.result = due_order c.args.session.now h.turns c.order.number-index c.from.result h.count (at_read order c.order.number-index lt ∙ ap Some (sym is)) lt in
    let e = rw c.in-ActsFull.is at (c.in_ok-turn.ensures.kept h.turns h.underway due) in
    let same : c.from.result ≡ c.from-in-ActsFull.result = c.from.ensures ∙ sym c.from-in-ActsFull.ensures in
    rw c.acts_full.ensures (h.turns, e.1, rw (← same) e.0)

pub returns-in-BadReply-clause-kept : goal.returns-in-BadReply-clause-kept
returns-in-BadReply-clause-kept g c = λ u.
    let h = c.order.invariant.kept u in
    let order = c.args.session.now.order in
    let lt : c.order.number-index < length order = omega (arith, c.order-test.true, ap length c.as_slice-number-items.ensures) in
    let is : c.from.result ≡ get_or order c.order.number-index 0 = c.from.ensures ∙ ap (λ (xs : List ℕ). get_or xs c.order.number-index 0) c.as_slice-number-items.ensures in
    let due : next_renderer c.args.session.now h.turns ≡ Some c.from.result = due_order c.args.session.now h.turns c.order.number-index c.from.result h.count (at_read order c.order.number-index lt ∙ ap Some (sym is)) lt in
    rw c.in-BadReply.is at (c.in_ok-turn.ensures.kept h.turns h.underway due)

pub order-preserved : goal.order-preserved
order-preserved g c = record {
  count = c.turn.ensures.count ∙ c.order.invariant.count;
  seats = c.turn.ensures.seats ∙ c.order.invariant.seats;
  numbered = c.turn.ensures.numbered;
  kept = λ u.
      let h = c.order.invariant.kept u in
      let order = c.args.session.now.order in
      let lt : c.order.number-index < length order = omega (arith, c.order-test.true, ap length c.as_slice-number-items.ensures) in
      let is : c.from.result ≡ get_or order c.order.number-index 0 = c.from.ensures ∙ ap (λ (xs : List ℕ). get_or xs c.order.number-index 0) c.as_slice-number-items.ensures in
      let due : next_renderer c.args.session.now h.turns ≡ Some c.from.result = due_order c.args.session.now h.turns c.order.number-index c.from.result h.count (at_read order c.order.number-index lt ∙ ap Some (sym is)) lt in
      elim c.match-branch-2.branch [
        | in-Acted w ↦
            let e = rw w.in-Acted.is at (c.in_ok-turn.ensures.kept h.turns h.underway due) in
            order_goes_on c.args.session.now c.order.number-index _ _ _ _ h e.0 e.3
        | in-Idle w ↦
            let e = rw w.in-Idle.is at (c.in_ok-turn.ensures.kept h.turns h.underway due) in
            order_goes_on c.args.session.now c.order.number-index _ _ _ _ h e.0 e.3
      ];
}

pub returns-clause-kept : goal.returns-clause-kept
returns-clause-kept g c = λ u.
    let h = c.order.invariant.kept u in
    (h.turns, h.underway, due_first c.args.session.now h.turns c.requires.some (omega (arith, h.count, c.order-test.false, c.order.auto.number-index-end, ap length c.as_slice-number-items.ensures)))
