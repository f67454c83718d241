use Rattle.std.proofs.Common.{◌≡◌, Some, ap, sym, subst}
use Rattle.desk.specs.History.{told_of}
use Rattle.desk.specs.Serving.{Coordinator}
use Rattle.link_port.specs.Direct.{below, seat}
use Rattle.step_rounds.proofs.Beginning.{first_fits, none_heard}
use Rattle.step_rounds.proofs.rounds.run_script.Goals as goal

pub step-requires : goal.step-requires
step-requires g c =
    let link = c.new-link.result in
    let none = subst (λ (d : Coordinator). told_of d.history (seat link) ≡ 0) (sym c.new-link.ensures.below) (c.in_ok-desk.ensures (seat link)) in
    record { link = first_fits _ _ link 0 _ c.in_ok-worker.ensures (ap Some c.new-link.ensures.seat) (ap Some (none_heard (seat link) (below link).history none)) c.new-link.ensures.pending }
