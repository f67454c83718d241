use Rattle.std.proofs.Common.{◌≡◌, ℕ, ◌+◌, ◌≤◌, length, length-take, subst, arith}
use Rattle.ports.specs.Causes.{GivesCount}
use Rattle.ports.proofs.Pieces.{GivesCount-next, GivesCount-over, GivesAtMost-count}
use Rattle.ports.proofs.source.read_all.Goals as goal

pub returns-then-count-limit-clause-too_large : goal.returns-then-count-limit-clause-too_large
returns-then-count-limit-clause-too_large g c =
    let over : length c.pieces.bytes.items + c.in_ok-count.count ≡ c.args.limit + 1 = omega (arith, c.in_ok-count.ensures.bound, length-take {A = ℕ}) in
    λ _. subst (λ n. GivesCount n (g.S.Source.left c.args.source.now) (g.S.Source.left c.read.new.self)) over
    (GivesCount-next _ _ _ c.in_ok-count.count c.pieces.bytes.items c.read.new.into c.pieces.invariant.read c.in_ok-count.ensures.bytes.0 c.in_ok-count.ensures.bound.1)

pub returns-in_err-extend_from_slice-clause-else_within : goal.returns-in_err-extend_from_slice-clause-else_within
returns-in_err-extend_from_slice-clause-else_within g c =
    let within : length c.pieces.bytes.items + c.in_ok-count.count ≤ c.args.limit = omega (arith, c.in_ok-count.ensures.bound, length-take {A = ℕ}) in
    λ _. GivesAtMost-count _ _ (length c.pieces.bytes.items + c.in_ok-count.count) c.args.limit within
    (GivesCount-next _ _ _ c.in_ok-count.count c.pieces.bytes.items c.read.new.into c.pieces.invariant.read c.in_ok-count.ensures.bytes.0 c.in_ok-count.ensures.bound.1)

pub returns-then-count-limit-clause-over : goal.returns-then-count-limit-clause-over
returns-then-count-limit-clause-over g c =
    λ large. GivesCount-over _ _ c.args.limit (returns-then-count-limit-clause-too_large g c large)
