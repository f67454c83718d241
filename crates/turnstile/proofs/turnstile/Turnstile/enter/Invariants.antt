use Rattle.std.proofs.Common.{◌≡◌, []}
use Rattle.turnstile.specs.declared.view.Stage.TheVariants.{Waiting}
use Rattle.turnstile.proofs.turnstile.Turnstile.enter.Given as goal

abbrev pub invariant-loop : goal.invariant-loop
invariant-loop g l =
    let s = l.pass-inside.seat in
    (s.table_id ≡ l.fn.pass.turnstile) × (s.me.0.stage ≡ Waiting l.ticket) × (s.me.1 ≡ []) × (s.me.0.number ≡ l.fn.pass.number) × (s.me.0.seen ≡ l.fn.pass.seen) × (s.me.0.kept ≡ [])
