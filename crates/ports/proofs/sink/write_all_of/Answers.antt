use Rattle.std.proofs.Common.{ℕ, ◌-◌, ◌≤◌, length, length-drop, ap, subst, sym, ◌∙◌, arith}
use Rattle.std.proofs.Math.Nat.{sub-add-eq}
use Rattle.ports.proofs.Pieces.{rest, rest-drop, Appends-next}
use Rattle.ports.proofs.sink.write_all_of.Goals as goal

pub loop-done-preserved : goal.loop-done-preserved
loop-done-preserved g c = record {
  taken = Appends-next _ _ _ c.loop-done.done c.in_ok-count.count c.args.bytes.now c.loop-done.invariant.taken c.in_ok-count.ensures.bytes;
  within = omega (arith, c.in_ok-count.ensures.bound);
  later = omega arith;
  still = λ stood. c.in_ok-count.ensures.cause.still (c.loop-done.invariant.still stood);
  room = λ n room within.
      let before = c.loop-done.invariant.room n room within in
      let fits : length (rest c.loop-done.done c.args.bytes.now) ≤ n - c.loop-done.done = omega (arith, ap length (rest-drop c.loop-done.done c.args.bytes.now), length-drop {A = ℕ}) in
      let now = c.in_ok-count.ensures.room (n - c.loop-done.done) before.0 fits in
      (subst (g.K.Sink.has_room c.write.new.self) (sym (sub-add-eq n c.loop-done.done c.in_ok-count.count)) now.0.1, now.1 ∙ before.1);
}
