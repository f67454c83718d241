use Rattle.std.proofs.Common.{◌≡◌, ℕ, length, take, ◌-◌, ◌≤◌}
use Rattle.std.specs.Io.KnownBytes.{Appends}
use Rattle.ports.specs.Causes.{StandsStill}
use Rattle.ports.proofs.sink.write_all_of.Given as goal

abbrev pub invariant-loop-done : goal.invariant-loop-done
invariant-loop-done g l = record {
  taken : Appends (g.K.Sink.taken l.fn.sink) (g.K.Sink.taken l.sink) (take l.done l.bytes);
  within : l.done ≤ length l.bytes;
  later : g.K.Sink.faults l.fn.sink ≤ g.K.Sink.faults l.sink;
  still : StandsStill (g.K.Sink.faults l.fn.sink) (g.K.Sink.faults l.sink);
  room : (n : ℕ) → g.K.Sink.has_room l.fn.sink n → length l.bytes ≤ n
      → g.K.Sink.has_room l.sink (n - l.done) × (g.K.Sink.faults l.sink ≡ g.K.Sink.faults l.fn.sink);
}

abbrev pub decreases-loop-done : goal.decreases-loop-done
decreases-loop-done g l = length l.bytes - l.done
