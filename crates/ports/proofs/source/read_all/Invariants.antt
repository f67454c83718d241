use Rattle.std.proofs.Common.{◌≡◌, length, ◌-◌, ◌+◌, ◌≤◌}
use Rattle.std.specs.Io.KnownBytes.{Consumes}
use Rattle.ports.specs.Causes.{StandsStill}
use Rattle.ports.proofs.source.read_all.Given as goal

abbrev pub invariant-pieces : goal.invariant-pieces
invariant-pieces g l = record {
  read : Consumes (g.S.Source.left l.fn.source) (g.S.Source.left l.source) l.bytes.items;
  within : length l.bytes.items ≤ l.limit;
  later : g.S.Source.faults l.fn.source ≤ g.S.Source.faults l.source;
  still : StandsStill (g.S.Source.faults l.fn.source) (g.S.Source.faults l.source);
  steady : g.S.Source.never_fails l.fn.source → g.S.Source.never_fails l.source × (g.S.Source.faults l.source ≡ g.S.Source.faults l.fn.source);
}

abbrev pub decreases-pieces : goal.decreases-pieces
decreases-pieces g l = l.limit + 1 - length l.bytes.items
