-- The reply tells the log up to the place, and the places are fewer from turn to turn.
use Rattle.std.proofs.Common.{◌++◌, ◌-◌, length}
use Rattle.request_decisions.specs.Made.{entries_of}
use Rattle.told_replies.proofs.Steps.{IsAt}
use Rattle.told_replies.proofs.replies.tell_from.Given as goal

abbrev pub invariant-loop-entry : goal.invariant-loop-entry
invariant-loop-entry g l = IsAt l.outcome l.renderer l.from (entries_of l.made ++ l.log.entries) l.place l.writer

abbrev pub decreases-loop-entry : goal.decreases-loop-entry
decreases-loop-entry g l = length (entries_of l.made ++ l.log.entries) - l.place
