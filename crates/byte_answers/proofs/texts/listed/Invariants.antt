use Rattle.std.proofs.Common.{◌≡◌, map}
use Rattle.byte_answers.proofs.texts.listed.Given as goal

-- the texts of the pieces so far
abbrev pub invariant-loop-piece : goal.invariant-loop-piece
invariant-loop-piece l = l.suffixes.items ≡ map (λ piece. piece.now) l.yielded
