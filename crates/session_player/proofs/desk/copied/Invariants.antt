use Rattle.std.proofs.Common.{◌≡◌, ◌++◌, drop}
use Rattle.session_player.proofs.desk.copied.Given as goal

abbrev pub invariant-loop-place : goal.invariant-loop-place
invariant-loop-place l = l.news.items ++ drop l.place l.entries ≡ drop l.from l.entries
