use Rattle.std.proofs.Common.{◌≡◌, ℕ, drop, get_or, length, vec_len}
use Rattle.coordinator_rules.specs.Decision.{rules_of}
use Rattle.single_agent.specs.Session.{started, starts_of}
use Rattle.session_player.proofs.playing.opened.Given as goal

abbrev pub invariant-starts : goal.invariant-starts
invariant-starts g l = record {
  value : started (rules_of l.session) l.desk.log.entries (drop l.url-index l.session.start) ≡ starts_of l.session;
  few : length l.desk.log.entries ≡ l.url-index;
  count : vec_len l.desk.told ≡ l.session.renderers;
  told : (r : ℕ) → get_or l.desk.told.items r 0 ≡ 0;
}
