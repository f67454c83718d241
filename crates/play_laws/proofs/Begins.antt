-- How a play begins.
use Rattle.std.proofs.Common.{◌≡◌, ℕ, List, [], length, None, refl, sym, ap, subst, ◌∙◌, arith, inl}
use Rattle.std.specs.Prelude.{false}
use Rattle.agent_terms.specs.declared.act.Act.{Act}
use Rattle.agent_terms.specs.declared.session.Session.{Session}
use Rattle.coordinator_rules.specs.Decision.{rules_of}
use Rattle.coordinator_rules.specs.Told.{told_log}
use Rattle.desk.specs.History as history
use Rattle.desk.specs.Serving.{Coordinator}
use Rattle.object_access.specs.Registers.{unset}
use Rattle.object_access.specs.StepAnswer.{first_stores}
use Rattle.play_laws.specs.Underway.{AreFresh, IsSeated, IsUnderway}
use Rattle.renderer.specs.Holding.{fresh}
use Rattle.renderer_laws.specs.Keeping.{Keeps}
use Rattle.single_agent.specs.Running.{step_left, running}
use Rattle.single_agent.specs.Session.{starts_of}
use Rattle.single_agent.specs.Sights.{registers, stores}
use Rattle.single_agent.specs.Turns.{calls_of, log_of, record_of, told_length}
use Rattle.tree_log.specs.declared.entry.Entry.{Entry}
use Rattle.tree_log.proofs.Places.{prefix_none}
use Rattle.turn_laws.specs.Playing.{Goes, Seat}

log_begins : (s : Session) → log_of s [] ≡ starts_of s
unfolding log_of
log_begins s = refl

record_begins : (r : ℕ) → record_of r [] ≡ []
unfolding record_of
record_begins r = refl

told_begins : (s : Session) (r : ℕ) → told_length s r [] ≡ 0
unfolding told_length
told_begins s r = refl

none_called : (s : Session) (log : List Entry) → calls_of s log [] ≡ 0
unfolding calls_of
none_called s log = refl

none_yet : (s : Session) (log : List Entry) → step_left s log [] ≡ None
unfolding step_left running
none_yet s log = refl

none_written : (s : Session) (log : List Entry) → registers s log [] ≡ unset
unfolding registers
none_written s log = refl

none_stored : (s : Session) (log : List Entry) → stores s log [] ≡ first_stores
unfolding stores
none_stored s log = refl

fresh_keeps : (s : Session) (r : ℕ) (log : List Entry) → Keeps s r log [] 0 (fresh r s.pages)
fresh_keeps s r log = record {
  renderer = refl;
  pages = refl;
  acts_are = refl;
  goes_on = refl;
  within = omega arith;
  heard = sym (prefix_none (told_log r log));
  len = refl;
  newest = omega arith;
  registers = sym (none_written s log);
  stores = sym (none_stored s log);
  run = none_yet s log;
  own = tt;
}

fresh_goes : (s : Session) (c : Coordinator) (r : ℕ) → history.told_of c.history r ≡ 0 → Goes s [] c r (record { holds = fresh r s.pages; calls = 0 })
fresh_goes s c r told = record {
  told = told ∙ sym (told_begins s r);
  keeps =
      subst (λ (a : List Act). Keeps s r (log_of s []) a (told_length s r []) (fresh r s.pages)) (sym (record_begins r))
      (subst (λ k. Keeps s r (log_of s []) [] k (fresh r s.pages)) (sym (told_begins s r)) (fresh_keeps s r (log_of s [])));
  calls = sym (ap (calls_of s (log_of s [])) (record_begins r) ∙ none_called s (log_of s []));
}

pub begins_underway : (s : Session) (c : Coordinator) (seats : List Seat) → c.rules ≡ rules_of s → history.log_of c.history ≡ starts_of s → ((r : ℕ) → history.told_of c.history r ≡ 0) → c.spent ≡ false → length seats ≡ s.renderers
    → AreFresh s seats → IsUnderway s [] c seats
begins_underway s c seats rules log told serves count are_fresh = record {
  played = tt;
  now = record { rules = rules; log = log ∙ sym (log_begins s); serves = serves };
  count = count;
  seated = λ r x at.
      subst (IsSeated s [] c r) (sym (are_fresh r x at)) (refl, inl (fresh_goes s c r (told r)));
}
