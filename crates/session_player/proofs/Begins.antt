-- How a play begins, and what it left.
use Rattle.std.proofs.Common.{◌≡◌, ℕ, zero, suc, ◌+◌, ◌<◌, ◌≤◌, drop, List, [], ◌∷◌, ◌++◌, length, get_or, Option, Some, None, refl, sym, ap, subst, ◌∙◌, arith, inl, inr}
use Rattle.std.specs.Prelude.{slice_get}
use mathlib.Core.Logic.{◌⊎◌}
use Rattle.tree_view.specs.declared.view.View.{Ghosts}
use Rattle.tree_log.specs.declared.entry.Entry.{Entry}
use Rattle.tree_log.specs.Tree.{Tree, tree_of}
use Rattle.tree_log.specs.Urls.{url_of}
use Rattle.tree_log.proofs.Places.{prefix_none}
use Rattle.agent_terms.specs.declared.session.Session.{Session}
use Rattle.agent_terms.specs.declared.act.Act.{Act}
use Rattle.agent_terms.specs.declared.act.Running.{Running}
use Rattle.agent_terms.specs.declared.act.Ending.{Ending}
use Rattle.single_agent.specs.Session.{starts_of, started, start_entry}
use Rattle.window_props.specs.declared.value.Value.{Value}
use Rattle.window_props.specs.declared.platform.Object.{Object}
use Rattle.window_props.specs.History.{Store}
use Rattle.tree_log.specs.Admits.{AreAdmitted}
use Rattle.coordinator_rules.specs.Decision.{Rules, rules_of}
use Rattle.object_access.specs.Registers.{unset}
use Rattle.object_access.specs.StepAnswer.{first_stores}
use Rattle.single_agent.specs.Running.{step_left, running}
use Rattle.single_agent.specs.Sights.{registers, stores}
use Rattle.agent_laws.proofs.Groups.Closed.{closed_at_start}
use Rattle.agent_laws.proofs.Groups.Grouped.{no_registers, platform_stores}
use Rattle.std.proofs.lemmas.List.{drop_more, drop_all}
use Rattle.single_agent.specs.Turns.{log_of, record_of, told_length, Turned, EndsBy}
use Rattle.session_player.specs.declared.worker.Worker.{Worker}
use Rattle.session_player.specs.Serves.{Ledger}
use Rattle.session_player.specs.Steps.{holds, IsSound}
use Rattle.session_player.specs.Underway.{Keeps, Seat, AreFresh, fresh, AreNumbered, IsUnderway, IsPlay, seat_of, seats_of}

log_begins : (s : Session) → log_of s [] ≡ starts_of s
unfolding log_of
log_begins s = refl

record_begins : (r : ℕ) → record_of r [] ≡ []
unfolding record_of
record_begins r = refl

told_begins : (s : Session) (r : ℕ) → told_length s r [] ≡ 0
unfolding told_length
told_begins s r = refl

none_yet : (s : Session) (log : List Entry) → step_left s log [] ≡ None
unfolding step_left running
none_yet s log = refl

none_written : (s : Session) (log : List Entry) → registers s log [] ≡ unset
unfolding registers
none_written s log = refl

none_stored : (s : Session) (log : List Entry) → stores s log [] ≡ first_stores
unfolding stores
none_stored s log = refl

fresh_sound : IsSound fresh
fresh_sound = record { closed = closed_at_start; registers = no_registers (tree_of []); stores = platform_stores (tree_of []) }

fresh_keeps : (s : Session) (r : ℕ) (log : List Entry) → Keeps s r log [] 0 fresh
fresh_keeps s r log = record {
  goes_on = refl;
  registers = sym (none_written s log);
  stores = sym (none_stored s log);
  sound = fresh_sound;
  own = tt;
  acts_are = refl;
  heard = refl;
  within = omega arith;
  tree = sym (ap tree_of (prefix_none log));
  urls = sym (ap url_of (prefix_none log));
  newest = omega arith;
  run = none_yet s log;
}

pub begins_underway : (s : Session) (l : Ledger) (seats : List Seat) → s.lose ≡ [] → l.log ≡ starts_of s → ((r : ℕ) → get_or l.told r 0 ≡ 0) → length l.told ≡ s.renderers → length seats ≡ s.renderers → AreFresh seats → length l.log ≤ 40000 → AreAdmitted l.log
    → IsUnderway s [] l seats
begins_underway s l seats lossless log told many count are_fresh few all = record {
  lossless = lossless;
  admitted = all;
  played = tt;
  log = log ∙ sym (log_begins s);
  told = λ r. told r ∙ sym (told_begins s r);
  many = many;
  count = count;
  few = few;
  seated = λ r x at.
      subst (λ (g : List Entry). Keeps s r g (record_of r []) (told_length s r []) x.holds) (sym (log_begins s))
      (subst (λ (a : List Act). Keeps s r (starts_of s) a (told_length s r []) x.holds) (sym (record_begins r))
      (subst (λ k. Keeps s r (starts_of s) [] k x.holds) (sym (told_begins s r)) (subst (Keeps s r (starts_of s) [] 0) (sym (are_fresh r x at).1) (fresh_keeps s r (starts_of s)))));
}

pub fresh_numbered : (seats : List Seat) → AreFresh seats → AreNumbered seats
fresh_numbered seats are_fresh r x at = (are_fresh r x at).0

-- what a play left
pub play_of : (s : Session) (turns : List Turned) (how : Ending) (l : Ledger) (seats : List Seat) → AreNumbered seats → IsUnderway s turns l seats → EndsBy s turns how → IsPlay s how l.log seats
play_of s turns how l seats numbered u ends = record {
  turns = turns;
  played = u.played;
  log_is = u.log;
  records_are = λ r x at. (u.seated r x at).acts_are;
  count = u.count;
  numbered = numbered;
  ends = ends;
}

get_back : {A : Type 0} (xs : List A) (x z : A) (r : ℕ) → slice_get (xs ++ x ∷ []) r ≡ Some z → (slice_get xs r ≡ Some z) ⊎ ((x ≡ z) × (r ≡ length xs))
get_back [] x z zero h = inr (let e : x ≡ z = cc in e, refl)
get_back [] x z (suc r) h = absurd cc
get_back (y ∷ xs) x z zero h = inl h
get_back (y ∷ xs) x z (suc r) h = elim (get_back xs x z r h) [ inl p ↦ inl p | inr p ↦ inr (p.0, ap suc p.1) ]

pub fresh_more : (seats : List Seat) (x : Seat) → AreFresh seats → x.renderer ≡ length seats → x.holds ≡ fresh → AreFresh (seats ++ x ∷ [])
fresh_more seats x are_fresh n h r z at =
    elim (get_back seats x z r at) [
      | inl p ↦ are_fresh r z p
      | inr p ↦ subst (λ (q : Seat). (q.renderer ≡ r) × (q.holds ≡ fresh)) p.0 (n ∙ sym p.1, h)
    ]

pub seats_more : {V : Type 0} (view : Ghosts V) (ws : List (Worker V view)) (w : Worker V view) → seats_of view (ws ++ w ∷ []) ≡ seats_of view ws ++ seat_of view w ∷ []
seats_more view [] w = refl
seats_more view (x ∷ ws) w = ap (λ l. seat_of view x ∷ l) (seats_more view ws w)

pub fresh_holds : (acts : List Act) (heard : ℕ) (tree : Tree) (urls : ℕ → List ℕ) (run : Option Running) (held : ℕ → List ℕ → Value) (props : Object → Store) → acts ≡ [] → heard ≡ 0 → tree ≡ tree_of [] → urls ≡ url_of [] → run ≡ None → held ≡ unset → props ≡ first_stores
    → holds acts heard tree urls run held props ≡ fresh
fresh_holds acts heard tree urls run held props a b c d e f g = λ i. holds (a i) (b i) (c i) (d i) (e i) (f i) (g i)

-- THE START WINDOWS

-- one more
pub start_more : (rules : Rules) (log : List Entry) (urls : List (List ℕ)) (i : ℕ) (url : List ℕ) (all : List Entry) → i < length urls → url ≡ get_or urls i url → started rules log (drop i urls) ≡ all
    → started rules (start_entry rules (tree_of log) url ∷ log) (drop (i + 1) urls) ≡ all
start_more rules log urls i url all lt at h = sym (ap (started rules log) (drop_more urls i url lt ∙ ap (λ x. x ∷ drop (i + 1) urls) (sym at))) ∙ h

pub starts_done : (rules : Rules) (log : List Entry) (urls : List (List ℕ)) (i : ℕ) (all : List Entry) → length urls ≤ i → started rules log (drop i urls) ≡ all → log ≡ all
starts_done rules log urls i all done h = sym (ap (started rules log) (drop_all i urls done)) ∙ h

pub starts_are : (s : Session) → starts_of s ≡ started (rules_of s) [] s.start
unfolding starts_of
starts_are s = refl
