-- A play's log is longer than a log may be by the losses of renderers alone.
use Rattle.std.proofs.Common.{◌≡◌, ℕ, ◌+◌, ◌<◌, ◌≤◌, ◌^◌, List, [], ◌∷◌, ◌++◌, length, Option, Some, None, Bool, true, false, refl, sym, subst, if◌then◌else◌, arith, inl, inr}
use Rattle.std.specs.Prelude.{◌⊎◌, ◌||◌, ◌&&◌, ◌==◌, not, map, IsTrue}
use Rattle.std.specs.Char.{to_ascii_lowercase}
use Rattle.std.proofs.lemmas.Bool.{eq-eqb}
use Rattle.std.proofs.lemmas.Bool.Decides.{nat_tests}
use Rattle.tree_log.specs.declared.entry.Entry.{Entry}
use Rattle.tree_log.specs.declared.entry.What.{What}
use Rattle.tree_log.specs.declared.entry.What.TheVariants as what
use Rattle.tree_log.specs.Tree.{Tree, tree_of, nav_of, home_of, is_active, is, same_domain}
use Rattle.agent_terms.specs.declared.session.Session.{Session}
use Rattle.agent_terms.specs.declared.request.Request.{Request}
use Rattle.agent_terms.specs.declared.request.Request.TheVariants as ask
use Rattle.agent_terms.specs.declared.request.ReplyOutcome.{ReplyOutcome}
use Rattle.agent_terms.specs.declared.request.ReplyOutcome.TheVariants as reply
use Rattle.agent_terms.specs.declared.act.Act.{Act}
use Rattle.agent_terms.specs.declared.act.Performed.{Performed}
use Rattle.agent_terms.specs.declared.act.Performed.TheVariants.{Answer, Ask}
use Rattle.agent_terms.specs.declared.act.Move.TheVariants.{Stays}
use Rattle.agent_terms.specs.declared.act.Point.{Point}
use Rattle.agent_terms.specs.declared.step.OpName.{OpName}
use Rattle.single_agent.specs.Session.{starts_of, lose_of}
use Rattle.coordinator_rules.specs.Navigation.{may_navigate, Choice, Existing, New, Nothing, choice}
use Rattle.coordinator_rules.specs.Decision.{asking, Rules, rules_of, Decision, decide, exchange, asker_of, home_if_active, by, one, navigation, made_or_null, opener_entry, or_sync, open_chosen, is_live, task_decision}
use Rattle.object_access.specs.StepAnswer.{Sight, perform}
use Rattle.single_agent.specs.LegalLog.{lost_entry}
use Rattle.coordinator_rules.specs.NextTask.{next_task}
use Rattle.single_agent.specs.Running.{Left, step_left}
use Rattle.single_agent.specs.Lengths.{has_stopped}
use Rattle.single_agent.specs.NextMove.{op_of, move_by, move_of, next_move, move_request}
use Rattle.single_agent.specs.Sights.{sight}
use Rattle.single_agent.specs.LostAct.{exchanged}
use Rattle.single_agent.specs.NextAct.{MovesTo}
use Rattle.single_agent.specs.Turns.{Turned, log_of, record_of, told_length, HasRoom, is_full, is_served, loses_next, needs_room, Plays, IsTurn, ArePlayed}
use Rattle.agent_terms.specs.Limits.{most_entries}
use Rattle.agent_laws.specs.Actors.{has_no_asker}
use Rattle.agent_laws.proofs.Logs.Exchanges.{without_asker, decided_or_none, domain_cases}
use Rattle.single_agent.proofs.Admitted.{starts_length}
use Rattle.agent_laws.proofs.Logs.Asked.{IsAskedBy, asked_by}
use Rattle.log_laws.proofs.Plays.Stopped.{how_many, at_most_all, stopped, none_starts, one_stops}

-- A DECISION ADDS AT MOST TWO ENTRIES

abbrev IsShort : Decision → Type 0
IsShort d = length d.entries ≤ 2

short_if : (b : Bool) (c d : Decision) → IsShort c → IsShort d → IsShort (if b then c else d)
short_if true c d h k = h
short_if false c d h k = k

short_front : (r asker n to : ℕ) (b : Bool) (w : What) → length ((if b then [] else by r asker (what.Opener n (Some to)) ∷ []) ++ by r asker w ∷ []) ≤ 2
short_front r asker n to true w = omega arith
short_front r asker n to false w = omega arith

short_sync : (r asker n to : ℕ) (b : Bool) → length (or_sync r asker (if b then [] else by r asker (what.Opener n (Some to)) ∷ [])) ≤ 2
short_sync r asker n to true = omega arith
short_sync r asker n to false = omega arith

short_opened : (rules : Rules) (t : Tree) (f : ℕ → List ℕ → Bool) (r asker : ℕ) (url : Option (List ℕ)) (name : List ℕ) (noopener user : Bool) (c : Choice) → IsShort (open_chosen (asking rules t r asker noopener user) f url name c)
short_opened rules t f r asker url name noopener user Nothing = omega arith
short_opened rules t f r asker url name noopener user New = omega arith
short_opened rules t f r asker None name noopener user (Existing n) = short_sync r asker n (nav_of t asker) (noopener || n == nav_of t asker)
short_opened rules t f r asker (Some url) name noopener user (Existing n) =
    short_if (may_navigate t (nav_of t asker) n user) (record { entries = opener_entry t r asker noopener n ++ by r asker (navigation rules t (f n url) asker n url) ∷ []; outcome = made_or_null noopener n }) (one r asker what.Sync (reply.Security 7))
    (short_front r asker n (nav_of t asker) (noopener || n == nav_of t asker) (navigation rules t (f n url) asker n url)) (omega arith)

short_twice : (r asker : ℕ) (a b : Bool) (w : What) (o p q : ReplyOutcome) → IsShort (if a then if b then one r asker w o else one r asker what.Sync p else one r asker what.Sync q)
short_twice r asker true true w o p q = omega arith
short_twice r asker true false w o p q = omega arith
short_twice r asker false b w o p q = omega arith

decide_short : (rules : Rules) (t : Tree) (f : ℕ → List ℕ → Bool) (r : ℕ) (q : Request) → IsShort (decide rules t f r q)
unfolding decide
decide_short rules t f r ask.Next = omega arith
decide_short rules t f r (ask.Open asker url name noopener user) = short_opened rules t f r asker url name noopener user (choice t (nav_of t asker) name noopener user)
decide_short rules t f r (ask.Go asker doc url user) =
    short_twice r asker (is_live t asker doc) (may_navigate t (nav_of t asker) (nav_of t doc) user) (navigation rules t (f (nav_of t doc) url) asker (nav_of t doc) url) reply.Done (reply.Security 7) reply.Done
decide_short rules t f r (ask.Name asker doc name) =
    short_twice r asker (is_live t asker doc) (same_domain t asker doc) (what.Name (nav_of t doc) name) reply.Done (reply.Security 8) reply.Done
decide_short rules t f r (ask.Disown asker doc) =
    short_twice r asker (is_live t asker doc) (same_domain t asker doc) (what.Opener (nav_of t doc) None) reply.Done (reply.Security 8) reply.Done
decide_short rules t f r (ask.Domain asker value) = domain_cases IsShort rules t r asker (map to_ascii_lowercase value) (λ n. omega arith) (λ effective e f. omega arith)
decide_short rules t f r q = omega arith

-- nothing is added, or there is need for room and at most two entries are added
abbrev IsFew : Bool → List Entry → Type 0
IsFew needs own = (own ≡ []) ⊎ ((needs ≡ true) × (length own ≤ 2))

AddsFew : Tree → ℕ → Request → Decision → Type 0
AddsFew t r q d = IsFew (is (home_if_active t (asker_of q)) r && is_active t (asker_of q)) d.entries

both_hold : (t : Tree) (d r : ℕ) → (t.doc d).been_active ≡ true → home_of t d ≡ r → is_active t d ≡ true → (is (home_if_active t d) r && is_active t d) ≡ true
both_hold t d r been home active = rw (been, active, eq-eqb (home_of t d) r home) refl

exchange_few : (rules : Rules) (log : List Entry) (r : ℕ) (q : Request) → has_no_asker q ≡ false → IsFew (is (home_if_active (tree_of log) (asker_of q)) r && is_active (tree_of log) (asker_of q)) (exchange rules log r q).entries
unfolding AddsFew
exchange_few rules log r q other =
    decided_or_none (AddsFew (tree_of log) r q) rules log r q other (inl refl) (inl refl)
    (λ been home active. inr (both_hold (tree_of log) (asker_of q) r been home active, decide_short rules (tree_of log) _ r q))

few_short : (needs : Bool) (own : List Entry) → IsFew needs own → length own ≤ 2
few_short needs own (inl none) = subst (λ (es : List Entry). length es ≤ 2) (sym none) (omega arith)
few_short needs own (inr few) = few.1

task_short : (r place : ℕ) (o : Option What) → length (task_decision r place o).entries ≤ 2
task_short r place None = omega arith
task_short r place (Some w) = omega arith

next_short : (rules : Rules) (log : List Entry) (r : ℕ) → length (exchange rules log r ask.Next).entries ≤ 2
unfolding exchange
next_short rules log r = task_short r (length log) (next_task log r)

entries_short : (rules : Rules) (log : List Entry) (r : ℕ) (q : Request) → length (exchange rules log r q).entries ≤ 2
entries_short rules log r q = by_kind (has_no_asker q) refl
  where
    by_kind : (b : Bool) → has_no_asker q ≡ b → length (exchange rules log r q).entries ≤ 2
    by_kind true e = without_asker (λ (d : Decision). length d.entries ≤ 2) rules log r q e (next_short rules log r) (omega arith)
    by_kind false e = few_short _ (exchange rules log r q).entries (exchange_few rules log r q e)

exchanged_short : (rules : Rules) (log : List Entry) (r : ℕ) (o : Option Request) → length (exchanged rules log r o) ≤ 2
exchanged_short rules log r None = omega arith
exchanged_short rules log r (Some q) = entries_short rules log r q

-- MOVES

moved_few : (rules : Rules) (log : List Entry) (r : ℕ) (acts : List Act) (d : ℕ) (point : Point) (op : OpName) (o : Performed) (act : Act) (own : List Entry) → IsAskedBy d o
    → MovesTo rules r log acts (move_by d point op o) act own → IsFew (needs_room (tree_of log) r (move_by d point op o)) own
moved_few rules log r acts d point op (Answer o) act own by_it m = inl m.1
moved_few rules log r acts d point op (Ask q) act own by_it m =
    subst (λ (es : List Entry). IsFew (is (home_if_active (tree_of log) (asker_of q)) r && is_active (tree_of log) (asker_of q)) es) (sym m.0) (exchange_few rules log r q by_it.other)

move_few : (rules : Rules) (log : List Entry) (r : ℕ) (acts : List Act) (sees : ℕ → Sight) (stops : Bool) (o : Option Left) (act : Act) (own : List Entry)
    → MovesTo rules r log acts (if stops then Stays else move_of sees o) act own → IsFew (needs_room (tree_of log) r (if stops then Stays else move_of sees o)) own
move_few rules log r acts sees true o act own m = absurd m
move_few rules log r acts sees false None act own m = inr (refl, subst (λ (es : List Entry). length es ≤ 2) (sym m.2) (omega arith))
move_few rules log r acts sees false (Some left) act own m =
    moved_few rules log r acts left.doc left.point (op_of left.step) (perform (sees left.doc) left.doc left.step) act own (asked_by (sees left.doc) left.doc left.step) m

turn_few : (s : Session) (log : List Entry) (r : ℕ) (acts : List Act) (told : ℕ) (act : Option Act) (own : List Entry) → Plays false s r log acts told act own → IsFew (needs_room (tree_of log) r (next_move s log acts)) own
unfolding next_move
turn_few s log r acts told None own h = inl h.1
turn_few s log r acts told (Some act) own h = move_few (rules_of s) log r acts (sight s log acts) (has_stopped acts) (step_left s log acts) act own h.0

length_append : (xs ys : List Entry) → length (xs ++ ys) ≡ length xs + length ys
length_append [] ys = omega arith
length_append (x ∷ xs) ys = let e : length (xs ++ ys) ≡ length xs + length ys = length_append xs ys in omega arith

-- a turn whose exchange isn't lost
kept_length : (log own : List Entry) (needs : Bool) (n : ℕ) → length log ≤ most_entries + n → (IsTrue needs → HasRoom log) → IsFew needs own → length (own ++ log) ≤ most_entries + n
kept_length log own needs n le room (inl none) = subst (λ (es : List Entry). length (es ++ log) ≤ most_entries + n) (sym none) le
kept_length log own needs n le room (inr few) =
    let has : length log + 4 ≤ most_entries = room few.0 in
    let two : length own ≤ 2 = few.1 in
    let both : length (own ++ log) ≡ length own + length log = length_append own log in
    omega arith

-- one whose exchange is lost
lost_length : (log es : List Entry) (r n : ℕ) (served : Bool) → length es ≤ 2 → length log ≤ most_entries + n
    → length ((lost_entry r ∷ (if served && not (is_full log) then es else [])) ++ log) ≤ most_entries + (n + 1)
lost_length log es r n served two le = by_tests served (is_full log) refl
  where
    by_tests : (b full : Bool) → is_full log ≡ full → length ((lost_entry r ∷ (if b && not full then es else [])) ++ log) ≤ most_entries + (n + 1)
    by_tests false full e = omega (arith, le)
    by_tests true true e = omega (arith, le)
    by_tests true false e =
        let room : length log + 4 ≤ most_entries = grind (arith, nat_tests) in
        let both : length (es ++ log) ≡ length es + length log = length_append es log in
        omega (arith, two)

turn_length : (s : Session) (older : List Turned) (t : Turned) → IsTurn s older t → (lost : Bool) → loses_next s older t.renderer ≡ lost
    → length (log_of s older) ≤ most_entries + how_many (stopped older) s.renderers → length (t.own ++ log_of s older) ≤ most_entries + how_many (stopped (t ∷ older)) s.renderers
turn_length s older t turn false kept le =
    let r : ℕ = t.renderer in
    let log : List Entry = log_of s older in
    let acts : List Act = record_of r older in
    let plays : Plays false s r log acts (told_length s r older) t.act t.own = subst (λ (b : Bool). Plays b s r log acts (told_length s r older) t.act t.own) kept turn.plays in
    let grown : length (t.own ++ log) ≤ most_entries + how_many (stopped older) s.renderers =
    kept_length log t.own (needs_room (tree_of log) r (next_move s log acts)) (how_many (stopped older) s.renderers) le (λ needs. turn.room (kept, needs)) (turn_few s log r acts (told_length s r older) t.act t.own plays) in
    let same : how_many (stopped older) s.renderers ≤ how_many (stopped (t ∷ older)) s.renderers = none_starts s older t turn s.renderers in
    omega arith
turn_length s older t turn true lost le =
    let r : ℕ = t.renderer in
    let log : List Entry = log_of s older in
    let acts : List Act = record_of r older in
    let plays : Plays true s r log acts (told_length s r older) t.act t.own = subst (λ (b : Bool). Plays b s r log acts (told_length s r older) t.act t.own) lost turn.plays in
    let es : List Entry = exchanged (rules_of s) log r (move_request (next_move s log acts)) in
    let grown : length (t.own ++ log) ≤ most_entries + (how_many (stopped older) s.renderers + 1) =
    subst (λ (own : List Entry). length (own ++ log) ≤ most_entries + (how_many (stopped older) s.renderers + 1)) (sym plays.1)
    (lost_length log es r (how_many (stopped older) s.renderers) (is_served (lose_of s r)) (exchanged_short (rules_of s) log r (move_request (next_move s log acts))) le) in
    let more : how_many (stopped older) s.renderers + 1 ≤ how_many (stopped (t ∷ older)) s.renderers = one_stops s older t turn lost s.renderers turn.there in
    omega arith

-- a log is longer than the limit by no more than the renderers that have stopped
stopped_length : (s : Session) (turns : List Turned) → ArePlayed s turns → length s.start ≤ most_entries → length (log_of s turns) ≤ most_entries + how_many (stopped turns) s.renderers
unfolding log_of
stopped_length s [] played few = let e : length (starts_of s) ≡ length s.start = starts_length s in omega arith
stopped_length s (t ∷ older) played few = turn_length s older t played.0 (loses_next s older t.renderer) refl (stopped_length s older played.1 few)

pub played_length : (s : Session) (turns : List Turned) → ArePlayed s turns → length s.start ≤ most_entries → length (log_of s turns) ≤ most_entries + s.renderers
played_length s turns played few =
    let le : length (log_of s turns) ≤ most_entries + how_many (stopped turns) s.renderers = stopped_length s turns played few in
    let all : how_many (stopped turns) s.renderers ≤ s.renderers = at_most_all (stopped turns) s.renderers in
    omega arith

pub played_bounded : (s : Session) (turns : List Turned) → ArePlayed s turns → length s.start ≤ most_entries → s.renderers ≤ most_entries → length (log_of s turns) < 2 ^ 30
played_bounded s turns played few renderers = let le : length (log_of s turns) ≤ most_entries + s.renderers = played_length s turns played few in omega arith
