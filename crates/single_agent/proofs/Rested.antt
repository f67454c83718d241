-- Where a play is done, each renderer had a turn in the last round, at which it had nothing to do.
use Rattle.std.proofs.Common.{◌≡◌, ℕ, ◌+◌, ◌-◌, ◌*◌, ◌/◌, ◌%◌, ◌<◌, ◌≤◌, zero, suc, List, [], ◌∷◌, ◌++◌, length, Option, Some, None, Bool, true, false, refl, sym, ap, subst, ◌∙◌, arith, inl, inr}
use Rattle.std.specs.Prelude.{◌==◌, ◌&&◌, ◌||◌, not, take, nat_lt, slice_get, if◌then◌else◌}
use Rattle.std.specs.List.{list_any}
use Rattle.std.proofs.Math.Nat.{suc-mul, zero-mul, mod-add-div'}
use Rattle.std.proofs.lemmas.Nat.{mod-mul-add}
use Rattle.std.proofs.lemmas.Bool.{false≢true}
use Rattle.std.proofs.lemmas.Bool.Decides.{nat_tests}
use Rattle.std.proofs.lemmas.Option.{slice_get_cases}
use Rattle.tree_log.specs.declared.entry.Entry.{Entry}
use Rattle.tree_log.specs.Tree.{tree_of}
use Rattle.tree_log.proofs.Admitted.{both, lt_of, eq_of}
use Rattle.agent_terms.specs.declared.session.Session.{Session}
use Rattle.agent_terms.specs.declared.act.Act.{Act}
use Rattle.agent_terms.specs.declared.act.Ending.TheVariants.{Done}
use Rattle.agent_terms.specs.declared.act.Move.TheVariants.{Takes, Stays}
use Rattle.agent_terms.specs.declared.act.Performed.{Performed}
use Rattle.agent_terms.specs.declared.act.Performed.TheVariants.{Answer, Ask}
use Rattle.agent_terms.specs.declared.act.Point.{Point}
use Rattle.agent_terms.specs.declared.step.OpName.{OpName}
use Rattle.agent_terms.specs.Limits.{most_acts}
use Rattle.object_access.specs.StepAnswer.{Sight, perform}
use Rattle.single_agent.specs.Running.{Left, step_left}
use Rattle.single_agent.specs.Sights.{sight}
use Rattle.single_agent.specs.Lengths.{newest_length, has_stopped}
use Rattle.single_agent.specs.NextMove.{op_of, move_by, move_of, next_move}
use Rattle.single_agent.specs.Turns.{Turned, log_of, with_act, record_of, told_length, HasRoom, is_losing, has_act, is_some_act, next_in_rounds, next_renderer, needs_room, loses_next, GoesOn, HasNothing, Plays, IsTurn, ArePlayed, EndsBy}
use Rattle.single_agent.proofs.Played.{lost_exchanges, no_lost_act}

-- A TURN WITHOUT AN ACT

no_act_is : (o : Option Act) → is_some_act o ≡ false → o ≡ None
no_act_is None h = refl
no_act_is (Some a) h = absurd (false≢true (sym h))

nothing_played : (lost : Bool) (s : Session) (r : ℕ) (log : List Entry) (acts : List Act) (told : ℕ) (own : List Entry) → is_losing s r log acts ≡ lost → Plays lost s r log acts told None own → (lost ≡ false) × (own ≡ [])
nothing_played true s r log acts told own losing h = absurd (no_lost_act (newest_length acts) told (next_move s log acts) (lost_exchanges s r log acts losing) h.0)
nothing_played false s r log acts told own losing h = (refl, h.1)

-- what a turn without an act leaves
record IsIdle (s : Session) (older : List Turned) (t : Turned) : Type 0 where
  pub goes_through : loses_next s older t.renderer ≡ false
  pub log : log_of s (t ∷ older) ≡ log_of s older
  pub records : (q : ℕ) → record_of q (t ∷ older) ≡ record_of q older

same_record : (q : ℕ) (t : Turned) (older : List Turned) → t.act ≡ None → record_of q (t ∷ older) ≡ record_of q older
unfolding record_of
same_record q t older none = ap (λ (o : Option Act). if t.renderer == q then with_act o (record_of q older) else record_of q older) none ∙ either (t.renderer == q)
  where
    either : (b : Bool) → (if b then record_of q older else record_of q older) ≡ record_of q older
    either true = refl
    either false = refl

same_log : (s : Session) (t : Turned) (older : List Turned) → t.own ≡ [] → log_of s (t ∷ older) ≡ log_of s older
unfolding log_of
same_log s t older none = ap (λ (es : List Entry). es ++ log_of s older) none

idle : (s : Session) (older : List Turned) (t : Turned) → IsTurn s older t → has_act t ≡ false → IsIdle s older t
idle s older t turn h =
    let none : t.act ≡ None = no_act_is t.act h in
    let plays : Plays (loses_next s older t.renderer) s t.renderer (log_of s older) (record_of t.renderer older) (told_length s t.renderer older) None t.own =
    subst (λ (o : Option Act). Plays (loses_next s older t.renderer) s t.renderer (log_of s older) (record_of t.renderer older) (told_length s t.renderer older) o t.own) none turn.plays in
    let left = nothing_played (loses_next s older t.renderer) s t.renderer (log_of s older) (record_of t.renderer older) (told_length s t.renderer older) t.own refl plays in
    record { goes_through = left.0; log = same_log s t older left.1; records = λ q. same_record q t older none }

-- A TURN OF THE LAST ROUND

-- a turn that left the log and all records as they are now
pub record IsLast (s : Session) (turns older : List Turned) (t : Turned) : Type 0 where
  pub turn : IsTurn s older t
  pub goes_through : loses_next s older t.renderer ≡ false
  pub log : log_of s turns ≡ log_of s older
  pub records : (q : ℕ) → record_of q turns ≡ record_of q older

none_of : (a b : Bool) → (a || b) ≡ false → (a ≡ false) × (b ≡ false)
none_of false b h = (refl, h)
none_of true b h = absurd (false≢true (sym h))

-- the turn that j later ones follow, where none of these and of it acted
last_turn : (s : Session) (turns : List Turned) (m j : ℕ) → ArePlayed s turns → list_any has_act (take m turns) ≡ false → j < m → j < length turns
    → (older : List Turned) × (t : Turned) × (length turns ≡ length older + suc j) × IsLast s turns older t
last_turn s [] m j h none below there = absurd (omega (arith, there))
last_turn s (t ∷ older) zero j h none below there = absurd (omega (arith, below))
last_turn s (t ∷ older) (suc m) zero h none below there =
    let i = idle s older t h.0 (none_of (has_act t) (list_any has_act (take m older)) none).0 in
    (older, t, omega arith, record { turn = h.0; goes_through = i.goes_through; log = i.log; records = i.records })
last_turn s (t ∷ older) (suc m) (suc j) h none below there =
    let two = none_of (has_act t) (list_any has_act (take m older)) none in
    let i = idle s older t h.0 two.0 in
    let below' : j < m = omega (arith, below) in
    let there' : j < length older = omega (arith, there) in
    let l = last_turn s older m j h.1 two.1 below' there' in
    (l.0, l.1, omega (arith, l.2), record { turn = l.3.turn; goes_through = l.3.goes_through; log = i.log ∙ l.3.log; records = λ q. i.records q ∙ l.3.records q })

-- WHOSE TURN IT WAS

in_rounds : (s : Session) (turns : List Turned) (b : Bool) → nat_lt (length turns) (length s.order) ≡ b
    → (if b then slice_get s.order (length turns) else next_in_rounds s.renderers (length turns - length s.order) turns) ≡ None
    → (length s.order ≤ length turns) × (next_in_rounds s.renderers (length turns - length s.order) turns ≡ None)
in_rounds s turns false later h = (not_less (length turns) (length s.order) later, h)
  where
    not_less : (a b : ℕ) → nat_lt a b ≡ false → b ≤ a
    not_less a b k = grind (arith, nat_tests)
in_rounds s turns true early h =
    let before : length turns < length s.order = lt_of (length turns) (length s.order) early in
    elim ((slice_get_cases s.order (length turns)).1) [
      | inl some ↦ (let clash : None ≡ Some some.0 = sym h ∙ some.2 in absurd cc)
      | inr none ↦ absurd (omega (arith, before, none.0))
    ]

round_over : (n made : ℕ) (turns : List Turned) (b : Bool) → ((made % n == 0) && nat_lt 0 made && not (list_any has_act (take n turns))) ≡ b → (if b then None else Some (made % n)) ≡ None → b ≡ true
round_over n made turns true is h = refl
round_over n made turns false is h = absurd cc

negated : (b : Bool) → not b ≡ true → b ≡ false
negated false h = refl
negated true h = absurd (false≢true h)

record IsRound (n made : ℕ) (turns : List Turned) : Type 0 where
  pub whole : made % n ≡ 0
  pub some : 0 < made
  pub quiet : list_any has_act (take n turns) ≡ false

round_is : (n made : ℕ) (turns : List Turned) → next_in_rounds n made turns ≡ None → IsRound n made turns
round_is n made turns h =
    let all = round_over n made turns _ refl h in
    let outer = both (made % n == 0 && nat_lt 0 made) (not (list_any has_act (take n turns))) all in
    let inner = both (made % n == 0) (nat_lt 0 made) outer.0 in
    record { whole = eq_of (made % n) 0 inner.0; some = lt_of 0 made inner.1; quiet = negated (list_any has_act (take n turns)) outer.1 }

-- the turn of r in a round that ends at k
turn_in_round : (q n k r : ℕ) → k ≡ q * n → 0 < k → r < n → (k - (n - r)) % n ≡ r
turn_in_round zero n k r e some below = let z = zero-mul n in absurd (omega (arith, e, some, z))
turn_in_round (suc p) n k r e some below =
    let e' = suc-mul p n in
    let same : k - (n - r) ≡ p * n + r = omega (arith, e, e', below) in
    ap (λ (x : ℕ). x % n) same ∙ mod-mul-add p n r below

at_least : (q n k : ℕ) → k ≡ q * n → 0 < k → n ≤ k
at_least zero n k e some = let z = zero-mul n in absurd (omega (arith, e, some, z))
at_least (suc p) n k e some = let e' = suc-mul p n in omega (arith, e, e')

renderer_is : (n made : ℕ) (turns : List Turned) (b : Bool) (r : ℕ) → (if b then None else Some (made % n)) ≡ Some r → made % n ≡ r
renderer_is n made turns true r h = absurd cc
renderer_is n made turns false r h = cc

due_in_rounds : (s : Session) (older : List Turned) (r : ℕ) → length s.order ≤ length older → next_renderer s older ≡ Some r → (length older - length s.order) % s.renderers ≡ r
unfolding next_renderer
due_in_rounds s older r later due = by_test (nat_lt (length older) (length s.order)) refl due
  where
    by_test : (b : Bool) → nat_lt (length older) (length s.order) ≡ b
        → (if b then slice_get s.order (length older) else next_in_rounds s.renderers (length older - length s.order) older) ≡ Some r → (length older - length s.order) % s.renderers ≡ r
    by_test true early h = let before = lt_of (length older) (length s.order) early in absurd (omega (arith, before, later))
    by_test false late h = renderer_is s.renderers (length older - length s.order) older _ r h

ends_rounds : (s : Session) (turns : List Turned) → next_renderer s turns ≡ None → (length s.order ≤ length turns) × (next_in_rounds s.renderers (length turns - length s.order) turns ≡ None)
unfolding next_renderer
ends_rounds s turns h = in_rounds s turns (nat_lt (length turns) (length s.order)) refl h

-- where the play is done, renderer r had a turn since which nothing happened
pub last_of : (s : Session) (turns : List Turned) (r : ℕ) → ArePlayed s turns → next_renderer s turns ≡ None → r < s.renderers
    → (older : List Turned) × (t : Turned) × (t.renderer ≡ r) × IsLast s turns older t
last_of s turns r played none there =
    let e = ends_rounds s turns none in
    let k : ℕ = length turns - length s.order in
    let i = round_is s.renderers k turns e.1 in
    let q : ℕ = k / s.renderers in
    let parts = mod-add-div' k s.renderers in
    let whole : k ≡ q * s.renderers = omega (arith, parts, i.whole) in
    let many : s.renderers ≤ k = at_least q s.renderers k whole i.some in
    let l = last_turn s turns s.renderers (s.renderers - suc r) played i.quiet (omega (arith, there)) (omega (arith, there, many, e.0)) in
    let later : length s.order ≤ length l.0 = omega (arith, l.2, many, there, e.0) in
    let turn_at : length l.0 - length s.order ≡ k - (s.renderers - r) = omega (arith, l.2, many, there, e.0) in
    let due : (length l.0 - length s.order) % s.renderers ≡ l.1.renderer = due_in_rounds s l.0 l.1.renderer later l.3.turn.due in
    (l.0, l.1, sym due ∙ ap (λ (x : ℕ). x % s.renderers) turn_at ∙ turn_in_round q s.renderers k r whole i.some there, l.3)

-- WHAT A RENDERER THAT GOES ON NEEDS

moves : (doc : ℕ) (point : Point) (op : OpName) (p : Performed) → move_by doc point op p ≡ Stays → ⊥
moves doc point op (Answer o) h = absurd cc
moves doc point op (Ask q) h = absurd cc

does_more : (sees : ℕ → Sight) (o : Option Left) → move_of sees o ≡ Stays → ⊥
does_more sees None h = absurd cc
does_more sees (Some left) h = moves left.doc left.point (op_of left.step) (perform (sees left.doc) left.doc left.step) h

never_stays : (s : Session) (log : List Entry) (acts : List Act) → has_stopped acts ≡ false → next_move s log acts ≡ Stays → ⊥
unfolding next_move
never_stays s log acts goes h =
    does_more (sight s log acts) (step_left s log acts) (sym (ap (λ (b : Bool). if b then Stays else move_of (sight s log acts) (step_left s log acts)) goes) ∙ h)

takes_next : (s : Session) (r : ℕ) (log : List Entry) (acts : List Act) → has_stopped acts ≡ false → HasNothing s r log acts → next_move s log acts ≡ Takes
takes_next s r log acts goes (inl stays) = absurd (never_stays s log acts goes stays)
takes_next s r log acts goes (inr takes) = takes.0

-- at its last turn
rested : (s : Session) (turns older : List Turned) (t : Turned) (r : ℕ) → t.renderer ≡ r → IsLast s turns older t → GoesOn turns r → HasNothing s r (log_of s turns) (record_of r turns)
    → HasRoom (log_of s turns) × (length (record_of r turns) < most_acts)
rested s turns older t r is last goes rests =
    let goes_there : GoesOn older t.renderer = subst (λ (acts : List Act). has_stopped acts ≡ false) (last.records t.renderer) (subst (GoesOn turns) (sym is) goes) in
    let takes : next_move s (log_of s turns) (record_of r turns) ≡ Takes = takes_next s r (log_of s turns) (record_of r turns) goes rests in
    let takes_there : next_move s (log_of s older) (record_of t.renderer older) ≡ Takes =
    subst (λ (log : List Entry). next_move s log (record_of t.renderer older) ≡ Takes) last.log
    (subst (λ (acts : List Act). next_move s (log_of s turns) acts ≡ Takes) (last.records t.renderer) (subst (λ k. next_move s (log_of s turns) (record_of k turns) ≡ Takes) (sym is) takes)) in
    let needs : needs_room (tree_of (log_of s older)) t.renderer (next_move s (log_of s older) (record_of t.renderer older)) ≡ true = ap (needs_room (tree_of (log_of s older)) t.renderer) takes_there in
    let room : HasRoom (log_of s older) = last.turn.room (last.goes_through, needs) in
    let fewer : length (record_of t.renderer older) < most_acts = last.turn.fewer goes_there in (
      subst HasRoom (sym last.log) room,
      subst (λ k. length (record_of k turns) < most_acts) is (subst (λ (acts : List Act). length acts < most_acts) (sym (last.records t.renderer)) fewer),
    )

-- where a play is done, and a renderer wasn't lost, the log has room
pub done_has_room : (s : Session) (turns : List Turned) (r : ℕ) → ArePlayed s turns → EndsBy s turns Done → r < s.renderers → GoesOn turns r → HasRoom (log_of s turns)
done_has_room s turns r played ends there goes = let l = last_of s turns r played ends.0 there in (rested s turns l.0 l.1 r l.2 l.3 goes (ends.1 r there)).0

-- and so has its record
pub done_has_few : (s : Session) (turns : List Turned) (r : ℕ) → ArePlayed s turns → EndsBy s turns Done → r < s.renderers → GoesOn turns r → length (record_of r turns) < most_acts
done_has_few s turns r played ends there goes = let l = last_of s turns r played ends.0 there in (rested s turns l.0 l.1 r l.2 l.3 goes (ends.1 r there)).1
