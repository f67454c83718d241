-- Where a play is done and all exchanges before the named one were made, that one came.
use Rattle.std.proofs.Common.{◌≡◌, ℕ, ◌+◌, ◌<◌, List, Option, Some, None, Bool, true, false, refl, sym, ap, subst, ◌∙◌, inl, inr, eq-eqb}
use Rattle.std.specs.Prelude.{◌==◌, ◌&&◌, ◌||◌, not, if◌then◌else◌}
use Rattle.std.proofs.lemmas.Bool.{false≢true}
use Rattle.tree_log.specs.declared.entry.Entry.{Entry}
use Rattle.agent_terms.specs.declared.session.Session.{Session}
use Rattle.agent_terms.specs.declared.session.Lose.{Lose}
use Rattle.agent_terms.specs.declared.act.Act.{Act}
use Rattle.agent_terms.specs.declared.act.Ending.TheVariants.{Done}
use Rattle.agent_terms.specs.declared.act.Move.{Move}
use Rattle.agent_terms.specs.declared.act.Move.TheVariants.{Takes, Stays}
use Rattle.agent_terms.specs.declared.act.Performed.{Performed}
use Rattle.agent_terms.specs.declared.act.Performed.TheVariants.{Answer, Ask}
use Rattle.agent_terms.specs.declared.act.Point.{Point}
use Rattle.agent_terms.specs.declared.step.OpName.{OpName}
use Rattle.object_access.specs.StepAnswer.{Sight, perform}
use Rattle.single_agent.specs.Session.{lose_of}
use Rattle.single_agent.specs.Lengths.{has_stopped}
use Rattle.single_agent.specs.Running.{Left, step_left}
use Rattle.single_agent.specs.Sights.{sight}
use Rattle.single_agent.specs.NextMove.{op_of, move_by, move_of, next_move}
use Rattle.single_agent.specs.Turns.{Turned, log_of, record_of, is_exchange, calls_of, counts, is_named, is_losing, GoesOn, HasNothing, ArePlayed, EndsBy}
use Rattle.single_agent.proofs.Played.{legal_record}
use Rattle.single_agent.proofs.Rested.{IsLast, last_of}
use Rattle.loss_laws.specs.Kept.{kept_acts}
use Rattle.loss_laws.proofs.Newest.{kept_going}

-- A RENDERER THAT RESTS AND GOES ON ASKS FOR A TASK

moves : (doc : ℕ) (point : Point) (op : OpName) (p : Performed) → move_by doc point op p ≡ Stays → ⊥
moves doc point op (Answer o) h = absurd cc
moves doc point op (Ask q) h = absurd cc

does_more : (sees : ℕ → Sight) (o : Option Left) → move_of sees o ≡ Stays → ⊥
does_more sees None h = absurd cc
does_more sees (Some left) h = moves left.doc left.point (op_of left.step) (perform (sees left.doc) left.doc left.step) h

never_stays : (s : Session) (log : List Entry) (acts : List Act) → has_stopped acts ≡ false → next_move s log acts ≡ Stays → ⊥
unfolding next_move
never_stays s log acts goes h =
    does_more (sight s log acts) (step_left s log acts) (sym (ap (λ (b : Bool). if b then Stays else move_of (sight s log acts) (step_left s log acts)) goes) ∙ h)

takes_next : (s : Session) (r : ℕ) (log : List Entry) (acts : List Act) → has_stopped acts ≡ false → HasNothing s r log acts → next_move s log acts ≡ Takes
takes_next s r log acts goes (inl stays) = absurd (never_stays s log acts goes stays)
takes_next s r log acts goes (inr takes) = takes.0

-- AND THAT EXCHANGE IS THE NAMED ONE

named_now : (call made : ℕ) (counted served : Bool) → served ≡ false → made + 1 ≡ call → (call == made + 1 && (counted || not served)) ≡ true
named_now call made counted true unserved is = absurd (false≢true (sym unserved))
named_now call made true false unserved is = rw (eq-eqb call (made + 1) (sym is)) refl
named_now call made false false unserved is = rw (eq-eqb call (made + 1) (sym is)) refl

is_the_named : (s : Session) (r : ℕ) (l : Lose) (log : List Entry) (acts : List Act) → lose_of s r ≡ Some l → l.served ≡ false → calls_of s log acts + 1 ≡ l.call → next_move s log acts ≡ Takes → is_losing s r log acts ≡ true
unfolding is_losing
is_the_named s r l log acts named unserved is takes =
    ap (λ (m : Move). is_named (lose_of s r) (calls_of s log acts) (counts log r m) && is_exchange m) takes
    ∙ ap (λ (o : Option Lose). is_named o (calls_of s log acts) (counts log r Takes) && true) named
    ∙ ap (λ (b : Bool). b && true) (named_now l.call (calls_of s log acts) (counts log r Takes) l.served unserved is)

-- but at its last turn it wasn't lost
clashes : (s : Session) (turns older : List Turned) (t : Turned) (r : ℕ) (l : Lose) → t.renderer ≡ r → IsLast s turns older t → GoesOn turns r → HasNothing s r (log_of s turns) (record_of r turns) → lose_of s r ≡ Some l → l.served ≡ false
    → calls_of s (log_of s turns) (record_of r turns) + 1 ≡ l.call → ⊥
clashes s turns older t r l is last goes rests named unserved come =
    let takes : next_move s (log_of s turns) (record_of r turns) ≡ Takes = takes_next s r (log_of s turns) (record_of r turns) goes rests in
    let losing : is_losing s r (log_of s turns) (record_of r turns) ≡ true = is_the_named s r l (log_of s turns) (record_of r turns) named unserved come takes in
    let there : is_losing s r (log_of s older) (record_of r older) ≡ true =
    subst (λ (log : List Entry). is_losing s r log (record_of r older) ≡ true) last.log (subst (λ (acts : List Act). is_losing s r (log_of s turns) acts ≡ true) (last.records r) losing) in
    let spared : is_losing s r (log_of s older) (record_of r older) ≡ false = subst (λ k. is_losing s k (log_of s older) (record_of k older) ≡ false) is last.goes_through in
    false≢true (sym spared ∙ there)

by_test : (b : Bool) (s : Session) (turns : List Turned) (r : ℕ) (l : Lose) → has_stopped (record_of r turns) ≡ b → ArePlayed s turns → EndsBy s turns Done → r < s.renderers → lose_of s r ≡ Some l → l.served ≡ false
    → calls_of s (log_of s turns) (kept_acts (record_of r turns)) + 1 ≡ l.call → b ≡ true
by_test true s turns r l goes h ends there named unserved come = refl
by_test false s turns r l goes h ends there named unserved come =
    let last = last_of s turns r h ends.0 there in
    let all : kept_acts (record_of r turns) ≡ record_of r turns = kept_going s r (log_of s turns) (record_of r turns) (legal_record s r turns h) goes in
    absurd (clashes s turns last.0 last.1 r l last.2 last.3 goes (ends.1 r there) named unserved (subst (λ (o : List Act). calls_of s (log_of s turns) o + 1 ≡ l.call) all come))

pub come_is_lost : (s : Session) (turns : List Turned) (r : ℕ) (l : Lose) → ArePlayed s turns → EndsBy s turns Done → r < s.renderers → lose_of s r ≡ Some l → l.served ≡ false
    → calls_of s (log_of s turns) (kept_acts (record_of r turns)) + 1 ≡ l.call → has_stopped (record_of r turns) ≡ true
come_is_lost s turns r l h ends there named unserved come = by_test (has_stopped (record_of r turns)) s turns r l refl h ends there named unserved come
