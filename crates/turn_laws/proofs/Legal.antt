-- What a renderer holds after each kind of turn, where the acts are a legal record on the legal log.
use Rattle.std.proofs.Common.{◌≡◌, ℕ, ◌+◌, List, ◌∷◌, ◌++◌, length, Option, Some, None, false, refl, ap, ◌∙◌}
use Rattle.std.specs.Prelude.{if◌then◌else◌}
use Rattle.tree_log.specs.declared.entry.Entry.{Entry}
use Rattle.tree_log.specs.declared.entry.What.{What}
use Rattle.tree_log.specs.Log.{entry_at}
use Rattle.agent_terms.specs.declared.act.Act.{Act}
use Rattle.agent_terms.specs.declared.act.Act.TheVariants.{Step as StepAct, Task}
use Rattle.agent_terms.specs.declared.act.Answer.{Answer as AnswerOf}
use Rattle.agent_terms.specs.declared.act.Answer.TheVariants as answer
use Rattle.agent_terms.specs.declared.act.Move.TheVariants.{Answers, Asks, Takes, Stays}
use Rattle.agent_terms.specs.declared.act.Point.{Point}
use Rattle.agent_terms.specs.declared.outcome.Outcome.{Outcome}
use Rattle.agent_terms.specs.declared.request.Request.{Request}
use Rattle.agent_terms.specs.declared.session.Session.{Session}
use Rattle.agent_terms.specs.declared.step.OpName.{OpName}
use Rattle.coordinator_rules.specs.Decision.{rules_of, exchange}
use Rattle.coordinator_rules.specs.NextTask.{next_task, task_entry}
use Rattle.coordinator_rules.specs.Told.{told_log}
use Rattle.single_agent.specs.Lengths.{newest_length, has_stopped}
use Rattle.single_agent.specs.NextAct.{answer_of, kind_of}
use Rattle.single_agent.specs.NextMove.{next_move, move_of}
use Rattle.single_agent.specs.Running.{step_left}
use Rattle.single_agent.specs.Sights.{sight}
use Rattle.single_agent.proofs.Grown.{Within}
use Rattle.single_agent.proofs.Legal.{acts_within}
use Rattle.agent_terms.specs.declared.act.Running.{Running}
use Rattle.agent_laws.proofs.Logs.Admitted.{exchange_admitted}
use Rattle.renderer_laws.proofs.Kept as single
use Rattle.renderer_laws.proofs.Moving.{left_is, move_is, stores_are}
use Rattle.renderer.specs.Holding.{Holds, hearing, left_in, resting, stepped, stores_by, taken}
use Rattle.renderer_laws.specs.Keeping.{FitsRun, IsLegal, Keeps}

legal_within : (s : Session) (r : ℕ) (log : List Entry) (acts : List Act) → IsLegal s r log acts → Within (length log) acts
legal_within s r log acts legal = acts_within s r log acts legal.record_is.0 legal.record_is.1

pub kept_local : (s : Session) (r : ℕ) (log : List Entry) (acts : List Act) (told : ℕ) (w v : Holds) (doc : ℕ) (point : Point) (op : OpName) (o : Outcome) → IsLegal s r log acts → Keeps s r log acts told w
    → next_move s log acts ≡ Answers doc point op o → v ≡ record (stepped doc point op (answer.Outcome o) (left_in w) w) { stores = stores_by (left_in w) w }
    → Keeps s r log (StepAct (newest_length acts) doc point op (answer.Outcome o) ∷ acts) told v
kept_local s r log acts told w v doc point op o legal k is now =
    single.kept_local s r log acts told doc point op o w v k (left_is s r log acts told w legal k) (stores_are s r log acts told w legal k) is now

pub kept_asking : (s : Session) (r : ℕ) (log : List Entry) (acts : List Act) (told : ℕ) (w v : Holds) (doc : ℕ) (point : Point) (op : OpName) (q : Request) (given : AnswerOf) → IsLegal s r log acts → Keeps s r log acts told w
    → next_move s log acts ≡ Asks doc point op q → answer_of op (exchange (rules_of s) log r q).outcome ≡ Some given
    → v ≡ stepped doc point op given (left_in w) (hearing (told_log r ((exchange (rules_of s) log r q).entries ++ log)) w)
    → Keeps s r ((exchange (rules_of s) log r q).entries ++ log) (StepAct (length ((exchange (rules_of s) log r q).entries ++ log)) doc point op given ∷ acts) (length ((exchange (rules_of s) log r q).entries ++ log)) v
kept_asking s r log acts told w v doc point op q given legal k is gives now =
    single.kept_asking s r log (exchange (rules_of s) log r q).entries acts told doc point op q given w v legal.admitted (exchange_admitted (rules_of s) log r q legal.admitted legal.short) (legal_within s r log acts legal) k
    (left_is s r log acts told w legal k) (move_is s r log acts told w legal k) (stores_are s r log acts told w legal k) is refl gives now

pub kept_task : (s : Session) (r : ℕ) (log : List Entry) (acts : List Act) (told : ℕ) (w v : Holds) (what : What) (entry : Entry) → IsLegal s r log acts → Keeps s r log acts told w
    → next_task log r ≡ Some what → entry_at (told_log r (task_entry r what ∷ log)) (length log) ≡ Some entry → v ≡ taken (length log) entry (hearing (told_log r (task_entry r what ∷ log)) w)
    → Keeps s r (task_entry r what ∷ log) (Task (length log + 1) (kind_of what) (length log) ∷ acts) (length log + 1) v
kept_task s r log acts told w v what entry legal k next at now = single.kept_task s r log acts told what entry w v legal.admitted (legal_within s r log acts legal) k next at now

pub kept_idle : (s : Session) (r : ℕ) (log : List Entry) (acts : List Act) (told : ℕ) (w v : Holds) → IsLegal s r log acts → Keeps s r log acts told w
    → next_move s log acts ≡ Takes → v ≡ resting (hearing (told_log r log) w) → Keeps s r log acts (length log) v
kept_idle s r log acts told w v legal k takes now = single.kept_idle s r log acts told w v (legal_within s r log acts legal) k takes now

going_on : (s : Session) (log : List Entry) (acts : List Act) → has_stopped acts ≡ false → next_move s log acts ≡ move_of (sight s log acts) (step_left s log acts)
unfolding next_move
going_on s log acts h = ap (λ b. if b then Stays else move_of (sight s log acts) (step_left s log acts)) h

-- what has a step left has heard just to the newest act
pub level : (s : Session) (r : ℕ) (log : List Entry) (acts : List Act) (told : ℕ) (w : Holds) → IsLegal s r log acts → Keeps s r log acts told w → (next_move s log acts ≡ Takes → ⊥) → told ≡ newest_length acts
level s r log acts told w legal k other = by w.run k.run (λ none. other (going_on s log acts k.goes_on ∙ ap (move_of (sight s log acts)) none))
  where
    by : (run : Option Running) → FitsRun s log acts told run → (step_left s log acts ≡ None → ⊥) → told ≡ newest_length acts
    by None fits some = absurd (some fits)
    by (Some run) fits some = fits.0
