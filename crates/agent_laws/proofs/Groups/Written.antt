-- What registers hold once something is written: objects of their document's group, where what is written belongs to it.
use Rattle.std.proofs.Common.{◌≡◌, ℕ, ◌<◌, ◌^◌, List, ◌++◌, length, Option, Some, None, Bool, true, false, refl, sym, ap, subst, inl, inr}
use Rattle.std.specs.Prelude.{◌==◌, ◌&&◌, bytes_eq, slice_get, if◌then◌else◌}
use Rattle.std.specs.Option.{option_map}
use Rattle.std.proofs.lemmas.Bool.Decides.{eqb_tells}
use Rattle.window_props.specs.declared.value.Value.{Value}
use Rattle.window_props.specs.declared.value.Value.TheVariants as value
use Rattle.tree_log.specs.declared.entry.Entry.{Entry}
use Rattle.tree_log.specs.Tree.{Tree, tree_of, is_active}
use Rattle.tree_log.specs.Admits.{AreAdmitted}
use Rattle.agent_terms.specs.declared.session.Session.{Session}
use Rattle.agent_terms.specs.declared.step.Step.{Step}
use Rattle.agent_terms.specs.declared.step.OpName.{OpName}
use Rattle.agent_terms.specs.declared.step.OpName.TheVariants as op
use Rattle.agent_terms.specs.declared.act.Answer.{Answer as AnswerOf}
use Rattle.agent_terms.specs.declared.act.Answer.TheVariants as answer
use Rattle.agent_terms.specs.declared.act.Running.{Running}
use Rattle.agent_terms.specs.declared.outcome.Outcome.TheVariants as outcome
use Rattle.agent_terms.specs.declared.request.Request.{Request}
use Rattle.agent_terms.specs.declared.request.ReplyOutcome.{ReplyOutcome}
use Rattle.agent_terms.specs.declared.request.ReplyOutcome.TheVariants as reply
use Rattle.object_access.specs.Registers.{written, value_in, written_to}
use Rattle.object_access.specs.Values.{null}
use Rattle.coordinator_rules.specs.Decision.{Rules, exchange, asker_of}
use Rattle.single_agent.specs.Session.{steps_of}
use Rattle.single_agent.specs.Running.{Left, made_before, left_at, left_on}
use Rattle.single_agent.specs.NextAct.{rule_of, done_of, answer_of}
use Rattle.agent_laws.specs.Belonging.{Belongs, RegistersBelong, IsClosed}
use Rattle.agent_laws.proofs.Groups.MadeWindows.{made_belongs}

-- whose step is left
pub left_doc : (s : Session) (t : Tree) (urls : ℕ → List ℕ) (run : Running) (left : Left) → left_on s t urls run ≡ Some left → run.doc ≡ left.doc
left_doc s t urls run left h = by (is_active t run.doc) h where
  at : (found : Option Step) → option_map (left_at run) found ≡ Some left → run.doc ≡ left.doc
  at None e = absurd cc
  at (Some step) e = let same : left_at run step ≡ left = cc in ap (λ (l : Left). l.doc) same

  by : (b : Bool) → (if b then option_map (left_at run) (slice_get (steps_of s t urls run.doc run.point) (made_before run.point)) else None) ≡ Some left → run.doc ≡ left.doc
  by true e = at (slice_get (steps_of s t urls run.doc run.point) (made_before run.point)) e
  by false e = absurd cc

-- REGISTERS

pub written_belongs : (t : Tree) (d : ℕ) (name : List ℕ) (v : Value) (registers : ℕ → List ℕ → Value) → Belongs t d v → RegistersBelong t registers → RegistersBelong t (written d name v registers)
unfolding written
written_belongs t d name v registers b held = λ e other. elim (eqb_tells e d) as (λ _. Belongs t e (if (e == d) && bytes_eq other name then v else registers e other)) [
  | inl p ↦ rw (p.0) (by_name e other (bytes_eq other name) p.1)
  | inr p ↦ rw (p.0) (held e other)
]
  where
    by_name : (e : ℕ) (other : List ℕ) (b : Bool) → e ≡ d → Belongs t e (if b then v else registers e other)
    by_name e other true is = subst (λ (x : ℕ). Belongs t x v) (sym is) b
    by_name e other false is = held e other

pub to_belongs : (t : Tree) (registers : ℕ → List ℕ → Value) (d : ℕ) (to : Option (List ℕ)) (v : Value) → RegistersBelong t registers → Belongs t d v → RegistersBelong t (written_to d to v registers)
to_belongs t registers d None v all here = all
to_belongs t registers d (Some name) v all here = written_belongs t d name v registers here all

-- WHAT THE COORDINATOR REPLIES

done_belongs : (t : Tree) (d : ℕ) (o : OpName) → Belongs t d (value_in (done_of o))
done_belongs t d op.Set = tt
done_belongs t d _ = tt

replied : (t : Tree) (d : ℕ) (o : OpName) (q : ReplyOutcome) (given : AnswerOf) → Some given ≡ answer_of o q → ((nav : ℕ) → q ≡ reply.Made nav → Belongs t d (value.Window nav)) → Belongs t d (value_in given)
replied t d o reply.Done given e made = let same : done_of o ≡ given = cc in subst (λ (a : AnswerOf). Belongs t d (value_in a)) same (done_belongs t d o)
replied t d o (reply.Security n) given e made =
    let same : answer.Outcome (outcome.Security (rule_of n)) ≡ given = cc in subst (λ (a : AnswerOf). Belongs t d (value_in a)) same tt
replied t d o reply.Null given e made = let same : answer.Outcome (outcome.Value null) ≡ given = cc in subst (λ (a : AnswerOf). Belongs t d (value_in a)) same tt
replied t d o (reply.Made nav) given e made =
    let same : answer.Outcome (outcome.Value (value.Window nav)) ≡ given = cc in subst (λ (a : AnswerOf). Belongs t d (value_in a)) same (made nav refl)
replied t d o (reply.Unloaded place) given e made = let same : answer.Unloaded ≡ given = cc in subst (λ (a : AnswerOf). Belongs t d (value_in a)) same tt
replied t d o _ given e made = absurd cc

pub reply_belongs : (rules : Rules) (log : List Entry) (r : ℕ) (q : Request) (d : ℕ) (o : OpName) (given : AnswerOf) → AreAdmitted log → length log < 2 ^ 30 → IsClosed (tree_of log) → asker_of q ≡ d
    → Some given ≡ answer_of o (exchange rules log r q).outcome → Belongs (tree_of ((exchange rules log r q).entries ++ log)) d (value_in given)
reply_belongs rules log r q d o given all short closed asker gives =
    let t : Tree = tree_of ((exchange rules log r q).entries ++ log) in
    replied t d o (exchange rules log r q).outcome given gives (λ nav is. subst (λ x. Belongs t x (value.Window nav)) asker (made_belongs rules log r q nav all short closed is))
