use Rattle.std.proofs.Common.{◌≡◌, ◌∙◌, ◌+◌, ◌≤◌, ◌<◌, length, sym, ap, subst, arith}
use Rattle.std.specs.Option.{option_copied}
use Rattle.agent_terms.specs.declared.act.Running.{Running}
use Rattle.object_access.specs.Registers.{value_in}
use Rattle.single_agent.specs.Running.{made_before}
use Rattle.script_steps.specs.Kept.{kept}
use Rattle.session_player.specs.There.{AllThere}
use Rattle.session_player.proofs.There.{there_to}
use Rattle.session_player.proofs.Stepping.{made_next}
use Rattle.session_player.proofs.worker.Worker.keep.Goals as goal

pub invariant_of-self-in-Break-branch-2 : goal.invariant_of-self-in-Break-branch-2
invariant_of-self-in-Break-branch-2 g c =
    let t = g.V.View.tree c.args.self.now.view in
    let before = kept c.args.self.now.registers in
    let to = option_copied c.args.to in
    record {
      there = c.args.self.now.there;
      named = subst (AllThere t) (sym c.in_ok-write.ensures.done) (there_to t before c.args.run.doc to (value_in c.args.answer) c.args.self.now.named c.requires.named);
      counted = λ r is. let made = c.args.self.now.counted r is in omega (arith, c.push.ensures.lower_bound);
    }

pub invariant_of-self-2 : goal.invariant_of-self-2
invariant_of-self-2 g c =
    let t = g.V.View.tree c.args.self.now.view in
    let before = kept c.args.self.now.registers in
    let to = option_copied c.args.to in
    record {
      there = λ r is.
          let same : record { doc = c.args.run.doc; point = c.next_point.result } ≡ r = cc in
          subst (λ (q : Running). q.doc < t.docs) same (c.args.self.now.there c.args.run c.requires.run);
      named = subst (AllThere t) (sym c.in_ok-write.ensures.done) (there_to t before c.args.run.doc to (value_in c.args.answer) c.args.self.now.named c.requires.named);
      counted = λ r is.
          let same : record { doc = c.args.run.doc; point = c.next_point.result } ≡ r = cc in
          let made = c.args.self.now.counted c.args.run c.requires.run in
          let more : made_before c.next_point.result ≡ made_before c.args.run.point + 1 = ap made_before c.next_point.ensures ∙ made_next c.args.run.point in
          subst (λ (q : Running). made_before q.point ≤ length c.push.new.self.items) same (omega (arith, made, more, c.in_ok-push.ensures.len));
    }

pub next_point-requires : goal.next_point-requires
next_point-requires g c = let made = c.args.self.now.counted c.args.run c.requires.run in omega (arith, made, c.requires.few)
