use Rattle.std.proofs.Common.{◌≡◌, ◌∙◌, ◌∷◌, ap, sym, subst, arith}
use Rattle.tree_log.specs.Tree.{Tree, tree_after, tree_of, tree_of_step}
use Rattle.tree_log.specs.Admits.{AreAdmitted}
use Rattle.session_player.specs.Quiet.{are_quiet}
use Rattle.session_player.proofs.Quiet.{quiet_more, quiet_ascends}
use Rattle.session_player.proofs.Results.{ok_then}
use Rattle.session_player.proofs.desk.Desk.append.Goals as goal

pub push-requires-clause-keys : goal.push-requires-clause-keys
push-requires-clause-keys g c = quiet_ascends c.args.entry.what c.requires.quiet

pub invariant_of-self-2 : goal.invariant_of-self-2
invariant_of-self-2 g c =
    let pushed = ok_then c.push.result (c.push.ensures.reserved (omega (arith, c.in_ok-reserve.ensures.room))) c.push.ensures.ok in
    let grown : c.push.new.self.entries ≡ c.args.entry ∷ c.args.self.now.log.entries = pushed ∙ ap (λ es. c.args.entry ∷ es) c.in_ok-reserve.ensures.entries in
    record {
      same = c.in_ok-apply.ensures.ok ∙ ap (λ (t : Tree). tree_after t c.args.entry) c.args.self.now.same ∙ sym (tree_of_step c.args.entry c.args.self.now.log.entries) ∙ ap tree_of (sym grown);
      admitted = subst AreAdmitted (sym grown) (c.requires.admitted, c.args.self.now.admitted);
      quiet = ap are_quiet grown ∙ quiet_more c.args.entry c.args.self.now.log.entries c.requires.quiet c.args.self.now.quiet;
    }
