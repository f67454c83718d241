use Rattle.std.proofs.Common.{◌≡◌, ◌∙◌, sym, ap, subst, []}
use Rattle.tree_log.specs.Tree.{tree_of}
use Rattle.tree_log.specs.Admits.{AreAdmitted}
use Rattle.session_player.specs.Quiet.{are_quiet}
use Rattle.session_player.proofs.desk.Desk.new.Goals as goal

pub invariant_of-result : goal.invariant_of-result
invariant_of-result g c =
    let none : c.new.result.entries ≡ [] = c.new.ensures.entries in
    record {
      same = c.empty.ensures.tree ∙ ap tree_of (sym none);
      admitted = subst AreAdmitted (sym none) tt;
      quiet = ap are_quiet none;
    }
