use Rattle.std.proofs.Common.{◌∙◌, ap}
use Rattle.tree_log.specs.Siblings.{behind, first_if_any}
use Rattle.indexed_view.proofs.Firsts.{behind_live_within}
use Rattle.indexed_view.proofs.reads.child_after.Goals as goal

pub returns-then-is_active-clause-within : goal.returns-then-is_active-clause-within
returns-then-is_active-clause-within g c =
    behind_live_within (g.V.View.tree c.args.view.now) c.requires.indexed.grown c.args.doc c.args.nav c.next_after.result (c.next_after.ensures ∙ ap (λ ns. first_if_any (behind c.args.nav ns)) c.live_of.ensures.value)
