use Rattle.indexed_view.proofs.Added.{frame_acts}
use Rattle.indexed_view.proofs.applies.follow.Goals as goal

pub unreachable-requires : goal.unreachable-requires
unreachable-requires g c =
    frame_acts (g.V.View.tree c.args.view.now) c.args.entry.now c.in-Frame.nav c.in-Frame.doc c.in-Frame.home c.in-Frame.origin c.in-Frame.name c.in-Frame.flags c.in-Frame.load c.requires.admitted c.in-Frame.is c.in-None.is
