use Rattle.std.proofs.Common.{◌∙◌, sym}
use Rattle.tree_view.specs.Shown.{tree_shown}
use Rattle.tree_view.proofs.Fits.{room, new_fits}
use Rattle.tree_view.proofs.NewLaws.{of_rows, after_new}
use Rattle.tree_view.proofs.plain.rows.PlainView.apply_entry.Goals as goal

pub write_new-requires-clause-fits : goal.write_new-requires-clause-fits
write_new-requires-clause-fits c = new_fits (tree_shown c.args.self.now) c.args.entry.now c.in-Some.new (sym c.in_ok-new.ensures ∙ c.in-Some.is) c.requires

pub write_new-requires-clause-room : goal.write_new-requires-clause-room
write_new-requires-clause-room c = room (tree_shown c.args.self.now) c.args.entry.now c.requires

pub returns-in_ok-write_new-in-Some-clause-ok : goal.returns-in_ok-write_new-in-Some-clause-ok
returns-in_ok-write_new-in-Some-clause-ok c =
    let e = c.in_ok-write_new-in-Some.ensures in
    of_rows c.write_new.new.self _ _ _ _ e.navs e.docs e.groups e.len ∙ after_new c.args.self.now c.args.entry.now c.in-Some.new (sym c.in_ok-new.ensures ∙ c.in-Some.is) c.requires
