use Rattle.std.proofs.Common.{◌≡◌, List, ap, ◌∙◌}
use Rattle.home_index.specs.Rows.{Row, with_row, row}
use Rattle.home_index.specs.Keyed.{rows_in, ArePlaced, with_entry}
use Rattle.home_index.proofs.Found.{placed_later, placed_after, rows_with, on_ok}
use Rattle.home_index.proofs.Grown.{load_fed}
use Rattle.home_index.proofs.homes.Homes.note.Goals as goal

-- the rows that are there have places
placed : (c : goal.After-add) → ArePlaced c.place_for.new.hosts.keys c.self.inside.rows.entries
placed c = placed_later c.self.inside.hosts.keys c.place_for.new.hosts.keys c.self.inside.rows.entries c.place_for.ensures.kept c.self.invariant

-- the rows are those from before, and the new one
noted : (c : goal.After-add) → c.add.new.rows.entries ≡ with_entry c.self.inside.rows.entries (record { group = c.args.group; place = c.in_ok-place.place }, record { site = c.args.site; home = c.args.home })
    → rows_in c.add.new.rows.entries ≡ with_row c.args.self.now (row c.args.group c.args.site c.args.home)
noted c added =
    ap rows_in added
    ∙ rows_with c.place_for.new.hosts.keys c.self.inside.rows.entries (record { group = c.args.group; place = c.in_ok-place.place }, record { site = c.args.site; home = c.args.home }) c.in_ok-place.ensures.placed (placed c)
    ∙ ap (λ (rows : List Row). with_row rows (row c.args.group c.args.site c.args.home)) c.self.view_is

pub invariant_of-self : goal.invariant_of-self
invariant_of-self c = placed_later c.self.inside.hosts.keys c.place_for.new.hosts.keys c.self.inside.rows.entries c.place_for.ensures.kept c.self.invariant

pub invariant_of-self-2 : goal.invariant_of-self-2
invariant_of-self-2 c =
    placed_after c.place_for.new.hosts.keys c.self.inside.rows.entries c.add.new.rows.entries (record { group = c.args.group; place = c.in_ok-place.place }, record { site = c.args.site; home = c.args.home }) c.add.result
    c.in_ok-place.ensures.placed (placed c) c.add.ensures.added c.add.ensures.err

pub returns-clause-noted : goal.returns-clause-noted
returns-clause-noted c = on_ok c.add.result c.add.ensures.added (noted c)

pub returns-clause-fed : goal.returns-clause-fed
returns-clause-fed c = on_ok c.add.result c.add.ensures.added (
    λ added suffixes entry log all begins fed.
    noted c added ∙ load_fed suffixes c.args.self.now entry log begins.load c.args.group c.args.site c.args.home all begins.begins begins.in_group begins.of_site begins.at_home fed
    )
