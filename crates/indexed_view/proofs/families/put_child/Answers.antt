use Rattle.indexed_view.specs.Live.{is_name}
use Rattle.indexed_view.specs.Lists.{with_one}
use Rattle.indexed_view.proofs.FamilyRows.{children_written, names_written, name_ascends, has_room}
use Rattle.indexed_view.proofs.families.put_child.Goals as goal

pub put_name-requires-clause-ascending : goal.put_name-requires-clause-ascending
put_name-requires-clause-ascending c =
    name_ascends c.args.families.now.items c.args.doc c.index_mut-family.result.now c.args.name.now c.requires.doc c.index_mut-family.ensures.value c.requires.ascending

pub put_name-requires-clause-room : goal.put_name-requires-clause-room
put_name-requires-clause-room c =
    (has_room c.args.families.now.items c.args.doc c.index_mut-family.result.now c.args.name.now c.requires.doc c.index_mut-family.ensures.value c.requires.room).1

pub returns-clause-children : goal.returns-clause-children
returns-clause-children c =
    children_written c.args.families.now.items c.args.doc c.index_mut-family.result.now _ c.requires.doc c.index_mut-family.ensures.value (with_one c.args.nav) c.put.ensures

pub returns-clause-names : goal.returns-clause-names
returns-clause-names c =
    names_written c.args.families.now.items c.args.doc c.index_mut-family.result.now _ c.requires.doc c.index_mut-family.ensures.value (is_name c.args.name.now) (with_one c.args.nav) c.put_name.ensures
