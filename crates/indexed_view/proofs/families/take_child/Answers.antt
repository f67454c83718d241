use Rattle.indexed_view.specs.Live.{is_name}
use Rattle.indexed_view.specs.Lists.{without}
use Rattle.indexed_view.proofs.FamilyRows.{children_written, names_written, name_ascends}
use Rattle.indexed_view.proofs.families.take_child.Goals as goal

pub take_name-requires : goal.take_name-requires
take_name-requires c = record {
  ascending = name_ascends c.args.families.now.items c.args.doc c.index_mut-family.result.now c.args.name.now c.requires.doc c.index_mut-family.ensures.value c.requires.ascending;
}

pub returns-clause-children : goal.returns-clause-children
returns-clause-children c =
    children_written c.args.families.now.items c.args.doc c.index_mut-family.result.now _ c.requires.doc c.index_mut-family.ensures.value (without c.args.nav) c.take_out.ensures.items

pub returns-clause-names : goal.returns-clause-names
returns-clause-names c =
    names_written c.args.families.now.items c.args.doc c.index_mut-family.result.now _ c.requires.doc c.index_mut-family.ensures.value (is_name c.args.name.now) (without c.args.nav) c.take_name.ensures.names
