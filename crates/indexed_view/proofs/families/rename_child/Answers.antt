use Rattle.std.proofs.Common.{◌∙◌, refl, sym, ap}
use Rattle.indexed_view.specs.Lists.{is_in}
use Rattle.indexed_view.specs.Families.{renamed}
use Rattle.indexed_view.proofs.FamilyRows.{children_unchanged, names_renamed, names_left, name_ascends, has_room}
use Rattle.indexed_view.proofs.families.rename_child.Goals as goal

pub rename-requires-clause-ascending : goal.rename-requires-clause-ascending
rename-requires-clause-ascending c = λ q.
    name_ascends c.args.families.now.items c.args.doc c.index_mut-family.result.now q c.requires.doc c.index_mut-family.ensures.value c.requires.ascending

pub rename-requires-clause-room : goal.rename-requires-clause-room
rename-requires-clause-room c =
    (has_room c.args.families.now.items c.args.doc c.index_mut-family.result.now c.args.to.now c.requires.doc c.index_mut-family.ensures.value c.requires.room).1

pub returns-then-is_there-clause-children : goal.returns-then-is_there-clause-children
returns-then-is_there-clause-children c = children_unchanged c.args.families.now.items c.args.doc c.index_mut-family.result.now _ c.requires.doc c.index_mut-family.ensures.value refl

pub returns-then-is_there-clause-names : goal.returns-then-is_there-clause-names
returns-then-is_there-clause-names c =
    let there = ap (is_in c.args.nav) (sym c.deref.ensures.value) ∙ sym c.is_there.ensures ∙ c.if-is_there.true in
    names_renamed c.args.families.now.items c.args.doc c.args.nav c.index_mut-family.result.now _ c.requires.doc c.index_mut-family.ensures.value (renamed c.args.nav c.args.from.now c.args.to.now) there c.rename.ensures

pub returns-else-is_there-clause-names : goal.returns-else-is_there-clause-names
returns-else-is_there-clause-names c =
    let away = ap (is_in c.args.nav) (sym c.deref.ensures.value) ∙ sym c.is_there.ensures ∙ c.if-is_there.false in
    names_left c.args.families.now.items c.args.doc c.args.nav c.index_mut-family.result.now _ c.requires.doc c.index_mut-family.ensures.value (renamed c.args.nav c.args.from.now c.args.to.now) away (λ q. refl)
