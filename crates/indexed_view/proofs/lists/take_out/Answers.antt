use Rattle.std.proofs.Common.{◌∙◌, subst, Ok, Err}
use Rattle.std.specs.List.Sorted.{IsBinarySearchResult}
use Rattle.std.specs.Ordering.{nat_cmp}
use Rattle.indexed_view.proofs.Ascending.{taken_out, none_to_take}
use Rattle.indexed_view.proofs.lists.take_out.Goals as goal

pub returns-in-Ok-clause-items : goal.returns-in-Ok-clause-items
returns-in-Ok-clause-items c =
    c.remove.ensures.items ∙ taken_out c.args.list.now.items c.args.nav c.in-Ok.place c.requires.ascending (subst (λ ns. IsBinarySearchResult (λ m. nat_cmp m c.args.nav) ns (Ok c.in-Ok.place)) c.as_slice.ensures.value c.in-Ok.ensures.position)

pub returns-in-Err-clause-items : goal.returns-in-Err-clause-items
returns-in-Err-clause-items c = none_to_take c.args.list.now.items c.args.nav c.in-Err.field-0 c.requires.ascending (subst (λ ns. IsBinarySearchResult (λ m. nat_cmp m c.args.nav) ns (Err c.in-Err.field-0)) c.as_slice.ensures.value c.in-Err.ensures.position)
