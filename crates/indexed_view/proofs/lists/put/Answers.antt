use Rattle.std.proofs.Common.{◌∙◌, subst, Ok, Err}
use Rattle.std.specs.List.Sorted.{IsBinarySearchResult}
use Rattle.std.specs.Ordering.{nat_cmp}
use Rattle.indexed_view.proofs.Ascending.{stays, put_in}
use Rattle.indexed_view.proofs.lists.put.Goals as goal

pub returns-in-Ok : goal.returns-in-Ok
returns-in-Ok c = stays c.args.list.now.items c.args.nav c.in-Ok.field-0 c.requires.ascending (subst (λ ns. IsBinarySearchResult (λ m. nat_cmp m c.args.nav) ns (Ok c.in-Ok.field-0)) c.as_slice.ensures.value c.in-Ok.ensures.position)

pub returns-in-Ok-insert : goal.returns-in-Ok-insert
returns-in-Ok-insert c = c.in-Ok-insert.ensures.items ∙ put_in c.args.list.now.items c.args.nav c.in-Err.place c.requires.ascending (subst (λ ns. IsBinarySearchResult (λ m. nat_cmp m c.args.nav) ns (Err c.in-Err.place)) c.as_slice.ensures.value c.in-Err.ensures.position)
