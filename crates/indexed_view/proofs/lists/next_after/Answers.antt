use Rattle.std.proofs.Common.{◌∙◌, ◌≡◌, ◌+◌, rules}
use Rattle.std.specs.Prelude.{slice_get}
use Rattle.std.proofs.lemmas.Option.{gets}
use Rattle.indexed_view.proofs.Ascending.{next_found, next_missing}
use Rattle.indexed_view.proofs.lists.next_after.Goals as goal

pub returns-in-Ok : goal.returns-in-Ok
returns-in-Ok c = let is : c.copied.result ≡ slice_get c.args.list.now (c.in-Ok.place + 1) = search (rules, gets) in is ∙ next_found c.args.list.now c.args.nav c.in-Ok.place c.requires.ascending c.in-Ok.ensures.position

pub returns-in-Err : goal.returns-in-Err
returns-in-Err c = next_missing c.args.list.now c.args.nav c.in-Err.field-0 c.requires.ascending c.in-Err.ensures.position
