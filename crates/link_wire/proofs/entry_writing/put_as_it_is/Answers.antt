use Rattle.std.proofs.Common.{◌++◌, ◌∙◌, ap}
use Rattle.std.proofs.lemmas.Result.{on_ok_weaker}
use Rattle.frame_grammar.specs.Entries.{entry}
use Rattle.link_wire.proofs.ShownLaws.{as_it_is}
use Rattle.link_wire.proofs.entry_writing.put_as_it_is.Goals as goal

pub returns : goal.returns
returns c = on_ok_weaker c.put_entry.result (λ e. e ∙ ap (λ x. c.args.out.now.items ++ entry.spell x) (as_it_is c.args.entry.now)) c.put_entry.ensures
