use Rattle.std.proofs.Common.{◌∙◌, sym, refl, arith}
use Rattle.std.proofs.lemmas.Map.Text.{text_keys}
use Rattle.indexed_view.proofs.Naming.{none_is, one_is}
use Rattle.indexed_view.proofs.names.put_name.Goals as goal

pub returns-then-is_empty : goal.returns-then-is_empty
returns-then-is_empty c = λ q. rw (none_is c.args.name.now q (sym c.is_empty.ensures ∙ c.if-is_empty.true)) refl

pub returns-in-Some : goal.returns-in-Some
returns-in-Some c = λ q. grind (arith, text_keys, one_is c.args.name.now q (sym c.is_empty.ensures ∙ c.if-is_empty.false))
