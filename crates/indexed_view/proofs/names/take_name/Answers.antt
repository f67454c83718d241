use Rattle.std.proofs.Common.{◌∙◌, sym, refl, arith}
use Rattle.std.proofs.lemmas.Map.Text.{text_keys}
use Rattle.indexed_view.proofs.Naming.{none_is, one_is}
use Rattle.indexed_view.proofs.names.take_name.Goals as goal

pub returns-then-is_empty-clause-names : goal.returns-then-is_empty-clause-names
returns-then-is_empty-clause-names c = λ q. rw (none_is c.args.name.now q (sym c.is_empty.ensures ∙ c.if-is_empty.true)) refl

pub returns-in-Some-clause-names : goal.returns-in-Some-clause-names
returns-in-Some-clause-names c = λ q. grind (arith, text_keys, one_is c.args.name.now q (sym c.is_empty.ensures ∙ c.if-is_empty.false))

pub returns-in-Some-clause-room : goal.returns-in-Some-clause-room
returns-in-Some-clause-room c = λ q h. (grind (arith, text_keys, h.0), λ x e. grind (arith, text_keys, h.1, e, c.take_out.ensures.room))
