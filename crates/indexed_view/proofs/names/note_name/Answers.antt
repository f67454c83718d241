use Rattle.std.proofs.Common.{arith}
use Rattle.std.proofs.lemmas.Map.Text.{text_keys}
use Rattle.indexed_view.proofs.names.note_name.Goals as goal

pub returns-clause-same : goal.returns-clause-same
returns-clause-same c = λ q. grind (arith, text_keys)
