use Rattle.std.proofs.Common.{arith}
use Rattle.std.proofs.lemmas.Map.Text.{text_keys}
use Rattle.indexed_view.proofs.names.make_room_in_list.Goals as goal

pub returns-clause-same : goal.returns-clause-same
returns-clause-same c = λ q. grind (arith, text_keys, c.in_ok-note_name.ensures.same q)
