use Rattle.session_reading.proofs.KeysAscend.{plain_ascends}
use Rattle.session_reading.proofs.TidyRead.{tidy_read}
use Rattle.session_reading.proofs.laws.keys_of_a_text_ascend.Goals as goal

pub returns : goal.returns
returns c = record { tidy = tidy_read; ascend = plain_ascends }
