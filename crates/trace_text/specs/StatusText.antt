-- The line of a status, which a command prints last.
use Rattle.std.specs.Prelude.{ℕ, List, [], codes, decimal}
use Rattle.origin_core.specs.Flags.{◌◊◌}
use Rattle.trace_text.specs.declared.status.Status.{Status}
use Rattle.trace_text.specs.declared.status.Status.TheVariants.{Done, Usage, Session, Read, Write, LogFull, ActsFull, Memory}

abbrev pub status_number : Status → ℕ
status_number Done = 0
status_number Usage = 1
status_number Session = 2
status_number Read = 3
status_number Write = 4
status_number (LogFull n) = 5
status_number (ActsFull r) = 6
status_number Memory = 7

-- where the output couldn't be written, or there was no memory, there is no line
unfoldable pub status_words : Status → List ℕ
status_words Done = codes "status 0 done\n"
status_words Usage = codes "status 1 usage\n"
status_words Session = codes "status 2 session\n"
status_words Read = codes "status 3 read\n"
status_words Write = []
status_words (LogFull n) = codes "status 5 logfull " ◊ decimal n ◊ codes "\n"
status_words (ActsFull r) = codes "status 6 actsfull r" ◊ decimal r ◊ codes "\n"
status_words Memory = []
