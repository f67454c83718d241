use Rattle.session_reading.proofs.SizeLevels.{capped-List, capped-Record}
use Rattle.session_reading.proofs.limits.+sizes.Goals as goal

pub size_capped-returns-in-List : goal.size_capped-returns-in-List
size_capped-returns-in-List t c = let whole = capped-List c.in-List.items in cc

pub size_capped-returns-in-Record : goal.size_capped-returns-in-Record
size_capped-returns-in-Record t c = let whole = capped-Record c.in-Record.members in cc
