-- How a renderer is told an entry.
use Rattle.std.specs.Prelude.{Some}
use Rattle.tree_log.specs.declared.entry.Entry.{Entry}
use Rattle.tree_log.specs.Blanking.{hidden}
use Rattle.link_wire.specs.Shown.{entry_with}
use Rattle.told_replies.specs.declared.telling.Telling.{Telling}
use Rattle.told_replies.specs.declared.telling.Telling.TheVariants.{Whole, WithUrl, Nothing}

-- the entry as it is told
abbrev pub told_as : Telling → Entry → Entry
told_as Whole e = e
told_as (WithUrl url) e = entry_with (Some url) e
told_as Nothing e = hidden
