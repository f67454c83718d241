-- How a log prints: a line for each entry, the oldest first. The texts are this project's own.
use Rattle.std.specs.Prelude.{ℕ, List, [], ◌∷◌, length, Option, Some, None, codes, decimal}
use Rattle.json.specs.Print.{quoted}
use Rattle.plain_data.specs.DataText.{data_text}
use Rattle.origin_core.specs.Origin.{origin_words}
use Rattle.origin_core.specs.Flags.{◌◊◌, flags_text}
use Rattle.tree_log.specs.declared.entry.Entry.{Entry}
use Rattle.tree_log.specs.declared.entry.Load.{Load}
use Rattle.tree_log.specs.declared.entry.Target.{Target}
use Rattle.tree_log.specs.declared.entry.Cause.{Cause}
use Rattle.tree_log.specs.declared.entry.What.{What}
use Rattle.tree_log.specs.declared.entry.What.TheVariants.{Open, Frame, Drop, Name, Begin, Commit, Fragment, Opener, Post, Fire, Lapse, Closing, Gone, Lost, Sync, Hidden, Domain}

-- a letter and a number, as n1, or - where there is none
abbrev pub numbered : List ℕ → Option ℕ → List ℕ
numbered letter None = codes "-"
numbered letter (Some n) = letter ◊ decimal n

-- where a new navigable loads its first document
abbrev pub load_words : Option Load → List ℕ
load_words None = codes "load=-"
load_words (Some l) =
    codes "load=d" ◊ decimal l.doc ◊ codes " lhome=" ◊ decimal l.home ◊ codes " lorigin=" ◊ origin_words l.origin
    ◊ codes " lurl=" ◊ quoted l.url

-- the load that an existing navigable begins
abbrev pub begin_words : Load → List ℕ
begin_words l =
    codes " d" ◊ decimal l.doc ◊ codes " home=" ◊ decimal l.home ◊ codes " origin=" ◊ origin_words l.origin
    ◊ codes " url=" ◊ quoted l.url

abbrev pub target_words : Target → List ℕ
target_words Target.Any = codes "*"
target_words Target.Never = codes "never"
target_words (Target.Origin origin) = origin_words origin

abbrev pub cause_words : Cause → List ℕ
cause_words Cause.Inactive = codes "inactive"
cause_words Cause.Origin = codes "origin"

-- what happened, and the numbers and the origin that it is about
unfoldable pub front_words : What → List ℕ
front_words (Open nav doc group home origin name opener flags navigator load) =
    codes "open n" ◊ decimal nav ◊ codes " d" ◊ decimal doc ◊ codes " g" ◊ decimal group ◊ codes " home=" ◊ decimal home
    ◊ codes " origin=" ◊ origin_words origin
front_words (Frame nav doc home origin name flags load) =
    codes "frame n" ◊ decimal nav ◊ codes " d" ◊ decimal doc ◊ codes " home=" ◊ decimal home ◊ codes " origin=" ◊ origin_words origin
front_words (Drop nav) = codes "drop n" ◊ decimal nav
front_words (Name nav name) = codes "name n" ◊ decimal nav
front_words (Begin nav load) = codes "begin n" ◊ decimal nav
front_words (Commit nav doc begin) =
    codes "commit n" ◊ decimal nav ◊ codes " d" ◊ decimal doc ◊ codes " begin=" ◊ decimal begin
front_words (Fragment nav doc url) = codes "fragment n" ◊ decimal nav ◊ codes " d" ◊ decimal doc
front_words (Opener nav to) = codes "opener n" ◊ decimal nav ◊ codes " to=" ◊ numbered (codes "n") to
front_words (Post to from origin target body) =
    codes "post to=d" ◊ decimal to ◊ codes " from=n" ◊ decimal from ◊ codes " origin=" ◊ origin_words origin
front_words (Fire doc post) = codes "fire d" ◊ decimal doc ◊ codes " post=" ◊ decimal post
front_words (Lapse doc post cause) =
    codes "lapse d" ◊ decimal doc ◊ codes " post=" ◊ decimal post ◊ codes " cause=" ◊ cause_words cause
front_words (Closing nav) = codes "closing n" ◊ decimal nav
front_words (Gone nav) = codes "gone n" ◊ decimal nav
front_words (Lost renderer) = codes "lost r" ◊ decimal renderer
front_words Sync = codes "sync"
front_words Hidden = codes "hidden"
front_words (Domain doc domain) = codes "domain d" ◊ decimal doc

-- names, URLs, flags, loads, messages and domains
unfoldable pub back_words : What → List ℕ
back_words (Open nav doc group home origin name opener flags navigator load) =
    codes " name=" ◊ quoted name ◊ codes " opener=" ◊ numbered (codes "n") opener ◊ codes " flags=" ◊ flags_text flags
    ◊ codes " navigator=" ◊ numbered (codes "n") navigator ◊ codes " " ◊ load_words load
back_words (Frame nav doc home origin name flags load) =
    codes " name=" ◊ quoted name ◊ codes " flags=" ◊ flags_text flags ◊ codes " " ◊ load_words load
back_words (Name nav name) = codes " " ◊ quoted name
back_words (Begin nav load) = begin_words load
back_words (Fragment nav doc url) = codes " url=" ◊ quoted url
back_words (Post to from origin target body) = codes " target=" ◊ target_words target ◊ codes " data=" ◊ data_text body
back_words (Domain doc domain) = codes " " ◊ quoted domain
back_words _ = []

-- what happened, after the three columns that each line begins with
abbrev pub what_words : What → List ℕ
what_words what = front_words what ◊ back_words what

-- an entry that stands at a place: the place, the renderer, the acting document, and what happened
unfoldable pub entry_words : ℕ → Entry → List ℕ
entry_words place e =
    decimal place ◊ codes " " ◊ numbered (codes "r") e.by ◊ codes " " ◊ numbered (codes "d") e.actor ◊ codes " "
    ◊ what_words e.what

-- the line of an entry
unfoldable pub entry_line : ℕ → Entry → List ℕ
entry_line place e = entry_words place e ◊ codes "\n"

-- the lines of a log
abbrev pub log_lines : List Entry → List ℕ
log_lines [] = []
log_lines (e ∷ older) = log_lines older ◊ entry_line (length older) e

-- the text of a log: how many entries it has, and their lines
unfoldable pub log_words : List Entry → List ℕ
log_words log = codes "log " ◊ decimal (length log) ◊ codes "\n" ◊ log_lines log
