-- What is promised of each origin, URL and data in the entries of a log; this project's own. A definition's entry may hold
-- any text there.
use Rattle.std.specs.Prelude.{List, All, IfSome, IsTrue, ⊤}
use Rattle.plain_data.specs.Ascending.{keys_ascend}
use Rattle.origin_core.specs.Origin.{IsOrigin}
use Rattle.origin_core.specs.Page.{IsPageText}
use Rattle.tree_log.specs.Names.{Entry, Load, Target, What, Open, Frame, Begin, Fragment, Post}

-- the URL is that of a page, and the origin is in range
abbrev pub IsLoadInRange : Load → Type 0
IsLoadInRange load = IsPageText load.url × IsOrigin load.origin

abbrev pub IsTargetInRange : Target → Type 0
IsTargetInRange (Target.Origin origin) = IsOrigin origin
IsTargetInRange _ = ⊤

-- the keys of each record in posted data ascend
abbrev pub HasAscendingKeys : What → Type 0
HasAscendingKeys (Post _ _ _ _ body) = IsTrue (keys_ascend body)
HasAscendingKeys _ = ⊤

-- every origin, URL and data of what happened is in range
abbrev pub IsInRange : What → Type 0
IsInRange (Open _ _ _ _ origin _ _ _ _ load) = IsOrigin origin × IfSome load IsLoadInRange
IsInRange (Frame _ _ _ origin _ _ load) = IsOrigin origin × IfSome load IsLoadInRange
IsInRange (Begin _ load) = IsLoadInRange load
IsInRange (Fragment _ _ url) = IsPageText url
IsInRange (Post _ _ origin target body) = IsOrigin origin × IsTargetInRange target × IsTrue (keys_ascend body)
IsInRange _ = ⊤

abbrev pub AreInRange : List Entry → Type 0
AreInRange entries = All (λ e. IsInRange e.what) entries
