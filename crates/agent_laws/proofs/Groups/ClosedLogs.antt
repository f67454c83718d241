-- The logs of sessions and of plays are closed, entry by entry.
use Rattle.std.proofs.Common.{ℕ, ◌+◌, ◌<◌, ◌^◌, List, [], ◌∷◌, ◌++◌, length, Bool, true, false, if◌then◌else◌, arith}
use Rattle.std.specs.Prelude.{nat_le}
use Rattle.tree_log.specs.declared.entry.Entry.{Entry}
use Rattle.tree_log.specs.Log.{prefix}
use Rattle.tree_log.specs.Tree.{tree_of}
use Rattle.tree_log.specs.Admits.{AreAdmitted}
use Rattle.agent_terms.specs.declared.session.Session.{Session}
use Rattle.single_agent.specs.Session.{starts_of, started, start_entry}
use Rattle.coordinator_rules.specs.Decision.{Rules, rules_of, exchange}
use Rattle.single_agent.specs.LegalLog.{lost_entry, IsLegalLog, Started, Exchanged, Gave_up}
use Rattle.single_agent.specs.Turns.{Turned, log_of, ArePlayed}
use Rattle.single_agent.proofs.Played.{legal_log}
use Rattle.agent_laws.specs.Belonging.{IsClosed}
use Rattle.agent_laws.proofs.Logs.Admitted.{start_fits, started_length, exchange_admitted, longer, legal_admitted}
use Rattle.agent_laws.proofs.Groups.Closed.{AllOpenIn, closed_at_start, entries_closed, exchange_opens}

-- the tree is closed after each of the entries
abbrev AllClosed : List Entry → Type 0
AllClosed [] = IsClosed (tree_of [])
AllClosed (e ∷ older) = IsClosed (tree_of (e ∷ older)) × AllClosed older

closed_now : (log : List Entry) → AllClosed log → IsClosed (tree_of log)
closed_now [] closed = closed
closed_now (e ∷ older) closed = closed.0

all_closed : (log es : List Entry) → AreAdmitted (es ++ log) → AllOpenIn (tree_of log) es → AllClosed log → AllClosed (es ++ log)
all_closed log [] all k closed = closed
all_closed log (e ∷ es) all k closed = (entries_closed log (e ∷ es) all k (closed_now log closed), all_closed log es all.1 k.1 closed)

prefix_closed : (k : ℕ) (log : List Entry) → AllClosed log → IsClosed (tree_of (prefix k log))
unfolding prefix
prefix_closed k [] closed = closed
prefix_closed k (e ∷ older) closed = either (nat_le k (length older)) (prefix_closed k older closed.1)
  where
    either : (b : Bool) → IsClosed (tree_of (prefix k older)) → IsClosed (tree_of (if b then prefix k older else e ∷ older))
    either true before = before
    either false before = closed.0

-- THE START WINDOWS

-- a start window has no opener
started_closed : (rules : Rules) (log : List Entry) (urls : List (List ℕ)) → length log + length urls < 2 ^ 30 → AreAdmitted log → AllClosed log → AllClosed (started rules log urls)
started_closed rules log [] short all closed = closed
started_closed rules log (url ∷ urls) short all closed =
    let e : Entry = start_entry rules (tree_of log) url in
    let fit = start_fits rules log url (omega arith) in
    started_closed rules (e ∷ log) urls (omega arith) (fit.1, all) (all_closed log (e ∷ []) (fit.1, all) (tt, tt) closed)

all_closed_starts : (s : Session) → length (starts_of s) < 2 ^ 30 → AllClosed (starts_of s)
unfolding starts_of
all_closed_starts s short = started_closed (rules_of s) [] s.start (let e = started_length (rules_of s) [] s.start in omega arith) tt closed_at_start

-- the log of a session before its first turn is closed
pub closed_starts : (s : Session) → length (starts_of s) < 2 ^ 30 → IsClosed (tree_of (starts_of s))
closed_starts s short = closed_now (starts_of s) (all_closed_starts s short)

-- LEGAL LOGS

legal_closed : (s : Session) (log : List Entry) → IsLegalLog s log → length log < 2 ^ 30 → AllClosed log
legal_closed s log Started short = all_closed_starts s short
legal_closed s log (Exchanged older r q legal there) short =
    let es : List Entry = (exchange (rules_of s) older r q).entries in
    let before : length older < 2 ^ 30 = omega (arith, longer es older) in
    let all : AreAdmitted older = legal_admitted s older legal before in
    let closed : AllClosed older = legal_closed s older legal before in
    all_closed older es (exchange_admitted (rules_of s) older r q all before) (exchange_opens (rules_of s) older r q all before (closed_now older closed)) closed
legal_closed s log (Gave_up older r legal there) short =
    let before : length older < 2 ^ 30 = omega arith in
    all_closed older (lost_entry r ∷ []) (legal_admitted s (lost_entry r ∷ older) (Gave_up older r legal there) short) (tt, tt) (legal_closed s older legal before)

-- a legal log is closed
pub closed_legal : (s : Session) (log : List Entry) → IsLegalLog s log → length log < 2 ^ 30 → IsClosed (tree_of log)
closed_legal s log legal short = closed_now log (legal_closed s log legal short)

-- and was at each of its lengths
pub closed_before_legal : (s : Session) (log : List Entry) (k : ℕ) → IsLegalLog s log → length log < 2 ^ 30 → IsClosed (tree_of (prefix k log))
closed_before_legal s log k legal short = prefix_closed k log (legal_closed s log legal short)

-- the log of a play is closed, and was at each of its lengths
pub closed_played : (s : Session) (turns : List Turned) → ArePlayed s turns → length (log_of s turns) < 2 ^ 30 → IsClosed (tree_of (log_of s turns))
closed_played s turns played short = closed_legal s (log_of s turns) (legal_log s turns played) short

pub closed_before : (s : Session) (turns : List Turned) (k : ℕ) → ArePlayed s turns → length (log_of s turns) < 2 ^ 30 → IsClosed (tree_of (prefix k (log_of s turns)))
closed_before s turns k played short = closed_before_legal s (log_of s turns) k (legal_log s turns played) short
