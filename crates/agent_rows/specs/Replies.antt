-- How many bytes entries take in a reply, and how much of a long log one reply tells: a window of a.test, whose document then
-- makes thousands of requests that change nothing.
use Rattle.std.specs.Prelude.{◌≡◌, refl, ℕ, zero, suc, List, [], ◌∷◌, length, true, false, codes}
use Rattle.tree_log.specs.declared.entry.Entry.{Entry}
use Rattle.tree_log.specs.declared.entry.What.TheVariants as what
use Rattle.agent_terms.specs.declared.request.Request.{Request}
use Rattle.agent_terms.specs.declared.request.Request.TheVariants as ask
use Rattle.agent_terms.specs.declared.session.Session.{Session}
use Rattle.link_fields.specs.Basic.{number_bytes}
use Rattle.frame_grammar.specs.Entries.{entry}
use Rattle.frame_grammar.specs.Cut.{ReplyParts, reply_body}
use Rattle.coordinator_rules.specs.NextTask.{task_entry}
use Rattle.coordinator_rules.specs.Decision.{by, rules_of, exchange}
use Rattle.twin_laws.specs.Worlds.{reply_of}
use Rattle.agent_rows.specs.Logs.{a_test, load, start, started}

-- SIZES

abbrev pub sync : Entry
sync = by 0 1 what.Sync

abbrev pub commit : Entry
commit = task_entry 0 (what.Commit 0 1 0)

-- the start, which shows everyone the root of the origin alone
abbrev pub first : Entry
first = start 0 0 0 (load 1 0 a_test (codes "https://a.test/"))

-- a tag, the renderer and the document
pub sync_takes : length (entry.spell sync) ≡ 9
unfolding entry number_bytes
sync_takes = refl

-- no document, but three numbers
pub commit_takes : length (entry.spell commit) ≡ 17
unfolding entry number_bytes
commit_takes = refl

pub first_takes : length (entry.spell first) ≡ 64
unfolding entry number_bytes
first_takes = refl

-- A LONG LOG

-- d1 syncs so many times
unfoldable pub synced : ℕ → List Entry
synced zero = started
synced (suc n) = sync ∷ synced n

-- two renderers, and no public suffixes
abbrev pub pair : Session
pair = record { renderers = 2; suffixes = []; start = codes "https://a.test/" ∷ []; order = []; lose = []; pages = [] }

-- the reply to a request of renderer 1, which was told so many entries
unfoldable pub replied : Request → ℕ → ℕ → ReplyParts
replied q told n = reply_of 1 (record { log = synced n; heard = told }) (exchange (rules_of pair) (synced n) 1 q)

-- after 8,000 syncs the reply to Next tells 7,273 of the 8,002 entries, and that to More the rest
pub record IsToldInTwo : Type 0 where
  pub first_count : length (replied ask.Next 0 8000).news ≡ 7273
  pub first_size : length (reply_body (replied ask.Next 0 8000)) ≡ 65529
  pub more_is_to_come : (replied ask.Next 0 8000).more ≡ true
  pub rest_count : length (replied ask.More 7273 8000).news ≡ 729
  pub rest_size : length (reply_body (replied ask.More 7273 8000)) ≡ 6570
  pub no_more : (replied ask.More 7273 8000).more ≡ false
