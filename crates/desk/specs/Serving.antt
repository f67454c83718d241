-- What the coordinator does on the bytes that a renderer sent. That renderers ask it, and how, is this project's own.
use Rattle.std.specs.Prelude.{ℕ, ◌+◌, ◌≡◌, ◌&&◌, nat_lt, List, [], ◌∷◌, ◌++◌, length, Bool, true, false, Ok, Err, if◌then◌else◌}
use Rattle.agent_terms.specs.declared.request.Request.{Request}
use Rattle.agent_terms.specs.declared.request.Request.TheVariants as ask
use Rattle.agent_terms.specs.declared.request.ReplyOutcome.TheVariants as outcomes
use Rattle.coordinator_rules.specs.Decision.{Rules, Decision, asker_of, exchange, home_if_active}
use Rattle.coordinator_rules.specs.Told.{news_from}
use Rattle.frame_grammar.specs.Cut.{ReplyParts, reply_telling}
use Rattle.link_wire.specs.Bad.{Decoded}
use Rattle.link_wire.specs.Replies.{reply_frame}
use Rattle.link_wire.specs.Requests.{request_read}
use Rattle.single_agent.specs.Turns.{is_full}
use Rattle.tree_log.specs.Tree.{Tree, tree_of, is, is_active}
use Rattle.tree_log.specs.declared.entry.Entry.{Entry}
use Rattle.desk.specs.declared.item.Item.{Item}
use Rattle.desk.specs.declared.item.Item.TheVariants.{Told}
use Rattle.desk.specs.History.{log_of, told_of, entered}

-- what contracts see of a coordinator: the rules by which it decides, its history, and whether it ran out of memory
pub record Coordinator : Type 0 where
  pub rules : Rules
  pub history : List Item
  pub spent : Bool

-- DECISIONS

-- whether a request needs room in the log: that for the next task does, that for the rest of a reply doesn't, and else that of an
-- active document of the renderer
abbrev pub needs_room : Tree → ℕ → Request → Bool
needs_room t r ask.Next = true
needs_room t r ask.More = false
needs_room t r request = is (home_if_active t (asker_of request)) r && is_active t (asker_of request)

abbrev pub full : List Entry → Decision
full log = record { entries = []; outcome = outcomes.Full (length log) }

-- what is decided on a request: what the exchange gives, where the log has the room that it needs
unfoldable pub decided : Rules → List Entry → ℕ → Request → Decision
decided rules log r request = if is_full log && needs_room (tree_of log) r request then full log else exchange rules log r request

abbrev pub decided_on : Rules → List Entry → ℕ → Decoded Request → Decision
decided_on rules log r (Ok request) = decided rules log r request
decided_on rules log r (Err bad) = record { entries = []; outcome = outcomes.BadFrame bad.place bad.why }

-- and on the bytes that renderer r sent
unfoldable pub answered : Rules → List Entry → ℕ → List ℕ → Decision
answered rules log r bytes = decided_on rules log r (request_read bytes)

-- REPLIES

-- the reply to a renderer that was told so much of the log before: what it wasn't told yet, as far as one reply has room
abbrev pub reply_to : ℕ → List Entry → ℕ → Decision → ReplyParts
reply_to r log told d = reply_telling d.outcome told (news_from r told (d.entries ++ log))

-- how much it was told then
abbrev pub told_after : ℕ → List Entry → ℕ → Decision → ℕ
told_after r log told d = told + length (reply_to r log told d).news

-- a telling stands in the history where it tells more than was told before
abbrev pub with_telling : ℕ → ℕ → ℕ → List Item → List Item
with_telling r before now items = if nat_lt before now then Told r now ∷ items else items

-- the history after a decision on bytes of renderer r
abbrev pub history_after : ℕ → List Item → Decision → List Item
history_after r items d =
    with_telling r (told_of items r) (told_after r (log_of items) (told_of items r) d) (entered d.entries ++ items)

-- CALLS

-- the coordinator is that of a history, and serves
pub record IsAt (items : List Item) (old new : Coordinator) : Type 0 where
  pub rules : new.rules ≡ old.rules
  pub history : new.history ≡ items
  pub serves : new.spent ≡ false

-- it answered bytes of renderer r
pub record IsServed (r : ℕ) (bytes : List ℕ) (old : Coordinator) (reply : List ℕ) (new : Coordinator) : Type 0 where
  pub after : IsAt (history_after r old.history (answered old.rules (log_of old.history) r bytes)) old new
  pub answer : reply ≡ reply_frame (reply_to r (log_of old.history) (told_of old.history r) (answered old.rules (log_of old.history) r bytes))

-- it ran out of memory: its log and what it told are as before
pub record GivesUp (old new : Coordinator) : Type 0 where
  pub rules : new.rules ≡ old.rules
  pub history : new.history ≡ old.history
  pub spent : new.spent ≡ true
