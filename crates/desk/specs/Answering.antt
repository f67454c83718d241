-- What is decided on bytes, before it joins the log.
use Rattle.std.specs.Prelude.{◌≡◌, ◌≤◌, ℕ, length, List, [], ◌∷◌, ◌++◌, Option}
use Rattle.coordinator_rules.specs.Decision.{Decision}
use Rattle.link_wire.specs.Replies.{reply_frame}
use Rattle.request_decisions.specs.Made.{decision_of}
use Rattle.tree_log.specs.declared.entry.Entry.{Entry}
use Rattle.tree_log.specs.declared.entry.What.TheVariants.{Opener}
use Rattle.desk.specs.declared.answering.Answered.{Answered}
use Rattle.desk.specs.Books.{MayJoin}
use Rattle.desk.specs.Serving.{reply_to, told_after}

-- of two entries, newest first, the newer one sets an opener
abbrev pub HasOpenerLast : List Entry → Type 0
HasOpenerLast (newer ∷ first ∷ []) = (nav : ℕ) × (to : Option ℕ) × (newer.what ≡ Opener nav to)
HasOpenerLast es = Unit {0}

-- the decision, whose entries may join the log; the reply to renderer r, and how much it tells
pub record Answers (r : ℕ) (log : List Entry) (told : ℕ) (d : Decision) (a : Answered) : Type 0 where
  pub decided : decision_of a.decided ≡ d
  pub joins : MayJoin d.entries log
  pub upto : a.upto ≡ told_after r log told d
  pub within : told_after r log told d ≤ length (d.entries ++ log)
  pub frame : a.frame.items ≡ reply_frame (reply_to r log told d)
