-- What telling one more entry comes to.
use Rattle.std.specs.Prelude.{◌≡◌, [], ◌∷◌, ◌++◌, Bool, true, false}
use Rattle.std.specs.Option.{option_copied}
use Rattle.tree_log.specs.declared.entry.Entry.{Entry}
use Rattle.frame_grammar.specs.Cut.{ReplyParts, has_room}
use Rattle.link_wire.specs.Shown.{entry_with}
use Rattle.reply_writing.specs.declared.news.Shown.{Shown}

-- the entry that is told
abbrev pub shown : Shown → Entry
shown s = entry_with (option_copied s.url) s.entry.now

-- the news are one longer, or the reply is cut
abbrev pub after_telling : Entry → Bool → ReplyParts → ReplyParts
after_telling e true r = record { outcome = r.outcome; from = r.from; more = r.more; news = r.news ++ e ∷ [] }
after_telling e false r = record { outcome = r.outcome; from = r.from; more = true; news = r.news }

-- the entry was told where the reply has room for it, and else the reply is cut
pub record IsTold (e : Entry) (told : Bool) (old new : ReplyParts) : Type 0 where
  pub room : told ≡ has_room old.outcome old.from (old.news ++ e ∷ [])
  pub after : new ≡ after_telling e told old
