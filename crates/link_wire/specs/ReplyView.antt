-- What contracts see of a reply.
use Rattle.frame_grammar.specs.Cut.{ReplyParts}
use Rattle.link_wire.specs.declared.reply.Reply.TheInside.{Inside}

abbrev pub reply_view : Inside → ReplyParts
reply_view r = record { outcome = r.outcome; from = r.from; more = r.more; news = r.news.items }
