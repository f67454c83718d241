-- The plain words that these definitions match on, in one place: other files here import these names by one line.
pub use Rattle.origin_core.specs.declared.origin.Origin.{Origin}
pub use Rattle.tree_log.specs.declared.entry.Entry.{Entry}
pub use Rattle.tree_log.specs.declared.entry.Load.{Load}
pub use Rattle.tree_log.specs.declared.entry.Target.{Target}
pub use Rattle.tree_log.specs.declared.entry.What.{What}
pub use Rattle.tree_log.specs.declared.entry.What.TheVariants.{Open, Frame, Begin, Commit, Post, Fire, Lapse, Closing, Gone}
pub use Rattle.agent_terms.specs.declared.session.Session.{Session}
pub use Rattle.agent_terms.specs.declared.request.Request.{Request}
pub use Rattle.agent_terms.specs.declared.request.ReplyOutcome.{ReplyOutcome}
