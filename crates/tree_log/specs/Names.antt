-- The entries of a log, in one place: other files here import these names by one line.
pub use Rattle.tree_log.specs.declared.entry.Entry.{Entry}
pub use Rattle.tree_log.specs.declared.entry.Load.{Load}
pub use Rattle.tree_log.specs.declared.entry.Target.{Target}
pub use Rattle.tree_log.specs.declared.entry.What.{What}
pub use Rattle.tree_log.specs.declared.entry.What.TheVariants.{Open, Frame, Drop, Name, Begin, Commit, Fragment, Opener, Post, Fire, Lapse, Closing, Gone, Lost, Sync, Hidden, Domain}
