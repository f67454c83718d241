-- The plain words that these definitions match on, in one place: other files here import these names by one line.
pub use Rattle.window_props.specs.declared.value.Value.{Value}
pub use Rattle.window_props.specs.declared.platform.Object.{Object}
pub use Rattle.tree_log.specs.declared.entry.Entry.{Entry}
pub use Rattle.tree_log.specs.declared.entry.Load.{Load}
pub use Rattle.tree_log.specs.declared.entry.What.{What}
pub use Rattle.tree_log.specs.declared.entry.What.TheVariants.{Open, Commit, Fire, Lapse, Gone, Lost}
pub use Rattle.agent_terms.specs.declared.session.Session.{Session}
pub use Rattle.agent_terms.specs.declared.session.Lose.{Lose}
pub use Rattle.agent_terms.specs.declared.step.Step.{Step}
pub use Rattle.agent_terms.specs.declared.act.Act.{Act}
pub use Rattle.agent_terms.specs.declared.act.Answer.{Answer}
pub use Rattle.agent_terms.specs.declared.act.Performed.{Performed}
pub use Rattle.agent_terms.specs.declared.act.Point.{Point}
pub use Rattle.agent_terms.specs.declared.act.Point.TheVariants.{Script, Handler}
pub use Rattle.agent_terms.specs.declared.act.Move.{Move}
pub use Rattle.agent_terms.specs.declared.act.Move.TheVariants.{Answers, Asks, Takes, Stays}
pub use Rattle.agent_terms.specs.declared.outcome.Rule.{Rule}
pub use Rattle.agent_terms.specs.declared.outcome.Rule.TheVariants.{S1, S2, S3, S4, S5, S6, S7, S8, S9, S10, S11}
pub use Rattle.agent_terms.specs.declared.request.Request.{Request}
pub use Rattle.agent_terms.specs.declared.request.ReplyOutcome.{ReplyOutcome}
