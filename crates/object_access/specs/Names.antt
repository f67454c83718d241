-- The plain words that these definitions match on, in one place: other files here import these names by one line.
pub use Rattle.origin_core.specs.declared.origin.Origin.{Origin}
pub use Rattle.origin_core.specs.declared.page.UrlError.{UrlError}
pub use Rattle.window_props.specs.declared.key.Key.{Key}
pub use Rattle.window_props.specs.declared.value.Value.{Value}
pub use Rattle.window_props.specs.declared.value.Kind.{Kind}
pub use Rattle.window_props.specs.declared.descriptor.Change.{Change}
pub use Rattle.window_props.specs.declared.platform.Object.{Object}
pub use Rattle.window_props.specs.declared.platform.Platform.{Platform}
pub use Rattle.tree_log.specs.declared.entry.Entry.{Entry}
pub use Rattle.tree_log.specs.declared.entry.Target.{Target}
pub use Rattle.tree_log.specs.declared.entry.What.{What}
pub use Rattle.tree_log.specs.declared.entry.What.TheVariants.{Post, Fire}
pub use Rattle.agent_terms.specs.declared.step.Step.{Step}
pub use Rattle.agent_terms.specs.declared.act.Answer.{Answer}
pub use Rattle.agent_terms.specs.declared.act.Performed.{Performed}
pub use Rattle.agent_terms.specs.declared.outcome.Rule.{Rule}
pub use Rattle.agent_terms.specs.declared.outcome.Rule.TheVariants.{S1, S2, S3, S4, S5, S6}
pub use Rattle.agent_terms.specs.declared.outcome.Outcome.{Outcome}
pub use Rattle.agent_terms.specs.declared.outcome.Ask.{Ask}
pub use Rattle.agent_terms.specs.declared.request.Request.{Request}
