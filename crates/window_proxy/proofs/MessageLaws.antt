-- What a message comes to, by the data that is taken of its value.
use Rattle.std.proofs.Common.{◌≡◌, ℕ, Some, None}
use Rattle.plain_data.specs.declared.data.Data.{Data}
use Rattle.window_props.specs.declared.value.Value.{Value}
use Rattle.window_props.specs.declared.value.Value.TheVariants as value
use Rattle.tree_log.specs.declared.entry.Target.{Target}
use Rattle.agent_terms.specs.declared.outcome.Outcome.TheVariants as outcome
use Rattle.agent_terms.specs.declared.outcome.Ask.TheVariants as ask
use Rattle.object_access.specs.Methods.{posted_clone}
use Rattle.web_message.specs.Cloning.{data_of}

pub posted_some : (doc : ℕ) (to : Target) (v : Value) (d : Data) → data_of v ≡ Some d → posted_clone doc to v ≡ outcome.Ask (ask.Post doc to d)
posted_some doc to (value.Plain e) d h = cc
posted_some doc to _ d h = cc

pub posted_none : (doc : ℕ) (to : Target) (v : Value) → data_of v ≡ None → posted_clone doc to v ≡ outcome.DataClone
posted_none doc to (value.Plain d) h = cc
posted_none doc to (value.Window n) h = cc
posted_none doc to (value.Location n) h = cc
posted_none doc to (value.Function m o) h = cc
posted_none doc to (value.Prototype k) h = cc
