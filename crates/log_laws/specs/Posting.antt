-- To whom a script posts.
use Rattle.std.specs.Prelude.{◌≡◌, ℕ, List}
use Rattle.window_props.specs.declared.value.Value.TheVariants.{Window}
use Rattle.agent_terms.specs.declared.act.Performed.{Performed}
use Rattle.agent_terms.specs.declared.act.Performed.TheVariants.{Ask}
use Rattle.agent_terms.specs.declared.request.Request.TheVariants as request
use Rattle.object_access.specs.StepAnswer.{Sight, held}

-- a register of document d holds a window, and this is the document that is active there
abbrev pub IsActiveWhereHeld : Sight → ℕ → ℕ → Type 0
IsActiveWhereHeld s d to = (name : List ℕ) × (n : ℕ) × (held s d name ≡ Window n) × (to ≡ (s.tree.nav n).active)

-- if a message is asked for, document d posts it to a document that is active in a window which a register of it holds
abbrev pub PostsToHeld : Sight → ℕ → Performed → Type 0
PostsToHeld s d (Ask (request.Post asker to target body)) = (asker ≡ d) × IsActiveWhereHeld s d to
PostsToHeld s d _ = Unit {0}
