-- A record of acts, as contracts see it.
use Rattle.std.specs.Prelude.{ℕ, List}
use Rattle.agent_terms.specs.declared.act.Act.{Act}

pub record RecordValue : Type 0 where
  pub acts : List Act  -- newest first
  pub room : ℕ  -- for how many more acts room was made
