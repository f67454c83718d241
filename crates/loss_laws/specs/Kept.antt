-- The acts of a record that weren't lost. Renderers, and their losses, are this project's own.
use Rattle.std.specs.Prelude.{List, filter, not}
use Rattle.single_agent.specs.Names.{Act}
use Rattle.single_agent.specs.Lengths.{is_lost}

-- the acts whose exchange with the coordinator didn't fail, or that made none
abbrev pub kept_acts : List Act → List Act
kept_acts acts = filter (λ (a : Act). not (is_lost a)) acts
