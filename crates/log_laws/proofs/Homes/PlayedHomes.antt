-- In a played log of a session whose pages have http or https URLs, documents that are open to one another have one home.
use Rattle.std.proofs.Common.{◌≡◌, ℕ, ◌<◌, ◌^◌, List, length, true}
use Rattle.tree_log.specs.Tree.{tree_of, home_of}
use Rattle.tree_log.specs.Blanking.{is_open_to}
use Rattle.agent_terms.specs.declared.session.Session.{Session}
use Rattle.single_agent.specs.Shown.{shown_to}
use Rattle.single_agent.specs.Turns.{Turned, log_of, ArePlayed}
use Rattle.single_agent.proofs.Played.{legal_log}
use Rattle.log_laws.specs.Homes.{HasWebPages}
use Rattle.coordinator_rules.specs.Told.{told_log}
use Rattle.log_laws.proofs.Homes.HomeLaw.{open_documents}
use Rattle.log_laws.proofs.Homes.Told.{shown_of_told}
use Rattle.log_laws.proofs.Plays.Played.{played_actors}

pub played_homes : (s : Session) (turns : List Turned) → HasWebPages s → ArePlayed s turns → length (log_of s turns) < 2 ^ 30 → (x y : ℕ) → x < (tree_of (log_of s turns)).docs → y < (tree_of (log_of s turns)).docs
    → is_open_to (tree_of (log_of s turns)) x y ≡ true → home_of (tree_of (log_of s turns)) x ≡ home_of (tree_of (log_of s turns)) y
played_homes s turns web played short = open_documents s (log_of s turns) (legal_log s turns played) short (played_actors s turns web played short)

pub played_seen : (s : Session) (turns : List Turned) → HasWebPages s → ArePlayed s turns → length (log_of s turns) < 2 ^ 30 → (asker : ℕ) → asker < (tree_of (log_of s turns)).docs
    → shown_to asker (told_log (home_of (tree_of (log_of s turns)) asker) (log_of s turns)) ≡ shown_to asker (log_of s turns)
played_seen s turns web played short = shown_of_told s (log_of s turns) (legal_log s turns played) short (played_actors s turns web played short)
