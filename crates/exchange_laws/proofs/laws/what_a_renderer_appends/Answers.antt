-- Entries of a renderer are its own.
use Rattle.exchange_laws.proofs.Owned.{all_own}
use Rattle.exchange_laws.proofs.laws.what_a_renderer_appends.Goals as goal

pub returns : goal.returns
returns c = all_own
