use Rattle.std.proofs.Common.{refl}
use Rattle.home_index.proofs.key.place_of.Goals as goal

pub returns-in-Some : goal.returns-in-Some
returns-in-Some c = rw (c.in-Named.is, c.named_place.ensures, ← c.as_str.ensures, ← c.get_index_of.ensures.index, c.in-Some.is) refl

pub returns-in-None : goal.returns-in-None
returns-in-None c = rw (c.in-Named.is, ← c.as_str.ensures, ← c.get_index_of.ensures.index, c.in-None.is) refl
