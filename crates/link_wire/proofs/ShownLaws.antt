-- Entries with another URL: they keep their kind, and where no URL is given they stay as they are.
use Rattle.std.proofs.Common.{◌≡◌, ℕ, List, Option, Some, None, refl, ap}
use Rattle.tree_log.specs.declared.entry.Entry.{Entry}
use Rattle.tree_log.specs.declared.entry.Load.{Load}
use Rattle.tree_log.specs.declared.entry.What.{What}
use Rattle.tree_log.specs.declared.entry.What.TheVariants as whats
use Rattle.frame_grammar.specs.Entries.{what_tag}
use Rattle.link_wire.specs.Shown.{optional_load_with, what_with, entry_with}

pub same_tag : (other : Option (List ℕ)) (w : What) → what_tag (what_with other w) ≡ what_tag w
same_tag other (whats.Open nav doc group home o name opener fl navigator l) = refl
same_tag other (whats.Frame nav doc home o name fl l) = refl
same_tag other (whats.Drop nav) = refl
same_tag other (whats.Name nav name) = refl
same_tag other (whats.Begin nav l) = refl
same_tag other (whats.Commit nav doc begin) = refl
same_tag other (whats.Fragment nav doc u) = refl
same_tag other (whats.Opener nav to) = refl
same_tag other (whats.Post to from o t body) = refl
same_tag other (whats.Fire doc post) = refl
same_tag other (whats.Lapse doc post c) = refl
same_tag other (whats.Closing nav) = refl
same_tag other (whats.Gone nav) = refl
same_tag other (whats.Lost renderer) = refl
same_tag other whats.Sync = refl
same_tag other whats.Hidden = refl
same_tag other (whats.Domain doc domain) = refl

load_as_it_is : (l : Option Load) → optional_load_with None l ≡ l
load_as_it_is (Some l) = refl
load_as_it_is None = refl

what_as_it_is : (w : What) → what_with None w ≡ w
what_as_it_is (whats.Open nav doc group home o name opener fl navigator l) = ap (λ x. whats.Open nav doc group home o name opener fl navigator x) (load_as_it_is l)
what_as_it_is (whats.Frame nav doc home o name fl l) = ap (λ x. whats.Frame nav doc home o name fl x) (load_as_it_is l)
what_as_it_is (whats.Drop nav) = refl
what_as_it_is (whats.Name nav name) = refl
what_as_it_is (whats.Begin nav l) = refl
what_as_it_is (whats.Commit nav doc begin) = refl
what_as_it_is (whats.Fragment nav doc u) = refl
what_as_it_is (whats.Opener nav to) = refl
what_as_it_is (whats.Post to from o t body) = refl
what_as_it_is (whats.Fire doc post) = refl
what_as_it_is (whats.Lapse doc post c) = refl
what_as_it_is (whats.Closing nav) = refl
what_as_it_is (whats.Gone nav) = refl
what_as_it_is (whats.Lost renderer) = refl
what_as_it_is whats.Sync = refl
what_as_it_is whats.Hidden = refl
what_as_it_is (whats.Domain doc domain) = refl

pub as_it_is : (e : Entry) → entry_with None e ≡ e
as_it_is e = ap (λ w. record { by = e.by; actor = e.actor; what = w }) (what_as_it_is e.what)
