-- An entry is in range where its parts are.
use Rattle.std.proofs.Common.{◌<◌, ◌^◌, Some, None, IsTrue, refl, arith}
use Rattle.tree_log.specs.declared.entry.Entry.{Entry}
use Rattle.tree_log.specs.declared.entry.What.{What}
use Rattle.tree_log.specs.declared.entry.What.TheVariants as whats
use Rattle.link_fields.specs.Field.{Field}
use Rattle.link_fields.specs.Basic.{u16, u32, optional}
use Rattle.frame_grammar.specs.Entries.{what_tag, is_what_tag, what_row, entry}

-- what happened is in range
abbrev pub WhatFits : What → Type 0
WhatFits w = (what_row (what_tag w)).Fits w

pub record HasFitParts (e : Entry) : Type 0 where
  pub by : (optional u16).Fits e.by
  pub actor : (optional u32).Fits e.actor
  pub what : WhatFits e.what

tag_fits : (w : What) → (what_tag w < 2 ^ 8) × IsTrue (is_what_tag (what_tag w))
tag_fits (whats.Open nav doc group home o name opener fl navigator l) = (omega arith, refl)
tag_fits (whats.Frame nav doc home o name fl l) = (omega arith, refl)
tag_fits (whats.Drop nav) = (omega arith, refl)
tag_fits (whats.Name nav name) = (omega arith, refl)
tag_fits (whats.Begin nav l) = (omega arith, refl)
tag_fits (whats.Commit nav doc begin) = (omega arith, refl)
tag_fits (whats.Fragment nav doc u) = (omega arith, refl)
tag_fits (whats.Opener nav to) = (omega arith, refl)
tag_fits (whats.Post to from o t body) = (omega arith, refl)
tag_fits (whats.Fire doc post) = (omega arith, refl)
tag_fits (whats.Lapse doc post c) = (omega arith, refl)
tag_fits (whats.Closing nav) = (omega arith, refl)
tag_fits (whats.Gone nav) = (omega arith, refl)
tag_fits (whats.Lost renderer) = (omega arith, refl)
tag_fits whats.Sync = (omega arith, refl)
tag_fits whats.Hidden = (omega arith, refl)
tag_fits (whats.Domain doc domain) = (omega arith, refl)

pub fits_of : (e : Entry) → HasFitParts e → entry.Fits e
unfolding entry
fits_of e h = (tag_fits e.what, ((h.by, (h.actor, h.what)), refl))

pub parts_fit : (e : Entry) → entry.Fits e → HasFitParts e
unfolding entry
parts_fit e h = record { by = h.1.0.0; actor = h.1.0.1.0; what = h.1.0.1.1 }

pub some_fits : {A : Type 0} (f : Field A) (a : A) → f.Fits a → (optional f).Fits (Some a)
some_fits f a h = ((omega arith, refl), h)

pub none_fits : {A : Type 0} (f : Field A) → (optional f).Fits None
none_fits f = ((omega arith, refl), refl)

pub if_some : {A : Type 0} (f : Field A) (a : A) → (optional f).Fits (Some a) → f.Fits a
if_some f a h = h.1
