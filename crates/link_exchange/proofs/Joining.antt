-- An entry that frames can spell may join a log; and a document that is nowhere has no renderer's home.
use Rattle.std.proofs.Common.{◌≡◌, ℕ, ◌<◌, ◌≤◌, ◌^◌, List, false, ap, subst, ◌∙◌, arith}
use Rattle.std.specs.Prelude.{◌==◌}
use Rattle.std.proofs.lemmas.Bool.{ne_eqb}
use Rattle.plain_data.specs.declared.data.Data.{Data}
use Rattle.tree_log.specs.declared.entry.Entry.{Entry}
use Rattle.tree_log.specs.declared.entry.What.{What}
use Rattle.tree_log.specs.declared.entry.What.TheVariants.{Post}
use Rattle.tree_log.specs.Admits.{AreAdmitted}
use Rattle.tree_log.specs.Facts.{Birth}
use Rattle.tree_log.specs.Range.{HasAscendingKeys}
use Rattle.tree_log.specs.Tree.{tree_of, home_of}
use Rattle.tree_log.proofs.Unmade.{bounded}
use Rattle.link_fields.specs.Skipping.{data_field}
use Rattle.frame_grammar.specs.Entries.{entry}
use Rattle.exchange_laws.proofs.Fit.Parts.{WhatFits, parts_fit}
use Rattle.exchange_laws.proofs.Posted.{fitting_keys_ascend}

what_ascends : (w : What) → WhatFits w → HasAscendingKeys w
what_ascends (Post to from o target body) h =
    let same : h.0.1.1.1.1 ≡ body = cc in
    fitting_keys_ascend body (subst (λ (x : Data). data_field.Fits x) same h.1.1.1.1.1)
what_ascends _ h = tt

pub entry_ascends : (e : Entry) → entry.Fits e → HasAscendingKeys e.what
entry_ascends e h = what_ascends e.what (parts_fit e h).what

pub unmade_apart : (log : List Entry) (d r : ℕ) → AreAdmitted log → (tree_of log).docs ≤ d → r < 2 ^ 16 → (home_of (tree_of log) d == r) ≡ false
unmade_apart log d r all le lt = ap (λ (b : Birth). b.home == r) ((bounded log all).births d le) ∙ ne_eqb 65536 r (λ e. omega (arith, e))
