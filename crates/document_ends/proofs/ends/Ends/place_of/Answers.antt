use Rattle.std.proofs.Common.{◌≡◌, ◌<◌, ℕ, true, false, sym, subst, ap, ◌∙◌, Option}
use Rattle.std.specs.Prelude.{unwrap_or}
use Rattle.tree_log.specs.Tree.{Tree, is_active}
use Rattle.agent_laws.proofs.Groups.Well.{admitted_well}
use Rattle.document_ends.proofs.Ending.{ended_at}
use Rattle.document_ends.proofs.ends.Ends.place_of.Goals as goal

pub first_end-requires-clause-there : goal.first_end-requires-clause-there
first_end-requires-clause-there g c =
    subst (λ (t : Tree). c.args.doc < t.docs) (sym c.requires.tree)
    ((admitted_well c.args.log.now.entries c.requires.admitted).shown c.args.doc (subst (λ (t : Tree). (t.doc c.args.doc).been_active ≡ true) c.requires.tree c.requires.been))

pub returns : goal.returns
returns g c =
    let log = c.args.log.now.entries in
    c.unwrap_or.ensures ∙ ap (λ (o : Option ℕ). unwrap_or o 0) c.first_end.ensures
    ∙ ended_at log c.args.doc c.requires.admitted (admitted_well log c.requires.admitted) (subst (λ (t : Tree). (t.doc c.args.doc).been_active ≡ true) c.requires.tree c.requires.been)
    (subst (λ (t : Tree). is_active t c.args.doc ≡ false) c.requires.tree c.requires.inactive)
