use Rattle.std.proofs.Common.{[], ◌∷◌, ◌++◌, Bool, ap, sym, ◌∙◌}
use Rattle.std.specs.Prelude.{if◌then◌else◌, is_some}
use Rattle.std.specs.Map.{lookup}
use Rattle.home_index.specs.declared.key.Key.{Key}
use Rattle.home_index.proofs.Keys.{key_tests}
use Rattle.indexmap.proofs.CallerLemmas.{insert_entry-new}
use Rattle.home_index.specs.contracts.key.KeyPartialEq.TheImpl.{eq-value}
use Rattle.home_index.proofs.Found.{none_of}
use Rattle.home_index.proofs.key.add.Goals as goal

pub returns-clause-added : goal.returns-clause-added
returns-clause-added c =
    let absent = sym c.contains_key.ensures ∙ c.if-contains_key.false in
    c.in_ok-insert.ensures.entries
    ∙ insert_entry-new eq-value.it c.args.rows.now c.args.key c.args.resident (none_of _ absent)
    ∙ ap (λ (b : Bool). if b then c.args.rows.now.entries else c.args.rows.now.entries ++ (c.args.key, c.args.resident) ∷ []) (sym absent ∙ ap (λ (test : Key → Bool). is_some (lookup test c.args.rows.now.entries)) (key_tests c.args.key))
