-- What serving a renderer adds to the history names that renderer.
use Rattle.std.proofs.Common.{ℕ, List, [], ◌∷◌, ◌++◌, Bool, true, false, refl, ap, if◌then◌else◌}
use Rattle.std.specs.Prelude.{nat_lt}
use Rattle.std.specs.List.{AllByRecursion}
use Rattle.std.specs.Option.{option_or}
use Rattle.coordinator_rules.specs.Decision.{Rules}
use Rattle.exchange_laws.specs.Own.{IsOwn}
use Rattle.single_agent.specs.LegalLog.{lost_entry}
use Rattle.tree_log.specs.declared.entry.Entry.{Entry}
use Rattle.desk.proofs.Joining.{each_owned}
use Rattle.desk.specs.declared.item.Item.{Item}
use Rattle.desk.specs.declared.item.Item.TheVariants.{Entered, Told}
use Rattle.desk.specs.History.{GrowsBy, NameAll, entered, log_of, lost_by, told_of}
use Rattle.desk.specs.Serving.{answered, history_after, told_after, with_telling}

entered_named : (log : List Entry) (r : ℕ) (es : List Entry) → AllByRecursion (IsOwn log r) es → NameAll r (entered es)
entered_named log r [] own = tt
entered_named log r (e ∷ es) own = (ap (λ by. option_or by (lost_by e.what)) own.0.by, entered_named log r es own.1)

grown_told : (r before now : ℕ) (added items : List Item) → NameAll r added → GrowsBy r items (with_telling r before now (added ++ items))
grown_told r before now added items named = by_test (nat_lt before now) where
  by_test : (b : Bool) → GrowsBy r items (if b then Told r now ∷ (added ++ items) else added ++ items)
  by_test true = record { items = Told r now ∷ added; grown = refl; named = (refl, named) }
  by_test false = record { items = added; grown = refl; named = named }

pub grown_served : (rules : Rules) (items : List Item) (r : ℕ) (bytes : List ℕ) → GrowsBy r items (history_after r items (answered rules (log_of items) r bytes))
grown_served rules items r bytes =
    let d = answered rules (log_of items) r bytes in
    grown_told r (told_of items r) (told_after r (log_of items) (told_of items r) d) (entered d.entries) items
    (entered_named (log_of items) r d.entries (each_owned rules (log_of items) r bytes))

pub grown_lost : (items : List Item) (r : ℕ) → GrowsBy r items (Entered (lost_entry r) ∷ items)
grown_lost items r = record { items = Entered (lost_entry r) ∷ []; grown = refl; named = (refl, tt) }
