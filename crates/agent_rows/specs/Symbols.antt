-- A frame whose name is the text of a symbol: the symbol is a key of its own, and no name (ECMA-262, Property Keys).
use Rattle.std.specs.Prelude.{◌≡◌, refl, List, ◌∷◌, None, codes}
use Rattle.window_props.specs.declared.key.Key.{Key}
use Rattle.window_props.specs.declared.key.Key.TheVariants as key
use Rattle.window_props.specs.declared.value.Value.TheVariants as value
use Rattle.window_props.specs.Keys.{array_index, index_of, same_key, key_read}
use Rattle.window_props.specs.Platform.{spelled, named, platform, made_by_platform}
use Rattle.window_props.specs.Cross.{listed, cross_named, made_for_others, is_fallback}
use Rattle.window_props.specs.History.{store_of}
use Rattle.tree_log.specs.declared.entry.Entry.{Entry}
use Rattle.tree_log.specs.declared.entry.What.TheVariants.{Frame}
use Rattle.tree_log.specs.Tree.{tree_of, is_active, is_discarded, chain}
use Rattle.tree_log.specs.Admits.{admits, AreAdmitted}
use Rattle.agent_terms.specs.declared.outcome.Outcome.{Outcome}
use Rattle.agent_terms.specs.declared.outcome.Outcome.TheVariants as outcome
use Rattle.object_access.specs.Values.{undefined}
use Rattle.object_access.specs.Access.{got, own_property, foreign_property}
use Rattle.object_access.specs.StepAnswer.{first_stores}
use Rattle.coordinator_rules.specs.Decision.{by}
use Rattle.agent_rows.specs.Logs.{a_test, b_test, framed, framed_admitted}
use Rattle.agent_rows.specs.ForeignWindow.{met}

-- the window's document d1 and the foreign document d3 both make a frame of that name
abbrev pub named_by_symbol : List Entry
named_by_symbol = by 0 1 (Frame 3 5 0 a_test (codes "@@toStringTag") 0 None) ∷ by 1 3 (Frame 2 4 1 b_test (codes "@@toStringTag") 0 None) ∷ framed

pub named_by_symbol_admitted : AreAdmitted named_by_symbol
unfolding admits tree_of is_active is_discarded chain
named_by_symbol_admitted = (refl, (refl, framed_admitted))

-- the text is read as the symbol
pub reads_symbol : key_read (codes "@@toStringTag") ≡ key.ToStringTag
unfolding key_read
reads_symbol = refl

-- the child that the key reaches from the window of a navigable
unfoldable pub reaches : Key → Outcome
unfolding met got own_property foreign_property store_of platform made_by_platform named spelled same_key array_index index_of listed cross_named made_for_others is_fallback
reaches k = got (met named_by_symbol 0) (first_stores (met named_by_symbol 0).object) k

unfoldable pub reaches_foreign : Key → Outcome
unfolding met got own_property foreign_property store_of platform made_by_platform named spelled same_key array_index index_of listed cross_named made_for_others is_fallback
reaches_foreign k = got (met named_by_symbol 1) (first_stores (met named_by_symbol 1).object) k

-- it reaches neither frame: at the own window there is no such property, at the foreign one it is undefined
pub symbol_is_no_name : reaches key.ToStringTag ≡ outcome.Value undefined
unfolding reaches
symbol_is_no_name = refl

pub foreign_symbol_is_no_name : reaches_foreign key.ToStringTag ≡ outcome.Value undefined
unfolding reaches_foreign
foreign_symbol_is_no_name = refl

-- a key that is a text of these characters would reach each of them
pub text_is_a_name : reaches (key.Text (codes "@@toStringTag")) ≡ outcome.Value (value.Window 3)
unfolding reaches
text_is_a_name = refl

pub foreign_text_is_a_name : reaches_foreign (key.Text (codes "@@toStringTag")) ≡ outcome.Value (value.Window 2)
unfolding reaches_foreign
foreign_text_is_a_name = refl
