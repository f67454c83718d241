-- What the script of document d1 gets at the window of the frame n1, whose document is of another origin, and at its own.
use Rattle.std.specs.Prelude.{◌≡◌, ℕ, refl, List, [], ◌∷◌, None, false, true, ◌++◌, codes}
use Rattle.window_props.specs.declared.key.Key.TheVariants as key
use Rattle.window_props.specs.declared.value.Value.TheVariants as value
use Rattle.window_props.specs.declared.value.Method.TheVariants as method
use Rattle.window_props.specs.declared.platform.Object.TheVariants as object
use Rattle.window_props.specs.Keys.{array_index, index_of, same_key}
use Rattle.window_props.specs.Platform.{spelled, named, platform, made_by_platform}
use Rattle.window_props.specs.Cross.{listed, cross_named, made_for_others, is_fallback, list_keys, fallback_keys}
use Rattle.window_props.specs.History.{store_of}
use Rattle.tree_log.specs.declared.entry.Entry.{Entry}
use Rattle.tree_log.specs.declared.entry.What.TheVariants.{Frame, Drop}
use Rattle.tree_log.specs.Tree.{tree_of, is_active, is_discarded, chain, children_of, parent_of, top_level_of}
use Rattle.tree_log.specs.Admits.{admits, AreAdmitted}
use Rattle.tree_log.specs.NamedChildren.{child_named}
use Rattle.tree_log.specs.Urls.{url_of}
use Rattle.agent_terms.specs.declared.outcome.Outcome.{Outcome}
use Rattle.agent_terms.specs.declared.outcome.Outcome.TheVariants as outcome
use Rattle.agent_terms.specs.declared.outcome.Rule.TheVariants.{S1, S2}
use Rattle.object_access.specs.Values.{undefined, null, truth, text, whole}
use Rattle.object_access.specs.Access.{Seen, got, own_property, foreign_property, keys, index_keys, index_key}
use Rattle.object_access.specs.WindowAccess.{window, window_of, window_value}
use Rattle.object_access.specs.StepAnswer.{first_stores}
use Rattle.coordinator_rules.specs.Decision.{by}
use Rattle.agent_rows.specs.Logs.{b_test, framed, framed_admitted}

-- the window of navigable n, as d1 meets it
unfoldable pub met : List Entry → ℕ → Seen
unfolding window_of window_value tree_of url_of chain is_discarded is_active children_of parent_of top_level_of child_named
met log n = window (tree_of log) (url_of log) 1 n

-- what d1 gets at a key there, with the properties that the platform made
unfoldable pub got_at : List Entry → ℕ → List ℕ → Outcome
unfolding met got own_property foreign_property store_of platform made_by_platform named spelled same_key array_index index_of listed cross_named made_for_others is_fallback
got_at log n name = got (met log n) (first_stores (met log n).object) (key.Text name)

-- the names that are shown to documents of another origin
pub gets_window : got_at framed 1 (codes "window") ≡ outcome.Value (value.Window 1)
unfolding got_at
gets_window = refl

pub gets_self : got_at framed 1 (codes "self") ≡ outcome.Value (value.Window 1)
unfolding got_at
gets_self = refl

pub gets_frames : got_at framed 1 (codes "frames") ≡ outcome.Value (value.Window 1)
unfolding got_at
gets_frames = refl

pub gets_location : got_at framed 1 (codes "location") ≡ outcome.Value (value.Location 3)
unfolding got_at
gets_location = refl

pub gets_length : got_at framed 1 (codes "length") ≡ outcome.Value (whole 0)
unfolding got_at
gets_length = refl

pub gets_closed : got_at framed 1 (codes "closed") ≡ outcome.Value (truth false)
unfolding got_at
gets_closed = refl

-- the frame has no opener; its parent and its top are the window n0
pub gets_opener : got_at framed 1 (codes "opener") ≡ outcome.Value null
unfolding got_at
gets_opener = refl

pub gets_parent : got_at framed 1 (codes "parent") ≡ outcome.Value (value.Window 0)
unfolding got_at
gets_parent = refl

pub gets_top : got_at framed 1 (codes "top") ≡ outcome.Value (value.Window 0)
unfolding got_at
gets_top = refl

-- its methods are functions of that Window
pub gets_close : got_at framed 1 (codes "close") ≡ outcome.Value (value.Function method.Close (object.Window 3))
unfolding got_at
gets_close = refl

pub gets_focus : got_at framed 1 (codes "focus") ≡ outcome.Value (value.Function method.Focus (object.Window 3))
unfolding got_at
gets_focus = refl

pub gets_blur : got_at framed 1 (codes "blur") ≡ outcome.Value (value.Function method.Blur (object.Window 3))
unfolding got_at
gets_blur = refl

pub gets_post_message : got_at framed 1 (codes "postMessage") ≡ outcome.Value (value.Function method.PostMessage (object.Window 3))
unfolding got_at
gets_post_message = refl

-- any other name is refused, though the window has it
pub refuses_name : got_at framed 1 (codes "name") ≡ outcome.Security S1
unfolding got_at
refuses_name = refl

-- at its own window the name is the empty text that a start window has
pub gets_own_name : got_at framed 0 (codes "name") ≡ outcome.Value (text [])
unfolding got_at
gets_own_name = refl

-- `then` is undefined, until the foreign document makes a frame of that name
pub then_is_undefined : got_at framed 1 (codes "then") ≡ outcome.Value undefined
unfolding got_at
then_is_undefined = refl

abbrev pub with_then : List Entry
with_then = by 1 3 (Frame 2 4 1 b_test (codes "then") 0 None) ∷ framed

pub with_then_admitted : AreAdmitted with_then
unfolding admits tree_of is_active is_discarded chain
with_then_admitted = (refl, framed_admitted)

pub then_is_a_frame : got_at with_then 1 (codes "then") ≡ outcome.Value (value.Window 2)
unfolding got_at
then_is_a_frame = refl

pub length_is_one : got_at with_then 1 (codes "length") ≡ outcome.Value (whole 1)
unfolding got_at
length_is_one = refl

-- an index gives the child, and one out of range is refused
pub gets_child : got_at with_then 1 (codes "0") ≡ outcome.Value (value.Window 2)
unfolding got_at
gets_child = refl

pub refuses_index : got_at with_then 1 (codes "1") ≡ outcome.Security S2
unfolding got_at
refuses_index = refl

-- an index is a canonical decimal up to 4294967294; any other text is a key that a foreign window doesn't show
pub refuses_last_index : got_at with_then 1 (codes "4294967294") ≡ outcome.Security S2
unfolding got_at
refuses_last_index = refl

pub refuses_after_last_index : got_at with_then 1 (codes "4294967295") ≡ outcome.Security S1
unfolding got_at
refuses_after_last_index = refl

pub refuses_leading_zero : got_at with_then 1 (codes "00") ≡ outcome.Security S1
unfolding got_at
refuses_leading_zero = refl

-- at its own window one out of range is undefined
pub gets_own_child : got_at framed 0 (codes "0") ≡ outcome.Value (value.Window 1)
unfolding got_at
gets_own_child = refl

pub own_index_is_undefined : got_at framed 0 (codes "1") ≡ outcome.Value undefined
unfolding got_at
own_index_is_undefined = refl

-- the keys are the indices, the listed names and the ones that are undefined for all others
pub lists_keys : keys (met with_then 1) (first_stores (object.Window 3)) ≡ outcome.Keys (index_key 0 ∷ list_keys (object.Window 3) ++ fallback_keys)
unfolding keys index_keys met
lists_keys = refl

-- a frame that was taken out is closed, and has neither parent nor top
abbrev pub taken_out : List Entry
taken_out = by 0 1 (Drop 1) ∷ framed

pub taken_out_admitted : AreAdmitted taken_out
unfolding admits tree_of is_active is_discarded chain
taken_out_admitted = (refl, framed_admitted)

pub is_closed : got_at taken_out 1 (codes "closed") ≡ outcome.Value (truth true)
unfolding got_at
is_closed = refl

pub has_no_parent : got_at taken_out 1 (codes "parent") ≡ outcome.Value null
unfolding got_at
has_no_parent = refl

pub has_no_top : got_at taken_out 1 (codes "top") ≡ outcome.Value null
unfolding got_at
has_no_top = refl
