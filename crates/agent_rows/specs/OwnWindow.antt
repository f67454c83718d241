-- What the script of document d1 gets at its own window n0.
use Rattle.std.specs.Prelude.{◌≡◌, refl, false, codes}
use Rattle.window_props.specs.declared.value.Value.TheVariants as value
use Rattle.window_props.specs.declared.value.Method.TheVariants as method
use Rattle.window_props.specs.declared.platform.Object.TheVariants as object
use Rattle.agent_terms.specs.declared.outcome.Outcome.TheVariants as outcome
use Rattle.object_access.specs.Values.{undefined, truth, text}
use Rattle.agent_rows.specs.Logs.{framed}
use Rattle.agent_rows.specs.ForeignWindow.{got_at}

pub gets_own_closed : got_at framed 0 (codes "closed") ≡ outcome.Value (truth false)
unfolding got_at
gets_own_closed = refl

pub gets_own_origin : got_at framed 0 (codes "origin") ≡ outcome.Value (text (codes "https://a.test"))
unfolding got_at
gets_own_origin = refl

-- no child and no property has this name
pub gets_own_colour : got_at framed 0 (codes "colour") ≡ outcome.Value undefined
unfolding got_at
gets_own_colour = refl

pub gets_own_close : got_at framed 0 (codes "close") ≡ outcome.Value (value.Function method.Close (object.Window 1))
unfolding got_at
gets_own_close = refl

-- no child stands at the greatest index, nor under what is no index
pub gets_own_last_index : got_at framed 0 (codes "4294967294") ≡ outcome.Value undefined
unfolding got_at
gets_own_last_index = refl

pub gets_own_after_last_index : got_at framed 0 (codes "4294967295") ≡ outcome.Value undefined
unfolding got_at
gets_own_after_last_index = refl
