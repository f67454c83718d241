use Rattle.std.proofs.Common.{sym, ◌∙◌, ap, subst, List}
use Rattle.window_props.specs.declared.rows.Row.{Row}
use Rattle.window_props.specs.Keys.{AreApart}
use Rattle.window_props.specs.Rows.{row_keys, store_of_rows}
use Rattle.window_props.proofs.PlatformLaws.{platform_store, platform_apart}
use Rattle.window_props.proofs.props.Props.new.Goals as goal

pub invariant_of-result : goal.invariant_of-result
invariant_of-result c = record { apart = subst (λ (rows : List Row). AreApart (row_keys rows)) (sym c.in_ok-rows.ensures) (platform_apart c.args.object) }

pub returns : goal.returns
returns c = ap (λ (rows : List Row). store_of_rows c.args.object rows) c.in_ok-rows.ensures ∙ platform_store c.args.object
