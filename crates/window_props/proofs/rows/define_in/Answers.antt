use Rattle.std.proofs.Common.{refl, sym, ◌∙◌, ap, None, Some, true}
use Rattle.window_props.specs.Ordinary.{acted, Define}
use Rattle.window_props.specs.Ordinary as spec
use Rattle.window_props.proofs.ActLaws.{default_defined, made_one, changed_one, acted_define, defined_new}
use Rattle.window_props.proofs.rows.define_in.Goals as goal

pub returns-then-is_default-clause-ok : goal.returns-then-is_default-clause-ok
returns-then-is_default-clause-ok c = default_defined _ _ _ _ c.requires (sym c.is_default.ensures ∙ c.if-is_default.true)

pub returns-in_ok-add-in-None-clause-ok : goal.returns-in_ok-add-in-None-clause-ok
returns-in_ok-add-in-None-clause-ok c = made_one c.args.object c.args.rows.now.items _ c.args.key.now (Define c.args.change) (record { key = c.args.key.now; property = c.made.result }) c.requires c.in-None.ensures refl c.in_ok-add-in-None.ensures.ok
    (acted_define c.args.object c.args.key.now c.args.change None (sym c.is_default.ensures ∙ c.if-is_default.false) ∙ defined_new c.args.change ∙ ap (λ d. spec.done true (Some d)) (sym c.made.ensures))

pub returns-in-Some-clause-ok : goal.returns-in-Some-clause-ok
returns-in-Some-clause-ok c = changed_one c.args.object c.args.rows.now.items c.args.key.now c.in-Some.i (Define c.args.change) c.index_mut-row.result.now c.redefine.new.property _ c.requires c.index_mut-row.ensures.value c.in-Some.ensures
    (acted_define c.args.object c.args.key.now c.args.change _ (sym c.is_default.ensures ∙ c.if-is_default.false) ∙ c.redefine.ensures)
