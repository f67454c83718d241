use Rattle.std.proofs.Common.{refl, sym, ◌∙◌, ap, None, Some, true}
use Rattle.window_props.specs.Ordinary.{Set}
use Rattle.window_props.specs.Ordinary as spec
use Rattle.window_props.proofs.ActLaws.{made_one, changed_one, acted_set, set_new}
use Rattle.window_props.proofs.rows.set_in.Goals as goal

pub returns-in_ok-add-in-None-clause-ok : goal.returns-in_ok-add-in-None-clause-ok
returns-in_ok-add-in-None-clause-ok c = made_one c.args.object c.args.rows.now.items _ c.args.key.now (Set c.args.value) (record { key = c.args.key.now; property = c.plain.result }) c.requires c.in-None.ensures refl c.in_ok-add-in-None.ensures.ok
    (acted_set c.args.object c.args.key.now c.args.value None ∙ set_new _ c.args.value ∙ ap (λ d. spec.done true (Some d)) (sym c.plain.ensures))

pub returns-in-Some-clause-ok : goal.returns-in-Some-clause-ok
returns-in-Some-clause-ok c = changed_one c.args.object c.args.rows.now.items c.args.key.now c.in-Some.i (Set c.args.value) c.index_mut-row.result.now c.reset.new.property _ c.requires c.index_mut-row.ensures.value c.in-Some.ensures
    (acted_set c.args.object c.args.key.now c.args.value _ ∙ ap (λ r. spec.set_to r c.args.value (Some c.index_mut-row.result.now.property)) (sym c.role_at-role.ensures) ∙ c.reset.ensures)
