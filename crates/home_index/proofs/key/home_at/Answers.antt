use Rattle.std.proofs.Common.{option_map, ap, sym, ◌∙◌}
use Rattle.std.specs.Option.{option_copied}
use Rattle.std.specs.Map.{lookup}
use Rattle.std.specs.Prelude.{Bool}
use Rattle.home_index.specs.declared.key.Key.{Key}
use Rattle.home_index.proofs.Keys.{key_tests}
use Rattle.home_index.specs.Rows.{Row}
use Rattle.home_index.specs.declared.key.Resident.{Resident}
use Rattle.home_index.proofs.Found.{home_found, none_found}
use Rattle.home_index.proofs.key.home_at.Goals as goal

pub returns-in-Some-get : goal.returns-in-Some-get
returns-in-Some-get c = sym (
    home_found c.args.hosts.now.keys c.args.rows.now.entries c.args.group c.args.site.now c.in-Some.place c.requires (sym c.place_of.ensures ∙ c.in-Some.is)
    ∙ ap (option_map (λ (r : Resident). r.home)) (ap (λ (test : Key → Bool). lookup test c.args.rows.now.entries) (sym (key_tests (record { group = c.args.group; place = c.in-Some.place }))) ∙ sym c.get.ensures.value ∙ ap option_copied c.in-Some-get.is)
    )

pub returns-in-None-get : goal.returns-in-None-get
returns-in-None-get c = sym (
    home_found c.args.hosts.now.keys c.args.rows.now.entries c.args.group c.args.site.now c.in-Some.place c.requires (sym c.place_of.ensures ∙ c.in-Some.is)
    ∙ ap (option_map (λ (r : Resident). r.home)) (ap (λ (test : Key → Bool). lookup test c.args.rows.now.entries) (sym (key_tests (record { group = c.args.group; place = c.in-Some.place }))) ∙ sym c.get.ensures.value ∙ ap option_copied c.in-None-get.is)
    )

pub returns-in-None : goal.returns-in-None
returns-in-None c = sym (ap (option_map (λ (r : Row). r.home)) (none_found c.args.hosts.now.keys c.args.rows.now.entries c.args.group c.args.site.now c.requires (sym c.place_of.ensures ∙ c.in-None.is)))
