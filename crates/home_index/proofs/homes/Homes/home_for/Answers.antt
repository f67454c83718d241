use Rattle.std.proofs.Common.{ℕ, List, length, ap, sym, ◌∙◌}
use Rattle.std.specs.Prelude.{◌%◌}
use Rattle.std.proofs.lemmas.List.{length-map}
use Rattle.home_index.specs.Rows.{Row, home_in}
use Rattle.home_index.specs.Keyed.{row_at, rows_in}
use Rattle.home_index.proofs.Answered.{answer_some, answer_none}
use Rattle.home_index.proofs.Grown.{home_is}
use Rattle.home_index.proofs.homes.Homes.home_for.Goals as goal

pub returns-in-Some-clause-definition : goal.returns-in-Some-clause-definition
returns-in-Some-clause-definition c = λ suffixes log all fed.
    sym (answer_some (length (rows_in c.self.inside.rows.entries) % c.args.renderers) c.in-Some.home _ (sym c.home_at.ensures ∙ c.in-Some.is))
    ∙ ap (λ (rows : List Row). home_in c.args.renderers rows c.args.group c.args.site.now) (c.self.view_is ∙ fed)
    ∙ home_is c.args.renderers suffixes log c.args.group c.args.site.now all

pub returns-in-None-clause-definition : goal.returns-in-None-clause-definition
returns-in-None-clause-definition c = λ suffixes log all fed.
    ap (λ (n : ℕ). n % c.from.result) (c.len.ensures.len ∙ sym (length-map c.self.inside.rows.entries row_at))
    ∙ ap (λ (n : ℕ). length (rows_in c.self.inside.rows.entries) % n) c.from.ensures
    ∙ sym (answer_none (length (rows_in c.self.inside.rows.entries) % c.args.renderers) _ (sym c.home_at.ensures ∙ c.in-None.is))
    ∙ ap (λ (rows : List Row). home_in c.args.renderers rows c.args.group c.args.site.now) (c.self.view_is ∙ fed)
    ∙ home_is c.args.renderers suffixes log c.args.group c.args.site.now all
