-- Data whose texts and keys are UTF-8, at each level.
use Rattle.std.specs.Prelude.{Bool, true, ◌&&◌}
use Rattle.std.specs.List.{list_all}
use Rattle.std.specs.Str.{is_utf8}
use Rattle.plain_data.specs.declared.data.Data.{Data, fold-Data}
use Rattle.plain_data.specs.declared.data.Data.TheOpen.{Data-F}

-- one level, with whether all texts are UTF-8 in place of each value inside
abbrev pub utf8_step : Data-F Bool → Bool
utf8_step (Data-F.Text s) = is_utf8 s
utf8_step (Data-F.List items) = list_all (λ b. b) items
utf8_step (Data-F.Record members) = list_all (λ m. is_utf8 m.0 && m.1) members
utf8_step _ = true

abbrev pub texts_are_utf8 : Data → Bool
texts_are_utf8 = fold-Data Bool utf8_step
