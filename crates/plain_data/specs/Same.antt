-- Equality of data as a test that computes: by the code that the logic gives each value, which tells all values apart.
-- That it decides `≡` is a law, `same_data-Decides`.
use Rattle.std.specs.Prelude.{Bool, true, false, ◌&&◌, ◌==◌}
use base.Stored.{Gv, gnil, gnum, gcons}
use Rattle.plain_data.specs.declared.data.Data.{Data}
use Rattle.plain_data.specs.contracts.data.Data as row

-- whether two codes are equal
abbrev pub gv_eq : Gv → Gv → Bool
gv_eq gnil gnil = true
gv_eq (gnum m) (gnum n) = m == n
gv_eq (gcons a b) (gcons c d) = gv_eq a c && gv_eq b d
gv_eq _ _ = false

unfoldable pub same_data : Data → Data → Bool
same_data a b = gv_eq (row.the_row.coded.code a) (row.the_row.coded.code b)
