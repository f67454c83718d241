-- The test decides equality.
use Rattle.std.proofs.Common.{◌≡◌, Bool, true, false, ◌&&◌, refl, ap, rules, subst, IsTrue, ◌↔◌}
use Rattle.std.specs.Bool.{Decides}
use Rattle.std.proofs.lemmas.Bool.Decides.{Decides-eqb, same_from_decides}
use base.Stored.{Gv, gnil, gnum, gcons}
use Rattle.plain_data.specs.declared.data.Data.{Data}
use Rattle.plain_data.specs.contracts.data.Data as row
use Rattle.plain_data.specs.Same.{gv_eq, same_data}

both : (a b : Bool) → a && b ≡ true → (a ≡ true) × (b ≡ true)
both true b h = (refl, h)
both false b h = cc

gv_same : (a b : Gv) → gv_eq a b ≡ true → a ≡ b
gv_same gnil gnil h = refl
gv_same (gnum m) (gnum n) h = ap gnum ((Decides-eqb m n).0 h)
gv_same (gcons a b) (gcons c d) h = let p = both (gv_eq a c) (gv_eq b d) h in let e = gv_same a c p.0 in let f = gv_same b d p.1 in cc
gv_same gnil (gnum n) h = cc
gv_same gnil (gcons c d) h = cc
gv_same (gnum m) gnil h = cc
gv_same (gnum m) (gcons c d) h = cc
gv_same (gcons a b) gnil h = cc
gv_same (gcons a b) (gnum n) h = cc

gv_itself : (a : Gv) → gv_eq a a ≡ true
gv_itself gnil = refl
gv_itself (gnum n) = (Decides-eqb n n).1 refl
gv_itself (gcons a b) = rw (gv_itself a, gv_itself b) refl

pub same_data-Decides : (a b : Data) → Decides (same_data a b) (a ≡ b)
unfolding same_data
same_data-Decides a b = (λ h. row.the_row.coded.inj a b (gv_same _ _ h), λ p. subst (λ (x : Data). gv_eq (row.the_row.coded.code a) (row.the_row.coded.code x) ≡ true) p (gv_itself (row.the_row.coded.code a)))

pub same_data-is : (r : Bool) (a b : Data) → (IsTrue r ↔ (a ≡ b)) → r ≡ same_data a b
same_data-is r a b h = same_from_decides r (same_data a b) (search rules) (same_data-Decides a b)
