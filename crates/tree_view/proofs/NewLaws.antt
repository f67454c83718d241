-- What the rows say after an entry that makes a navigable, and how each kind's law is used.
use Rattle.std.proofs.Common.{◌≡◌, ℕ, ◌+◌, List, [], ◌∷◌, ◌++◌, Option, Some, true, sym, subst, refl}
use Rattle.tree_log.specs.declared.entry.Entry.{Entry}
use Rattle.tree_log.specs.declared.entry.What.{What}
use Rattle.tree_log.specs.declared.entry.What.TheVariants.{Open, Frame}
use Rattle.tree_log.specs.Admits.{admits, admits_what}
use Rattle.tree_view.specs.declared.plain.rows.NavRow.{NavRow}
use Rattle.tree_view.specs.declared.plain.rows.DocRow.{DocRow}
use Rattle.tree_view.specs.declared.plain.rows.NewRows.{NewRows}
use Rattle.tree_view.specs.declared.plain.rows.PlainView.{PlainView}
use Rattle.tree_view.specs.Rows.{Known, known_of, after_known, new_docs, grown}
use Rattle.tree_view.specs.Shown.{known}
use Rattle.tree_view.specs.NewRows.{entry, new_rows_of, new_rows}
use Rattle.tree_view.proofs.After.{after_open, after_frame}
use Rattle.tree_view.proofs.Fits.{open_makes, frame_makes, of_kind}

abbrev with_new : List NavRow → List DocRow → ℕ → ℕ → NewRows → Known
with_new navs docs groups len new = known_of (navs ++ new.row ∷ []) (docs ++ new_docs new.initial new.loaded) (grown groups new.row.made.group) (len + 1)

some_same : {A : Type 0} (x y : A) → Some x ≡ Some y → x ≡ y
some_same x y e = cc

after_what : (navs : List NavRow) (docs : List DocRow) (groups len : ℕ) (by actor : Option ℕ) (w : What) (new : NewRows)
    → new_rows_of actor w ≡ Some new → admits_what (known_of navs docs groups len).tree by actor w ≡ true
    → with_new navs docs groups len new ≡ after_known (known_of navs docs groups len) (entry by actor w)
after_what navs docs groups len by actor (Open i d g h o name opener flags navigator load) new is a =
    let m = open_makes (known_of navs docs groups len).tree by actor i d g h o name opener flags navigator load a in
    subst (λ (x : NewRows). with_new navs docs groups len x ≡ after_known (known_of navs docs groups len) (entry by actor (Open i d g h o name opener flags navigator load))) (some_same _ new is)
    (after_open navs docs groups len by actor i d g h o name opener flags navigator load m.nav m.doc m.load)
after_what navs docs groups len by actor (Frame i d h o name flags load) new is a =
    let m = frame_makes (known_of navs docs groups len).tree by actor i d h o name flags load a in
    subst (λ (x : NewRows). with_new navs docs groups len x ≡ after_known (known_of navs docs groups len) (entry by actor (Frame i d h o name flags load))) (some_same _ new is)
    (after_frame navs docs groups len by actor i d h o name flags load m.nav m.doc m.load)
after_what navs docs groups len by actor _ new is a = absurd cc

pub after_new : (v : PlainView) (e : Entry) (new : NewRows) → new_rows e ≡ Some new → admits (known v).tree e ≡ true
    → known_of (v.navs.items ++ new.row ∷ []) (v.docs.items ++ new_docs new.initial new.loaded) (grown v.groups new.row.made.group) (v.len + 1) ≡ after_known (known v) e
after_new v e new is a = after_what v.navs.items v.docs.items v.groups v.len e.by e.actor e.what new is (of_kind (known v).tree e e.what refl a)

-- a view whose rows are these
pub of_rows : (v : PlainView) (navs : List NavRow) (docs : List DocRow) (groups len : ℕ) → v.navs.items ≡ navs → v.docs.items ≡ docs → v.groups ≡ groups → v.len ≡ len
    → known v ≡ known_of navs docs groups len
of_rows v navs docs groups len a b c d = λ i. known_of (a i) (b i) (c i) (d i)

-- an entry of this kind
pub kind_is : (before now : Known) (e : Entry) (w : What) → e.what ≡ w → now ≡ after_known before (entry e.by e.actor w) → now ≡ after_known before e
kind_is before now e w is h = subst (λ (x : What). now ≡ after_known before (entry e.by e.actor x)) (sym is) h
