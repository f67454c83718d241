use Rattle.std.proofs.Common.{◌≡◌, ℕ, ◌++◌, [], ◌∷◌, length, ap, ◌∙◌, subst, sym, arith, ◌+◌, length-append, List}
use Rattle.tree_view.specs.declared.plain.rows.NavRow.{NavRow}
use Rattle.tree_view.specs.declared.plain.rows.DocRow.{DocRow}
use Rattle.tree_view.specs.Rows.{new_docs, new_loads, numbers_of, is_loaded}
use Rattle.tree_view.proofs.Closing.{AreClosed, closed_more}
use Rattle.tree_view.proofs.Loads.{loads_new}
use Rattle.tree_view.proofs.plain.rows.PlainView.write_new.Goals as goal

pub invariant_of-self-2 : goal.invariant_of-self-2
invariant_of-self-2 c =
    let v = c.args.self.now in
    let more = new_docs c.args.new.initial c.args.new.loaded in
    let navs : c.push.new.self.items ≡ v.navs.items ++ c.args.new.row ∷ [] = c.in_ok-push.ensures.items in
    let docs : c.push_reserved.new.docs.items ≡ v.docs.items ++ more = c.push_reserved.ensures.docs ∙ ap (λ (ds : List DocRow). ds ++ more) c.in_ok-reserve.ensures.items in
    let all : AreClosed (v.navs.items ++ c.args.new.row ∷ []) (v.docs.items ++ more) =
    closed_more v.navs.items v.docs.items c.args.new.row c.args.new.initial c.args.new.loaded v.navs_closed v.docs_closed v.parents_first c.requires.fits.closed c.requires.fits.embedder c.requires.fits.initial c.requires.fits.loaded v.show_their_own c.requires.fits.active in
    let same : AreClosed c.push.new.self.items c.push_reserved.new.docs.items = subst (λ (xs : List NavRow). AreClosed xs c.push_reserved.new.docs.items) (sym navs) (subst (λ (ds : List DocRow). AreClosed (v.navs.items ++ c.args.new.row ∷ []) ds) (sym docs) all) in
    let navs_count : length c.push.new.self.items ≡ length v.navs.items + 1 = ap length navs ∙ length-append v.navs.items (c.args.new.row ∷ []) in
    let docs_count : length c.push_reserved.new.docs.items ≡ length v.docs.items + length more = ap length docs ∙ length-append v.docs.items more in
    record {
      few_navs = omega (arith, c.requires.fits.few_navs);
      few_docs = omega (arith, c.requires.fits.few_docs);
      navs_closed = same.navs_closed;
      docs_closed = same.docs_closed;
      parents_first = same.parents_first;
      show_their_own = same.show_their_own;
      loads_listed =
          c.push_reserved.ensures.loads
          ∙ ap (λ (ns : List ℕ). ns ++ new_loads (length c.reserve.new.self.items) c.args.new.loaded) (c.in_ok-reserve-2.ensures.items ∙ v.loads_listed)
          ∙ ap (λ (ds : List DocRow). numbers_of is_loaded 0 v.docs.items ++ new_loads (length ds) c.args.new.loaded) c.in_ok-reserve.ensures.items
          ∙ sym (loads_new v.docs.items c.args.new.initial c.args.new.loaded c.requires.fits.not_loaded c.requires.fits.marked)
          ∙ ap (numbers_of is_loaded 0) (sym docs);
    }
