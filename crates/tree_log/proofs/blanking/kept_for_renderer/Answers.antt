use Rattle.std.proofs.Common.{◌≡◌, ◌∙◌, sym, ap, subst, length, None, Some, get_or, arith, List, ℕ, ◌≤◌, ◌<◌, eqb, Option}
use Rattle.std.specs.Prelude.{unwrap_or}
use Rattle.std.specs.Option.{option_eq}
use Rattle.std.specs.List.{filter, range_with_len}
use Rattle.tree_log.specs.declared.entry.Entry.{Entry}
use Rattle.tree_log.specs.Blanking.{is_homed}
use Rattle.tree_log.specs.Tree.{tree_of, home_of}
use Rattle.tree_log.proofs.HomeRows.{homed_by_row, passes, fails}
use Rattle.tree_log.proofs.blanking.kept_for_renderer.Goals as goal
use Rattle.tree_log.proofs.blanking.kept_for_renderer.Goals.{then-eq+in_ok-push, else-eq}

pub loop-doc-preserved : goal.loop-doc-preserved
loop-doc-preserved c =
    let log : List Entry = c.args.log.now.entries in
    let rows : List (Option ℕ) = c.deref-home-items.result.now in
    let told : home_of (tree_of log) c.loop-doc.doc ≡ unwrap_or (get_or rows c.loop-doc.doc None) 65536 =
    sym (ap (λ (l : List Entry). home_of (tree_of l) c.loop-doc.doc) c.entries.ensures.value)
    ∙ c.in_ok-homes.ensures.value c.loop-doc.doc (subst (λ (hs : List (Option ℕ)). c.loop-doc.doc < length hs) c.deref-home-items.ensures.value c.loop-doc-test.true)
    ∙ ap (λ (hs : List (Option ℕ)). unwrap_or (get_or hs c.loop-doc.doc None) 65536) (sym c.deref-home-items.ensures.value) in
    let row : is_homed (tree_of log) c.args.renderer c.loop-doc.doc ≡ option_eq eqb (get_or rows c.loop-doc.doc None) (Some c.args.renderer) =
    homed_by_row log rows c.args.renderer c.loop-doc.doc told c.ranges.renderer.fits in
    elim c.if-eq.branch [
      | then-eq+in_ok-push w ↦ rw w.kept-is (w.in_ok-push.ensures.items
          ∙ passes (is_homed (tree_of log) c.args.renderer) c.loop-doc.doc c.loop-doc.kept.items c.loop-doc.invariant (row ∙ sym c.eq.ensures ∙ w.if-eq.true))
      | else-eq w ↦ rw w.kept-is (fails (is_homed (tree_of log) c.args.renderer) c.loop-doc.doc c.loop-doc.kept.items c.loop-doc.invariant (row ∙ sym c.eq.ensures ∙ w.if-eq.false))
    ]

pub returns : goal.returns
returns c =
    let log : List Entry = c.args.log.now.entries in
    let all : length c.deref-home-items.result.now ≡ (tree_of log).docs =
    ap length c.deref-home-items.ensures.value ∙ c.in_ok-homes.ensures.count ∙ ap (λ (l : List Entry). (tree_of l).docs) c.entries.ensures.value in
    let done : length c.deref-home-items.result.now ≤ c.loop-doc.doc = c.loop-doc-test.false in
    let end : c.loop-doc.doc ≤ length c.deref-home-items.result.now = c.loop-doc.auto.doc-end in
    c.loop-doc.invariant ∙ ap (λ n. filter (is_homed (tree_of log) c.args.renderer) (range_with_len 0 n)) (omega arith)
