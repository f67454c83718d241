use Rattle.std.proofs.Common.{◌≡◌, ◌∙◌, ap, sym, subst, arith, [], List}
use Rattle.coordinator_rules.specs.Decision.{Rules}
use Rattle.exchange_laws.proofs.Fit.Starts.{empty_fits}
use Rattle.tree_log.specs.declared.entry.Entry.{Entry}
use Rattle.desk.specs.Books.{IsKept}
use Rattle.desk.specs.History.{told_in, newest_at}
use Rattle.desk.proofs.Ledgers.{none_lost}
use Rattle.desk.proofs.ledger.Ledger.new.Goals as goal

pub invariant_of-result : goal.invariant_of-result
invariant_of-result c =
    let none : c.new.result.entries ≡ [] = c.new.ensures.entries in
    let told = c.in_ok-new.ensures in
    let rules : Rules = record { renderers = c.args.renderers; suffixes = c.args.suffixes.items } in
    subst (λ (es : List Entry). IsKept rules es c.in_ok-new.field-0 c.loop-renderer.lost.items) (sym none) (record {
      some = c.requires.some;
      not_many = c.requires.not_many;
      seats = ap (λ t. t.renderers) told;
      admitted = tt;
      fit = empty_fits rules c.requires.some (let few = c.requires.not_many in omega arith);
      placed = let at = ap (λ t. newest_at t.told) told in omega arith;
      within = λ r. let at = ap (λ t. told_in t.told r) told in omega arith;
      marks = let end = c.loop-renderer.invariant.count in omega (arith, end, c.loop-renderer-test.false, c.loop-renderer.auto._renderer-end);
      losses = λ r. c.loop-renderer.invariant.none r ∙ sym (none_lost r);
      few = omega arith;
    })
