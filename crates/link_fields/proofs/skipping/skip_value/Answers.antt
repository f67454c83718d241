use Rattle.std.proofs.Common.{◌≡◌, ◌+◌, ◌∷◌, [], ◌++◌, length, None, false, ap, List, sym, subst, ◌∙◌, arith, rules}
use Rattle.std.proofs.lemmas.Result.{err_from_is_err_and}
use Rattle.link_fields.specs.Skipping.{Due, due, due_of, stacked, AreDeep}
use Rattle.link_fields.proofs.SkipLaws.{due_start, due_goes, due_fails, due_empty, stacked_pushed, step_deep}
use Rattle.link_fields.proofs.skipping.skip_value.Goals as goal

pub loop-top-init : goal.loop-top-init
loop-top-init c =
    let depth = 16 + length c.args.bytes.now in
    let e : c.push.new.self.items ≡ record { left = 1; in_record = false; before = None; depth = depth } ∷ [] = search rules in
    record {
      due = ap (λ xs. due (stacked xs) c.args.bytes.now) e ∙ due_start depth c.args.bytes.now;
      deep = subst (λ xs. AreDeep (length c.args.bytes.now) (stacked xs)) (sym e) (omega arith, tt);
    }

pub skip_part-requires : goal.skip_part-requires
skip_part-requires c =
    let e : c.loop-top.stack.items ≡ c.pop.new.self.items ++ c.in-Some.top ∷ [] = c.in-Some.ensures.items in
    let deep = subst (λ (ds : List Due). AreDeep (length c.loop-top.rest.now) ds) (ap stacked e ∙ stacked_pushed c.pop.new.self.items c.in-Some.top) c.loop-top.invariant.deep in
    omega (arith, deep.0)

pub returns-in_err-rest : goal.returns-in_err-rest
returns-in_err-rest c =
    let p = err_from_is_err_and c.from_residual-in_err-rest.result c.from_residual-in_err-rest.ensures.1 in
    let e : c.loop-top.stack.items ≡ c.pop.new.self.items ++ c.in-Some.top ∷ [] = c.in-Some.ensures.items in
    let is = ap stacked e ∙ stacked_pushed c.pop.new.self.items c.in-Some.top in
    let so_far = sym (ap (λ ds. due ds c.loop-top.rest.now) is) ∙ c.loop-top.invariant.due in
    let deep = subst (λ (ds : List Due). AreDeep (length c.loop-top.rest.now) ds) is c.loop-top.invariant.deep in
    rw (p.1, p.2) (due_fails c.in_err-rest.field-0.0 (due_of c.in-Some.top) (stacked c.pop.new.self.items) c.loop-top.rest.now _ c.if-top-gt0.true (omega (arith, deep.0)) c.in_err-rest.ensures.due so_far)

pub loop-top-preserved-then-top-gt0 : goal.loop-top-preserved-then-top-gt0
loop-top-preserved-then-top-gt0 c =
    let e : c.loop-top.stack.items ≡ c.pop.new.self.items ++ c.in-Some.top ∷ [] = c.in-Some.ensures.items in
    let is = ap stacked e ∙ stacked_pushed c.pop.new.self.items c.in-Some.top in
    let so_far = sym (ap (λ ds. due ds c.loop-top.rest.now) is) ∙ c.loop-top.invariant.due in
    let deep = subst (λ (ds : List Due). AreDeep (length c.loop-top.rest.now) ds) is c.loop-top.invariant.deep in
    record {
      due = due_goes (due_of c.in-Some.top) (stacked c.pop.new.self.items) c.loop-top.rest.now (stacked c.skip_part.new.stack.items, c.in_ok-rest.rest.now) _ c.if-top-gt0.true (omega (arith, deep.0)) c.in_ok-rest.ensures.due so_far;
      deep = step_deep (due_of c.in-Some.top) (stacked c.pop.new.self.items) c.loop-top.rest.now (stacked c.skip_part.new.stack.items, c.in_ok-rest.rest.now) c.in_ok-rest.ensures.due c.in_ok-rest.ensures.shorter deep.0 deep.1;
    }

pub loop-top-preserved : goal.loop-top-preserved
loop-top-preserved c =
    let e : c.loop-top.stack.items ≡ c.pop.new.self.items ++ c.in-Some.top ∷ [] = c.in-Some.ensures.items in
    let is = ap stacked e ∙ stacked_pushed c.pop.new.self.items c.in-Some.top in
    let so_far = sym (ap (λ ds. due ds c.loop-top.rest.now) is) ∙ c.loop-top.invariant.due in
    let deep = subst (λ (ds : List Due). AreDeep (length c.loop-top.rest.now) ds) is c.loop-top.invariant.deep in
    let none : c.in-Some.top.left ≡ 0 = omega arith in
    record {
      due = sym (due_empty (due_of c.in-Some.top) (stacked c.pop.new.self.items) c.loop-top.rest.now none) ∙ so_far;
      deep = deep.1;
    }
