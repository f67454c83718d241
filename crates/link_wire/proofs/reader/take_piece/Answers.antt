use Rattle.std.proofs.Common.{◌≡◌, ℕ, List, ◌+◌, ◌-◌, ◌++◌, take, Ok, Err, true, false, ap, sym, ◌∙◌, arith, rules}
use Rattle.link_wire.specs.Feeding.{head, is_short, is_partial}
use Rattle.link_wire.proofs.HeadLaws.{partial_nothing}
use Rattle.link_wire.proofs.PieceLaws.{ends_behind, within_body, within_head, bad_head, was_ok, whole}
use Rattle.link_wire.proofs.reader.take_piece.Goals as goal

pub overflow_sub-lacking : goal.overflow_sub-lacking
overflow_sub-lacking c =
    let h : ℕ × ℕ = (c.in-Ok.field-0-0, c.in-Ok.len) in
    let reads : head c.fill_head.new.have.items ≡ Ok h = ap head (sym c.as_slice.ensures.value) ∙ sym c.in-Ok.ensures.head in
    omega (arith, ends_behind h c.in_ok-rest.ensures.filled c.requires.partial reads)

pub returns-then-rest-lacking : goal.returns-then-rest-lacking
returns-then-rest-lacking c =
    let h : ℕ × ℕ = (c.in-Ok.field-0-0, c.in-Ok.len) in
    let filled = c.in_ok-rest.ensures.filled in
    let have = c.fill_head.new.have.items in
    let reads : head have ≡ Ok h = ap head (sym c.as_slice.ensures.value) ∙ sym c.in-Ok.ensures.head in
    let partial = within_body h filled reads (omega arith) in
    let new : c.extend_from_slice.new.self.items ≡ have ++ c.in_ok-rest.rest.now = search rules in
    record {
      fed = (partial, new ∙ filled.all, c.requires.empty);
      partial = ap is_partial (new ∙ filled.all) ∙ partial;
      err = search rules;
    }

pub returns-then-is_short : goal.returns-then-is_short
returns-then-is_short c =
    let reads : head c.fill_head.new.have.items ≡ Err c.in-Err.bad = ap head (sym c.as_slice.ensures.value) ∙ sym c.in-Err.ensures.head in
    let short : is_short c.in-Err.bad.why ≡ true = sym c.is_short.ensures ∙ c.if-is_short.true in
    let both = within_head c.in-Err.bad c.in_ok-rest.ensures.filled reads short in
    record {
      fed = (both.0, both.1, c.requires.empty);
      partial = ap is_partial both.1 ∙ both.0;
      err = search rules;
    }

pub returns-else-is_err-2 : goal.returns-else-is_err-2
returns-else-is_err-2 c =
    let h : ℕ × ℕ = (c.in-Ok.field-0-0, c.in-Ok.len) in
    let have = c.fill_head.new.have.items in
    let reads : head have ≡ Ok h = ap head (sym c.as_slice.ensures.value) ∙ sym c.in-Ok.ensures.head in
    let lacking = 6 + c.in-Ok.len - c.len.result in
    let front = take lacking c.in_ok-rest.rest.now in
    let put : c.put_both.new.out.items ≡ c.args.into.now.items ++ (c.as_slice-in-Ok.result.now ++ front) = was_ok _ c.put_both.result c.put_both.ensures (sym c.is_err-in-Ok.ensures.value ∙ c.if-is_err-2.false) in
    let into : c.put_both.new.out.items ≡ have ++ front = put ∙ ap (λ (i : List ℕ). i ++ (c.as_slice-in-Ok.result.now ++ front)) c.requires.empty ∙ ap (λ (i : List ℕ). i ++ front) c.as_slice-in-Ok.ensures.value in
    let w = whole c.put_both.new.out.items h lacking c.in_ok-rest.ensures.filled c.requires.partial reads (omega arith) (omega arith) into in
    record {
      fed = (h, w.reads, w.long, w.ends, w.gives, c.clear.ensures.items);
      partial = ap is_partial c.clear.ensures.items ∙ partial_nothing;
      err = search rules;
    }

pub returns-else-is_short : goal.returns-else-is_short
returns-else-is_short c =
    let reads : head c.fill_head.new.have.items ≡ Err c.in-Err.bad = ap head (sym c.as_slice.ensures.value) ∙ sym c.in-Err.ensures.head in
    let good : is_short c.in-Err.bad.why ≡ false = sym c.is_short.ensures ∙ c.if-is_short.false in
    record {
      fed = (bad_head c.in-Err.bad c.in_ok-rest.ensures.filled reads good, good, c.clear-in-Err.ensures.items, c.requires.empty);
      partial = ap is_partial c.clear-in-Err.ensures.items ∙ partial_nothing;
      err = search rules;
    }
