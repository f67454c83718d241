use Rattle.std.proofs.Common.{◌≡◌, ℕ, List, ◌++◌, length, ◌∙◌, ap}
use Rattle.reply_writing.specs.Bytes.{head, cleared}
use Rattle.reply_writing.proofs.Tellings.{begins}
use Rattle.reply_writing.proofs.writer.ReplyWriter.new.Goals as goal

pub invariant_of-result : goal.invariant_of-result
invariant_of-result c =
    let start : List ℕ = head c.args.outcome.now c.args.from in
    let front : c.put_head.new.out.items ≡ start = c.in_ok-put_head.ensures {u = tt} ∙ ap (λ xs. xs ++ start) c.new-bytes.ensures.items in
    let bytes : c.put_cleared.new.out.items ≡ start ++ cleared = c.in_ok-put_cleared.ensures {u = tt} ∙ ap (λ xs. xs ++ cleared) front in
    let place : c.len-more_at.result ≡ length start = c.len-more_at.ensures ∙ c.put_head.new.out.ok.0 ∙ ap length front in
    rw (c.of.ensures, c.of-2.ensures, c.new.ensures) (begins c.args.outcome.now c.args.from _ _ bytes place)
