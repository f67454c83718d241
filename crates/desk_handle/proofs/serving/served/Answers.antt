use Rattle.std.proofs.Common.{◌≡◌, Bool, true, ℕ, ◌+◌, ◌≤◌, ◌<◌, List, length, subst, sym, arith}
use Rattle.std.proofs.lemmas.Bool.{lt-ltb, le-leb}
use Rattle.std.specs.Bool.{MatchBool}
use Rattle.byte_answers.specs.Answers.{IsWritten}
use Rattle.frame_grammar.specs.Cut.{most_body}
use Rattle.desk_handle.specs.Calls.{IsSent, most_reply}
use Rattle.desk_handle.specs.Calls.IsReplied.{Replied}
use Rattle.desk_handle.proofs.Short.{short_reply}
use Rattle.desk_handle.proofs.serving.served.Goals as goal

yes : {b : Bool} (P Q : Type 0) → b ≡ true → P → MatchBool b P Q
yes P Q e p = subst (λ k. MatchBool k P Q) (sym e) p

pub returns-in-Ok : goal.returns-in-Ok
returns-in-Ok c =
    let before = c.args.reply.now in let after = c.write_out.new.out in let len = c.write_out.new.len in let answer = c.write_out.result in
    let reply : List ℕ = c.serve.new.reply.items in
    let written : IsWritten reply before after len answer = subst (λ xs. IsWritten xs before after len answer) c.as_slice.ensures.value c.write_out.ensures in
    let short : length reply ≤ most_reply = subst (λ xs. length xs ≤ 6 + most_body) (sym c.in-Ok.ensures.ok.answer) (short_reply _ _ _) in
    let room : most_reply ≤ length before = omega (arith, c.if-reply-lt-MOST_REPLY.false) in
    let fits = written.fits (omega (arith, short, room)) in
    let sent : IsSent reply before after len answer = record { done = fits.0; short = short; counted = written.counted; written = fits.1 } in
    let seat : c.args.renderer < c.args.desk.now.rules.renderers = omega (arith, c.if-renderer-renderers.false, c.renderers.ensures) in
    yes _ _ (lt-ltb _ _ seat) (yes _ _ (le-leb _ _ room) (Replied reply c.in-Ok.ensures.ok sent))
