use Rattle.std.proofs.Common.{◌≡◌, ◌∙◌, ◌++◌, reverse, true, false, ap, sym, subst, Err, length, ◌≤◌, ◌+◌}
use Rattle.link_wire.specs.Links.{are_admitted, most_heard}
use Rattle.link_wire.specs.Bad.{Fails}
use Rattle.link_wire.specs.Replies.{reply_of}
use Rattle.link_exchange.specs.Hearing.{Unreadable}
use Rattle.link_exchange.proofs.Taking.{at_length, unfit, unheard, heard_of, room_of, tells_some}
use Rattle.link_exchange.proofs.asking.take_in.Goals as goal

pub returns-in-Err-Bad-clause-taken : goal.returns-in-Err-Bad-clause-taken
returns-in-Err-Bad-clause-taken g c =
    let none : reply_of c.args.bytes.now ≡ Err c.in-Err-Bad.bad = subst (λ x. Fails x (reply_of c.args.bytes.now)) c.in-Err-Bad.field-0-is c.in-Err-Bad.ensures.exact in
    λ r pending. Unreadable c.in-Err-Bad.bad none

pub returns-then-not-fits-clause-taken : goal.returns-then-not-fits-clause-taken
returns-then-not-fits-clause-taken g c =
    let test : c.fits.result ≡ false = search in
    unfit c.args.replica.now c.args.request.now c.args.bytes.now c.in-Ok.reply c.in-Ok.ensures.exact (at_length c.args.replica.now c.args.request.now c.in-Ok.reply c.len.result _ c.len.ensures.value (sym c.fits.ensures ∙ test))

pub hear_all-requires-clause-room : goal.hear_all-requires-clause-room
hear_all-requires-clause-room g c =
    let test : c.fits.result ≡ true = search in
    subst (λ n. length c.args.replica.now + length n ≤ most_heard) (sym (ap (λ x. x.news) c.reply.view_is))
    (room_of c.args.replica.now c.args.request.now c.in-Ok.reply (at_length c.args.replica.now c.args.request.now c.in-Ok.reply c.len.result _ c.len.ensures.value (sym c.fits.ensures ∙ test)))

pub returns-then-not-branch-clause-taken : goal.returns-then-not-branch-clause-taken
returns-then-not-branch-clause-taken g c =
    let refused : c.in_ok-hear_all.field-0 ≡ false = search in
    unheard c.args.replica.now c.args.request.now c.args.bytes.now c.in-Ok.reply c.in-Ok.ensures.exact
    (sym (ap (λ x. are_admitted c.args.replica.now x.news) c.reply.view_is) ∙ sym c.in_ok-hear_all.ensures.follow ∙ refused)

pub returns-clause-taken : goal.returns-clause-taken
returns-clause-taken g c =
    let test : c.fits.result ≡ true = search in
    let follows : c.in_ok-hear_all.field-0 ≡ true = search in
    let v = c.reply.view_is in
    let admitted = sym (ap (λ x. are_admitted c.args.replica.now x.news) v) ∙ sym c.in_ok-hear_all.ensures.follow ∙ follows in (
      c.in-Ok.reply,
      c.in-Ok.ensures.exact,
      sym (ap (λ x. x.outcome) v),
      sym (ap (λ x. x.more) v),
      heard_of c.args.replica.now c.args.request.now c.in-Ok.reply (at_length c.args.replica.now c.args.request.now c.in-Ok.reply c.len.result _ c.len.ensures.value (sym c.fits.ensures ∙ test)) admitted,
      c.in_ok-hear_all.ensures.heard follows ∙ ap (λ x. reverse x.news ++ c.args.replica.now) v,
      λ more. tells_some c.in-Ok.reply c.in-Ok.ensures.found.0 (sym (ap (λ x. x.more) v) ∙ more),
    )
