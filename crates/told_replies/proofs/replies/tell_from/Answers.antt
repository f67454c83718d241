-- The reply starts, tells what is there, and is cut where there is no room or ends where the log does.
use Rattle.std.proofs.Common.{◌+◌, ◌<◌, ◌^◌, ◌++◌, length, arith}
use Rattle.std.proofs.lemmas.Bool.{not-true, not-false}
use Rattle.request_decisions.specs.Made.{entries_of}
use Rattle.told_replies.proofs.Places.{place_within, place_small}
use Rattle.told_replies.proofs.Steps.{starts, names_there, next_told, next_cut, all_told}
use Rattle.told_replies.proofs.replies.tell_from.Goals as goal

pub loop-entry-init : goal.loop-entry-init
loop-entry-init g c = starts c.args.outcome.now c.args.renderer c.args.from (entries_of c.args.made.now ++ c.args.log.now.entries) c.in_ok-writer.writer c.in_ok-writer.ensures

pub tell-requires-clause-within : goal.tell-requires-clause-within
tell-requires-clause-within g c =
    names_there (entries_of c.args.made.now ++ c.args.log.now.entries) (g.V.View.tree c.args.view.now) c.loop-entry.place c.in-Some.entry.now c.requires.tree c.requires.admitted c.in-Some.ensures

pub returns-then-not-next : goal.returns-then-not-next
returns-then-not-next g c =
    next_cut c.args.outcome.now c.args.renderer c.args.from (entries_of c.args.made.now ++ c.args.log.now.entries) (g.V.View.tree c.args.view.now)
    c.loop-entry.place c.loop-entry.writer c.in_ok-next.next.writer c.in-Some.entry.now c.in_ok-next.next.told
    c.requires.tree c.requires.admitted c.loop-entry.invariant c.in-Some.ensures c.in_ok-next.ensures (not-true _ c.if-not-next.true)

pub overflow_add-place : goal.overflow_add-place
overflow_add-place g c =
    let small : c.loop-entry.place + 1 < 2 ^ 32 = place_small c.args.made.now c.args.log.now.entries c.loop-entry.place c.in-Some.entry.now c.in-Some.ensures c.requires.few in
    omega arith

pub loop-entry-smaller : goal.loop-entry-smaller
loop-entry-smaller g c =
    let lt : c.loop-entry.place < length (entries_of c.args.made.now ++ c.args.log.now.entries) = place_within (entries_of c.args.made.now ++ c.args.log.now.entries) c.loop-entry.place c.in-Some.entry.now c.in-Some.ensures in
    omega arith

pub loop-entry-preserved : goal.loop-entry-preserved
loop-entry-preserved g c =
    next_told c.args.outcome.now c.args.renderer c.args.from (entries_of c.args.made.now ++ c.args.log.now.entries) (g.V.View.tree c.args.view.now)
    c.loop-entry.place c.loop-entry.writer c.in_ok-next.next.writer c.in-Some.entry.now c.in_ok-next.next.told
    c.requires.tree c.requires.admitted c.loop-entry.invariant c.in-Some.ensures c.in_ok-next.ensures (not-false _ c.if-not-next.false)

pub returns : goal.returns
returns g c =
    all_told c.args.outcome.now c.args.renderer c.args.from (entries_of c.args.made.now ++ c.args.log.now.entries) c.loop-entry.place c.loop-entry.writer c.requires.admitted c.loop-entry.invariant c.in_default.ensures
