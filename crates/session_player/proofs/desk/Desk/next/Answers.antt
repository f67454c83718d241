use Rattle.std.proofs.Common.{◌∙◌, sym, subst, arith, List}
use Rattle.single_agent.proofs.Admitted.{task_admitted}
use Rattle.session_player.proofs.Quiet.{next_commits, commit_quiet}
use Rattle.session_player.specs.Serves.{Tells, ledger}
use Rattle.session_player.proofs.desk.Desk.next.Goals as goal

pub append-requires-clause-admitted : goal.append-requires-clause-admitted
append-requires-clause-admitted g c =
    let next = sym c.next_event.ensures ∙ c.in-Some.is in
    task_admitted c.args.self.now.log.entries c.args.renderer c.in-Some.what c.args.self.now.admitted (omega (arith, c.if-len.false, c.len.ensures)) next

pub append-requires-clause-quiet : goal.append-requires-clause-quiet
append-requires-clause-quiet g c =
    commit_quiet c.in-Some.what (next_commits c.args.self.now.log.entries c.args.renderer c.in-Some.what c.args.self.now.quiet
    (sym c.next_event.ensures ∙ c.in-Some.is))

pub returns-in_ok-tell-in-None-clause-serves : goal.returns-in_ok-tell-in-None-clause-serves
returns-in_ok-tell-in-None-clause-serves g c = (
  omega (arith, c.if-len.false, c.len.ensures),
  sym c.next_event.ensures ∙ c.in-None.is,
  c.in_ok-tell-in-None.ensures.log,
  c.in_ok-tell-in-None.ensures.tells,
)

pub returns-in_ok-told-in-Some-clause-serves : goal.returns-in_ok-told-in-Some-clause-serves
returns-in_ok-told-in-Some-clause-serves g c = (
  omega (arith, c.if-len.false, c.len.ensures),
  c.in-Some.what,
  sym c.next_event.ensures ∙ c.in-Some.is,
  next_commits c.args.self.now.log.entries c.args.renderer c.in-Some.what c.args.self.now.quiet
      (sym c.next_event.ensures ∙ c.in-Some.is),
  c.in_ok-told-in-Some.ensures.log ∙ c.in_ok-append-in-Some.ensures.ok,
  c.len-place.ensures,
  subst (λ (told : List _). Tells c.args.renderer told (ledger c.tell-in-Some.new.self.log.entries c.tell-in-Some.new.self.told.items) c.in_ok-told-in-Some.told) c.append.ensures.told c.in_ok-told-in-Some.ensures.tells,
)
