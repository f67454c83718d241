use Rattle.std.proofs.Common.{subst, None}
use Rattle.link_exchange.specs.Calls.{Exchanges}
use Rattle.link_exchange.specs.Ending.{course_of}
use Rattle.link_exchange.proofs.Courses.{rose_where_failed, strays_untold, told_knows}
use Rattle.link_exchange.proofs.Going.{if_ok}
use Rattle.link_exchange.proofs.exchanging.exchange.Goals as goal

pub returns-clause-failed : goal.returns-clause-failed
returns-clause-failed g c =
    if_ok c.converse.result
    (λ end calls is. rose_where_failed g.L.Link c.args.renderer c.args.link.now c.converse.new.link c.args.replica.now None c.args.request.now
    (subst (λ e. Exchanges g.L.Link c.args.renderer c.args.link.now c.args.replica.now None c.args.request.now (course_of e c.converse.new.replica) c.converse.new.link) is calls))
    c.converse.ensures.ended

pub returns-clause-strayed : goal.returns-clause-strayed
returns-clause-strayed g c = λ fits fit knows.
    if_ok c.converse.result
    (λ end calls place is. strays_untold g.L.Link c.args.renderer c.args.link.now c.converse.new.link c.args.replica.now None c.args.request.now place fits fit knows
    (subst (λ e. Exchanges g.L.Link c.args.renderer c.args.link.now c.args.replica.now None c.args.request.now (course_of e c.converse.new.replica) c.converse.new.link) is calls))
    c.converse.ensures.ended

pub returns-clause-known : goal.returns-clause-known
returns-clause-known g c = λ fits knows.
    if_ok c.converse.result
    (λ end calls outcome is. told_knows g.L.Link c.args.renderer c.args.link.now c.converse.new.link c.args.replica.now c.converse.new.replica None c.args.request.now outcome fits knows
    (subst (λ e. Exchanges g.L.Link c.args.renderer c.args.link.now c.args.replica.now None c.args.request.now (course_of e c.converse.new.replica) c.converse.new.link) is calls))
    c.converse.ensures.ended
