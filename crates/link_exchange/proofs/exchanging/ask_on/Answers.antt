use Rattle.std.proofs.Common.{◌∙◌, ap, subst, Some, arith}
use Rattle.link_exchange.specs.Calls.{Starves, Fails, Strays, AskedOnce}
use Rattle.link_exchange.specs.declared.asking.Heard.TheVariants as heards
use Rattle.link_exchange.specs.Ending.{course_of}
use Rattle.agent_terms.specs.declared.request.Request.TheVariants.{More}
use Rattle.link_exchange.proofs.Going.{grown_more, starves_at, goes_on_with, ended_with, strays_at, fails_at, fewer, if_err}
use Rattle.link_exchange.proofs.exchanging.ask_on.Goals as goal

pub returns-in_err-ask_once-clause-starved : goal.returns-in_err-ask_once-clause-starved
returns-in_err-ask_once-clause-starved g c =
    if_err c.from_residual.result
    (c.calls.invariant.tail Starves c.ask_once.new.link (starves_at g.L.Link c.args.renderer c.calls.link c.ask_once.new.link c.calls.replica _ More c.in_err-ask_once.ensures.starved))

pub returns-in_err-ask_once-clause-grown : goal.returns-in_err-ask_once-clause-grown
returns-in_err-ask_once-clause-grown g c = grown_more _ _ _ c.calls.invariant.grown c.ask_once.ensures.grown

pub calls-preserved : goal.calls-preserved
calls-preserved g c =
    record {
      tail = λ course m rest. c.calls.invariant.tail course m
          (goes_on_with g.L.Link c.args.renderer c.calls.link c.ask_once.new.link m c.calls.replica c.ask_once.new.replica _ More c.in-Told-default-true.outcome course (subst (λ x. AskedOnce g.L.Link c.calls.link c.calls.replica More x c.ask_once.new.link c.ask_once.new.replica) (c.in-Told-default-true.is ∙ ap (λ b. heards.Told c.in-Told-default-true.outcome b) c.in-Told-default-true.more-test) c.in_ok-ask_once.ensures.asked) rest);
      grown = grown_more _ _ _ c.calls.invariant.grown c.ask_once.ensures.grown;
    }

pub calls-smaller : goal.calls-smaller
calls-smaller g c =
    let f = fewer g.L.Link c.calls.link c.ask_once.new.link c.calls.replica c.ask_once.new.replica More c.in-Told-default-true.outcome (subst (λ x. AskedOnce g.L.Link c.calls.link c.calls.replica More x c.ask_once.new.link c.ask_once.new.replica) (c.in-Told-default-true.is ∙ ap (λ b. heards.Told c.in-Told-default-true.outcome b) c.in-Told-default-true.more-test) c.in_ok-ask_once.ensures.asked) in
    omega (arith, f.0, f.1)

pub returns-in-Told-default-false-clause-ended : goal.returns-in-Told-default-false-clause-ended
returns-in-Told-default-false-clause-ended g c =
    c.calls.invariant.tail (course_of c.ended.result c.ask_once.new.replica) c.ask_once.new.link
    (ended_with g.L.Link c.args.renderer c.calls.link c.ask_once.new.link c.calls.replica c.ask_once.new.replica (Some (record { outcome = c.args.outcome; older = c.args.older })) More c.in-Told-default-false.outcome c.ended.result (subst (λ x. AskedOnce g.L.Link c.calls.link c.calls.replica More x c.ask_once.new.link c.ask_once.new.replica) (c.in-Told-default-false.is ∙ ap (λ b. heards.Told c.in-Told-default-false.outcome b) c.in-Told-default-false.more-test) c.in_ok-ask_once.ensures.asked) c.ended.ensures)

pub returns-in-Told-default-false-clause-grown : goal.returns-in-Told-default-false-clause-grown
returns-in-Told-default-false-clause-grown g c = grown_more _ _ _ c.calls.invariant.grown c.ask_once.ensures.grown

pub returns-in-Failed-clause-ended : goal.returns-in-Failed-clause-ended
returns-in-Failed-clause-ended g c =
    c.calls.invariant.tail Fails c.ask_once.new.link
    (fails_at g.L.Link c.args.renderer c.calls.link c.ask_once.new.link c.calls.replica c.ask_once.new.replica _ More (subst (λ x. AskedOnce g.L.Link c.calls.link c.calls.replica More x c.ask_once.new.link c.ask_once.new.replica) (c.in-Failed.is) c.in_ok-ask_once.ensures.asked))

pub returns-in-Failed-clause-grown : goal.returns-in-Failed-clause-grown
returns-in-Failed-clause-grown g c = grown_more _ _ _ c.calls.invariant.grown c.ask_once.ensures.grown

pub returns-in-Stray-clause-ended : goal.returns-in-Stray-clause-ended
returns-in-Stray-clause-ended g c =
    c.calls.invariant.tail (Strays c.in-Stray.place) c.ask_once.new.link
    (strays_at g.L.Link c.args.renderer c.calls.link c.ask_once.new.link c.calls.replica c.ask_once.new.replica _ More c.in-Stray.place (subst (λ x. AskedOnce g.L.Link c.calls.link c.calls.replica More x c.ask_once.new.link c.ask_once.new.replica) (c.in-Stray.is) c.in_ok-ask_once.ensures.asked))

pub returns-in-Stray-clause-grown : goal.returns-in-Stray-clause-grown
returns-in-Stray-clause-grown g c = grown_more _ _ _ c.calls.invariant.grown c.ask_once.ensures.grown
