use Rattle.std.proofs.Common.{◌∙◌, ap, subst, true, false, Some, None}
use Rattle.link_exchange.specs.Calls.{Starves, AskedOnce, Exchanges}
use Rattle.agent_terms.specs.declared.request.Request.TheVariants.{More}
use Rattle.link_exchange.specs.declared.asking.Heard.TheVariants as heards
use Rattle.link_exchange.specs.Ending.{course_of, Whole}
use Rattle.link_exchange.proofs.Going.{grown_more, starves_at, goes_on_with, ended_with, strays_at, fails_at, answers_of, answered_on, whole_on, if_err, if_ok, err_if}
use Rattle.link_exchange.proofs.exchanging.converse.Goals as goal

pub returns-in_err-outcome-clause-starved : goal.returns-in_err-outcome-clause-starved
returns-in_err-outcome-clause-starved g c =
    if_err c.from_residual.result
    (starves_at g.L.Link c.args.renderer c.args.link.now c.ask_once.new.link c.args.replica.now None c.args.request.now c.in_err-outcome.ensures.starved)

pub returns-in-Told-default-true-clause-ended : goal.returns-in-Told-default-true-clause-ended
returns-in-Told-default-true-clause-ended g c =
    if_ok c.ask_on.result
    (λ end rest. goes_on_with g.L.Link c.args.renderer c.args.link.now c.ask_once.new.link c.ask_on.new.link c.args.replica.now c.ask_once.new.replica None c.args.request.now _ (course_of end c.ask_on.new.replica) (subst (λ x. AskedOnce g.L.Link c.args.link.now c.args.replica.now c.args.request.now x c.ask_once.new.link c.ask_once.new.replica) (c.in-Told-default-true.is ∙ ap (λ b. heards.Told c.in-Told-default-true.outcome b) c.in-Told-default-true.more-test) c.in_ok-outcome.ensures.asked)
    (subst (λ n. Exchanges g.L.Link c.args.renderer c.ask_once.new.link c.ask_once.new.replica (Some (record { outcome = c.in-Told-default-true.outcome; older = n })) More (course_of end c.ask_on.new.replica) c.ask_on.new.link) c.len-older.ensures.value rest))
    c.ask_on.ensures.ended

pub returns-in-Told-default-true-clause-starved : goal.returns-in-Told-default-true-clause-starved
returns-in-Told-default-true-clause-starved g c =
    err_if c.ask_on.result
    (λ rest. goes_on_with g.L.Link c.args.renderer c.args.link.now c.ask_once.new.link c.ask_on.new.link c.args.replica.now c.ask_once.new.replica None c.args.request.now _ Starves (subst (λ x. AskedOnce g.L.Link c.args.link.now c.args.replica.now c.args.request.now x c.ask_once.new.link c.ask_once.new.replica) (c.in-Told-default-true.is ∙ ap (λ b. heards.Told c.in-Told-default-true.outcome b) c.in-Told-default-true.more-test) c.in_ok-outcome.ensures.asked)
    (subst (λ n. Exchanges g.L.Link c.args.renderer c.ask_once.new.link c.ask_once.new.replica (Some (record { outcome = c.in-Told-default-true.outcome; older = n })) More Starves c.ask_on.new.link) c.len-older.ensures.value rest))
    c.ask_on.ensures.starved

pub returns-in-Told-default-true-clause-grown : goal.returns-in-Told-default-true-clause-grown
returns-in-Told-default-true-clause-grown g c = grown_more _ _ _ c.ask_once.ensures.grown c.ask_on.ensures.grown

pub returns-in-Told-default-true-clause-outcome : goal.returns-in-Told-default-true-clause-outcome
returns-in-Told-default-true-clause-outcome g c =
    if_ok c.ask_on.result
    (λ end told. answered_on c.args.request.now c.args.renderer c.ask_on.new.replica _ _ c.in-Told-default-true.outcome end
    (answers_of g.L.Link c.args.link.now c.ask_once.new.link c.args.replica.now c.ask_once.new.replica c.args.request.now c.in-Told-default-true.outcome true (subst (λ x. AskedOnce g.L.Link c.args.link.now c.args.replica.now c.args.request.now x c.ask_once.new.link c.ask_once.new.replica) (c.in-Told-default-true.is ∙ ap (λ b. heards.Told c.in-Told-default-true.outcome b) c.in-Told-default-true.more-test) c.in_ok-outcome.ensures.asked))
    c.len-older.ensures.value told)
    c.ask_on.ensures.outcome

pub returns-in-Told-default-false-clause-ended : goal.returns-in-Told-default-false-clause-ended
returns-in-Told-default-false-clause-ended g c =
    ended_with g.L.Link c.args.renderer c.args.link.now c.ask_once.new.link c.args.replica.now c.ask_once.new.replica None c.args.request.now c.in-Told-default-false.outcome c.ended.result
    (subst (λ x. AskedOnce g.L.Link c.args.link.now c.args.replica.now c.args.request.now x c.ask_once.new.link c.ask_once.new.replica) (c.in-Told-default-false.is ∙ ap (λ b. heards.Told c.in-Told-default-false.outcome b) c.in-Told-default-false.more-test) c.in_ok-outcome.ensures.asked)
    (subst (λ n. Whole c.args.renderer c.ask_once.new.replica n c.in-Told-default-false.outcome c.ended.result) c.len-older.ensures.value c.ended.ensures)

pub returns-in-Told-default-false-clause-outcome : goal.returns-in-Told-default-false-clause-outcome
returns-in-Told-default-false-clause-outcome g c =
    answered_on c.args.request.now c.args.renderer c.ask_once.new.replica _ _ c.in-Told-default-false.outcome c.ended.result
    (answers_of g.L.Link c.args.link.now c.ask_once.new.link c.args.replica.now c.ask_once.new.replica c.args.request.now c.in-Told-default-false.outcome false (subst (λ x. AskedOnce g.L.Link c.args.link.now c.args.replica.now c.args.request.now x c.ask_once.new.link c.ask_once.new.replica) (c.in-Told-default-false.is ∙ ap (λ b. heards.Told c.in-Told-default-false.outcome b) c.in-Told-default-false.more-test) c.in_ok-outcome.ensures.asked))
    c.len-older.ensures.value (whole_on c.args.renderer c.ask_once.new.replica _ c.in-Told-default-false.outcome c.ended.result c.ended.ensures)

pub returns-in-Failed-clause-ended : goal.returns-in-Failed-clause-ended
returns-in-Failed-clause-ended g c =
    fails_at g.L.Link c.args.renderer c.args.link.now c.ask_once.new.link c.args.replica.now c.ask_once.new.replica None c.args.request.now
    (subst (λ x. AskedOnce g.L.Link c.args.link.now c.args.replica.now c.args.request.now x c.ask_once.new.link c.ask_once.new.replica) (c.in-Failed.is) c.in_ok-outcome.ensures.asked)

pub returns-in-Stray-clause-ended : goal.returns-in-Stray-clause-ended
returns-in-Stray-clause-ended g c =
    strays_at g.L.Link c.args.renderer c.args.link.now c.ask_once.new.link c.args.replica.now c.ask_once.new.replica None c.args.request.now c.in-Stray.place
    (subst (λ x. AskedOnce g.L.Link c.args.link.now c.args.replica.now c.args.request.now x c.ask_once.new.link c.ask_once.new.replica) (c.in-Stray.is) c.in_ok-outcome.ensures.asked)
