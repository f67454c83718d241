use Rattle.std.proofs.Common.{◌≡◌, refl, sym, subst, true, ap, ℕ, List}
use Rattle.std.specs.Prelude.{option_copied}
use Rattle.window_props.specs.declared.platform.Object.{Object}
use Rattle.window_props.specs.History.{Store}
use Rattle.tree_log.specs.Tree.{Tree}
use Rattle.object_access.specs.Access.{Seen}
use Rattle.object_access.specs.WindowAccess.{window, window_of}
use Rattle.script_steps.specs.declared.operation.Operation.{Operation}
use Rattle.script_steps.specs.Kind.{suits}
use Rattle.script_steps.specs.Stored.{stored}
use Rattle.script_steps.specs.Asked.{outcome_of, stores_left}
use Rattle.script_steps.proofs.OperationLaws.{reads, reads_leave, changes, leaves, undone}
use Rattle.script_steps.proofs.agent.Agent.on_window.Goals as goal

pub returns-in-Read-clause-ok : goal.returns-in-Read-clause-ok
returns-in-Read-clause-ok g c =
    let t : Tree = g.V.View.tree c.args.self.now.view.now in
    let urls : ℕ → List ℕ = g.V.View.urls c.args.self.now.view.now in
    reads c.read_window.result t urls c.args.self.now.doc c.args.operation c.in-Read.reading (window t urls c.args.self.now.doc c.args.nav) c.window_of-object.result c.args.stores.now (option_copied c.get.result)
    c.in-Read.is c.window_of-object.ensures c.get.ensures c.read_window.ensures

pub returns-in-Read-clause-left : goal.returns-in-Read-clause-left
returns-in-Read-clause-left g c = reads_leave c.read_window.result c.args.operation c.in-Read.reading _ (stored c.args.stores.now) c.in-Read.is

pub returns-in_ok-props-in-Change-clause-ok : goal.returns-in_ok-props-in-Change-clause-ok
returns-in_ok-props-in-Change-clause-ok g c =
    let t : Tree = g.V.View.tree c.args.self.now.view.now in
    let urls : ℕ → List ℕ = g.V.View.urls c.args.self.now.view.now in
    let seen : Seen = window t urls c.args.self.now.doc c.args.nav in
    let old : Object → Store = stored c.args.stores.now in
    changes c.change_window-outcome.result t urls c.args.self.now.doc c.args.operation c.in-Change.key.now c.in-Change.changing seen c.window_of-object.result c.in_ok-props-in-Change.props old
    (ap (λ (o : Operation). outcome_of t urls c.args.self.now.doc o seen (old seen.object)) c.in-Change.is) c.window_of-object.ensures c.in_ok-props-in-Change.ensures.value c.change_window-outcome.ensures.ok

pub returns-in_ok-props-in-Change-clause-left : goal.returns-in_ok-props-in-Change-clause-left
returns-in_ok-props-in-Change-clause-left g c =
    let t : Tree = g.V.View.tree c.args.self.now.view.now in
    let urls : ℕ → List ℕ = g.V.View.urls c.args.self.now.view.now in
    let seen : Seen = window t urls c.args.self.now.doc c.args.nav in
    let old : Object → Store = stored c.args.stores.now in
    leaves c.change_window-outcome.result c.args.operation c.in-Change.key.now c.in-Change.changing seen c.window_of-object.result c.in_ok-props-in-Change.props c.change_window-outcome.new.props old (stored c.take.new.self) (stored c.put.new.self)
    (ap (λ (o : Operation). stores_left o seen old) c.in-Change.is) c.window_of-object.ensures c.in_ok-props-in-Change.ensures.value c.in_ok-props-in-Change.ensures.rest c.put.ensures c.change_window-outcome.ensures.left

pub returns-in_ok-props-in-Change-clause-err : goal.returns-in_ok-props-in-Change-clause-err
returns-in_ok-props-in-Change-clause-err g c =
    let t : Tree = g.V.View.tree c.args.self.now.view.now in
    let urls : ℕ → List ℕ = g.V.View.urls c.args.self.now.view.now in
    undone c.change_window-outcome.result (window t urls c.args.self.now.doc c.args.nav) c.window_of-object.result c.in_ok-props-in-Change.props c.change_window-outcome.new.props (stored c.args.stores.now) (stored c.take.new.self) (stored c.put.new.self)
    c.window_of-object.ensures c.in_ok-props-in-Change.ensures.value c.in_ok-props-in-Change.ensures.rest c.put.ensures c.change_window-outcome.ensures.err

pub put-requires-clause-suits : goal.put-requires-clause-suits
unfolding window_of
put-requires-clause-suits g c = subst (λ (o : Object). suits o c.change_window-outcome.new.props ≡ true) (sym c.window_of-object.ensures) refl
