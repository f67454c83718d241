use Rattle.std.proofs.Common.{refl, ap, ℕ, List}
use Rattle.std.specs.Prelude.{option_copied}
use Rattle.window_props.specs.declared.platform.Object.{Object}
use Rattle.window_props.specs.declared.platform.Object.TheVariants as object
use Rattle.window_props.specs.History.{Store}
use Rattle.tree_log.specs.Tree.{Tree}
use Rattle.object_access.specs.Access.{Seen}
use Rattle.object_access.specs.LocationAccess.{location}
use Rattle.script_steps.specs.declared.operation.Operation.{Operation}
use Rattle.script_steps.specs.Stored.{stored}
use Rattle.script_steps.specs.Asked.{act_of, outcome_of, stores_left}
use Rattle.script_steps.proofs.OperationLaws.{reads, reads_leave, changes, leaves, undone}
use Rattle.script_steps.proofs.SuitLaws.{location_holds, suits_changed}
use Rattle.script_steps.proofs.agent.Agent.on_location.Goals as goal

pub returns-in-Read-clause-ok : goal.returns-in-Read-clause-ok
unfolding location
returns-in-Read-clause-ok g c =
    let t : Tree = g.V.View.tree c.args.self.now.view.now in
    let urls : ℕ → List ℕ = g.V.View.urls c.args.self.now.view.now in
    reads c.read_location.result t urls c.args.self.now.doc c.args.operation c.in-Read.reading (location t urls c.args.self.now.doc c.args.of) (object.Location c.args.of) c.args.stores.now (option_copied c.get.result)
    c.in-Read.is refl c.get.ensures c.read_location.ensures

pub returns-in-Read-clause-left : goal.returns-in-Read-clause-left
returns-in-Read-clause-left g c = reads_leave c.read_location.result c.args.operation c.in-Read.reading _ (stored c.args.stores.now) c.in-Read.is

pub returns-in_ok-props-in-Change-clause-ok : goal.returns-in_ok-props-in-Change-clause-ok
unfolding location
returns-in_ok-props-in-Change-clause-ok g c =
    let t : Tree = g.V.View.tree c.args.self.now.view.now in
    let urls : ℕ → List ℕ = g.V.View.urls c.args.self.now.view.now in
    let seen : Seen = location t urls c.args.self.now.doc c.args.of in
    let old : Object → Store = stored c.args.stores.now in
    changes c.change_location-outcome.result t urls c.args.self.now.doc c.args.operation c.in-Change.key.now c.in-Change.changing seen (object.Location c.args.of) c.in_ok-props-in-Change.props old
    (ap (λ (o : Operation). outcome_of t urls c.args.self.now.doc o seen (old seen.object)) c.in-Change.is) refl c.in_ok-props-in-Change.ensures.value c.change_location-outcome.ensures.ok

pub returns-in_ok-props-in-Change-clause-left : goal.returns-in_ok-props-in-Change-clause-left
unfolding location
returns-in_ok-props-in-Change-clause-left g c =
    let t : Tree = g.V.View.tree c.args.self.now.view.now in
    let urls : ℕ → List ℕ = g.V.View.urls c.args.self.now.view.now in
    let seen : Seen = location t urls c.args.self.now.doc c.args.of in
    let old : Object → Store = stored c.args.stores.now in
    leaves c.change_location-outcome.result c.args.operation c.in-Change.key.now c.in-Change.changing seen (object.Location c.args.of) c.in_ok-props-in-Change.props c.change_location-outcome.new.props old (stored c.take.new.self) (stored c.put.new.self)
    (ap (λ (o : Operation). stores_left o seen old) c.in-Change.is) refl c.in_ok-props-in-Change.ensures.value c.in_ok-props-in-Change.ensures.rest c.put.ensures c.change_location-outcome.ensures.left

pub returns-in_ok-props-in-Change-clause-err : goal.returns-in_ok-props-in-Change-clause-err
unfolding location
returns-in_ok-props-in-Change-clause-err g c =
    let t : Tree = g.V.View.tree c.args.self.now.view.now in
    let urls : ℕ → List ℕ = g.V.View.urls c.args.self.now.view.now in
    undone c.change_location-outcome.result (location t urls c.args.self.now.doc c.args.of) (object.Location c.args.of) c.in_ok-props-in-Change.props c.change_location-outcome.new.props (stored c.args.stores.now) (stored c.take.new.self) (stored c.put.new.self)
    refl c.in_ok-props-in-Change.ensures.value c.in_ok-props-in-Change.ensures.rest c.put.ensures c.change_location-outcome.ensures.err

pub change_location-outcome-requires-clause-store : goal.change_location-outcome-requires-clause-store
change_location-outcome-requires-clause-store g c = location_holds c.args.of c.in_ok-props-in-Change.props c.in-Change.key.now c.in_ok-props-in-Change.ensures.suits

pub put-requires-clause-suits : goal.put-requires-clause-suits
unfolding location
put-requires-clause-suits g c =
    let t : Tree = g.V.View.tree c.args.self.now.view.now in
    let urls : ℕ → List ℕ = g.V.View.urls c.args.self.now.view.now in
    suits_changed c.change_location-outcome.result (object.Location c.args.of) (location t urls c.args.self.now.doc c.args.of) c.in_ok-props-in-Change.props c.change_location-outcome.new.props c.in-Change.key.now (act_of c.in-Change.changing)
    c.change_location-outcome.ensures.left c.change_location-outcome.ensures.err c.in_ok-props-in-Change.ensures.suits
