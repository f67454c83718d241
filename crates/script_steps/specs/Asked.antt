-- What is asked of an object, and what is done on it, as definitions of access.
use Rattle.std.specs.Prelude.{ℕ, List}
use Rattle.window_props.specs.declared.key.Key.{Key}
use Rattle.window_props.specs.declared.platform.Object.{Object}
use Rattle.window_props.specs.Ordinary.{Act, Define, Set, Delete}
use Rattle.window_props.specs.History.{Store}
use Rattle.tree_log.specs.Tree.{Tree}
use Rattle.agent_terms.specs.declared.outcome.Outcome.{Outcome}
use Rattle.object_access.specs.Access as access
use Rattle.object_access.specs.Access.{Seen, store_left}
use Rattle.object_access.specs.Methods.{called}
use Rattle.object_access.specs.StepAnswer.{Sight, changed_at}
use Rattle.script_steps.specs.declared.operation.Operation.{Operation}
use Rattle.script_steps.specs.declared.operation.Operation.TheVariants.{Read, Change}
use Rattle.script_steps.specs.declared.operation.Reading.{Reading}
use Rattle.script_steps.specs.declared.operation.Reading.TheVariants as reading
use Rattle.script_steps.specs.declared.operation.Changing.{Changing}
use Rattle.script_steps.specs.declared.operation.Changing.TheVariants as changing
use Rattle.script_steps.specs.Stored.{placed}

abbrev pub asked : Tree → (ℕ → List ℕ) → ℕ → Reading → Seen → Store → Outcome
asked t urls asker (reading.Get key) seen store = access.got seen store key.now
asked t urls asker (reading.Has key) seen store = access.has seen store key.now
asked t urls asker (reading.Describe key) seen store = access.described seen store key.now
asked t urls asker reading.Keys seen store = access.keys seen store
asked t urls asker reading.Proto seen store = access.prototype seen
asked t urls asker reading.SetProto seen store = access.prototype_set seen
asked t urls asker reading.Extensible seen store = access.extensible seen
asked t urls asker reading.Prevent seen store = access.prevented seen
asked t urls asker (reading.Call key args) seen store = called t urls asker seen store key.now args.now

abbrev pub act_of : Changing → Act
act_of (changing.Set v) = Set v
act_of (changing.Define change) = Define change
act_of changing.Delete = Delete

abbrev pub done : Changing → Seen → Store → Key → Outcome
done (changing.Set v) seen store key = access.set seen store key v
done (changing.Define change) seen store key = access.defined seen store key change
done changing.Delete seen store key = access.deleted seen store key

-- what an operation comes to on an object as it is met
abbrev pub outcome_of : Tree → (ℕ → List ℕ) → ℕ → Operation → Seen → Store → Outcome
outcome_of t urls asker (Read reading) seen store = asked t urls asker reading seen store
outcome_of t urls asker (Change key changing) seen store = done changing seen store key.now

-- the properties of objects after an operation on one of them
abbrev pub stores_left : Operation → Seen → (Object → Store) → Object → Store
stores_left (Read reading) seen stores = stores
stores_left (Change key changing) seen stores = placed seen.object (store_left seen (stores seen.object) key.now (act_of changing)) stores

-- the properties of objects after an operation on what a register of the document holds
abbrev pub stores_after : Operation → Sight → ℕ → List ℕ → Object → Store
stores_after (Read reading) s d of = s.stores
stores_after (Change key changing) s d of = changed_at s d of key.now (act_of changing)
