-- Steps stay in range.
use Rattle.std.proofs.Common.{◌<◌, ℕ, List, subst}
use Rattle.window_props.specs.declared.value.Value.{Value}
use Rattle.window_props.specs.declared.platform.Object.{Object}
use Rattle.window_props.specs.History.{Store}
use Rattle.tree_log.specs.declared.entry.Entry.{Entry}
use Rattle.tree_log.specs.Admits.{AreAdmitted}
use Rattle.tree_log.specs.Tree.{tree_of}
use Rattle.agent_laws.specs.Sights.{sight_of}
use Rattle.agent_laws.proofs.Logs.Asked.{IsAskedBy, asked_by}
use Rattle.exchange_laws.specs.Fit.{AreFit}
use Rattle.step_ranges.specs.Ranges.{AreAtHand, StoresAtHand}
use Rattle.step_ranges.proofs.Logs.{limits_kept}
use Rattle.step_ranges.proofs.Reached.{IsSightInRange}
use Rattle.step_ranges.proofs.Changed.{answer_at_hand, asked_in_range, changed_at_hand}
use Rattle.step_ranges.proofs.laws.steps_stay_in_range.Goals as goal

sight_in_range : (log : List Entry) (registers : ℕ → List ℕ → Value) (stores : Object → Store) (d : ℕ)
    → AreAdmitted log → AreFit log → d < (tree_of log).docs → AreAtHand (tree_of log) registers → StoresAtHand (tree_of log) stores → IsSightInRange (sight_of log registers stores) d
sight_in_range log registers stores d all fit here holds there = record { kept = limits_kept log all fit; here = here; registers = holds; stores = there }

pub returns-clause-answers : goal.returns-clause-answers
returns-clause-answers c = λ log registers stores d s v all fit here holds there short is.
    answer_at_hand (sight_of log registers stores) d (sight_in_range log registers stores d all fit here holds there) s v short is

pub returns-clause-properties : goal.returns-clause-properties
returns-clause-properties c = λ log registers stores d s all fit here holds there short.
    changed_at_hand (sight_of log registers stores) d (sight_in_range log registers stores d all fit here holds there) s short

pub returns-clause-asks : goal.returns-clause-asks
returns-clause-asks c = λ log registers stores d s q all fit here holds there short is.
    asked_in_range (sight_of log registers stores) d (sight_in_range log registers stores d all fit here holds there) s q short is

pub returns-clause-asker : goal.returns-clause-asker
returns-clause-asker c = λ log registers stores d s q is. let by = subst (IsAskedBy d) is (asked_by (sight_of log registers stores) d s) in (by.other, by.asker)
