-- A step that asks.
use Rattle.std.proofs.Common.{List, ◌++◌, sym, subst}
use Rattle.tree_log.specs.declared.entry.Entry.{Entry}
use Rattle.tree_log.specs.Admits.{AreAdmitted}
use Rattle.coordinator_rules.specs.Decision.{rules_of}
use Rattle.single_agent.proofs.Legal.{acts_within}
use Rattle.agent_laws.proofs.Logs.Admitted.{exchange_admitted}
use Rattle.renderer_laws.proofs.Kept.{kept_asking}
use Rattle.renderer_laws.proofs.kept_laws.a_renderer_keeps_a_step_that_asks.Goals as goal

pub returns : goal.returns
returns c s r log own acts told doc point op q given w v legal k left moves props next entries gives is =
    kept_asking s r log own acts told doc point op q given w v legal.admitted
    (subst (λ (es : List Entry). AreAdmitted (es ++ log)) (sym entries) (exchange_admitted (rules_of s) log r q legal.admitted legal.short))
    (acts_within s r log acts legal.record_is.0 legal.record_is.1) k left moves props next entries gives is
