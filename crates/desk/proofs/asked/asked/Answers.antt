use Rattle.std.proofs.Common.{ap, arith}
use Rattle.tree_log.proofs.Admitted.{few_of}
use Rattle.tree_log.specs.Tree.{Tree}
use Rattle.desk.proofs.asked.asked.Goals as goal

pub decide-requires-clause-few : goal.decide-requires-clause-few
decide-requires-clause-few g c =
    let n = ap (λ (t : Tree). t.docs) c.requires.rows.tree_is in
    let few = (few_of c.args.log.now.entries).docs in
    let short = c.requires.few in
    omega arith
