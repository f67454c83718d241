use Rattle.std.proofs.Common.{arith}
use Rattle.origin_core.proofs.SiteLemmas.{last_label_len-le, starts_last_label}
use Rattle.origin_core.proofs.site.label_start.Goals as goal

pub overflow_sub-result : goal.overflow_sub-result
overflow_sub-result c = rw c.last_label_len.ensures (last_label_len-le _)

pub returns-clause-cut : goal.returns-clause-cut
returns-clause-cut c = rw c.last_label_len.ensures (starts_last_label c.args.host.now _ (omega arith))
