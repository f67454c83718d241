use Rattle.std.proofs.Common.{List, Bool, ap}
use Rattle.std.specs.BTreeMap.{is_at}
use Rattle.std.specs.List.{list_any}
use Rattle.std.specs.Map.{lookup}
use Rattle.std.specs.Ordering.{nat_cmp}
use Rattle.task_index.specs.Fed.{are_ordered, over_at, same_end}
use Rattle.task_index.proofs.FirstTasks.{none_at_start}
use Rattle.task_index.proofs.Over.{none_posted}
use Rattle.task_index.proofs.waiting.Waiting.new.Goals as goal

pub returns : goal.returns
returns c = record {
  over = λ to post h. absurd (none_posted to post h);
  early = λ to post le. ap (list_any (same_end (to, post))) c.new-3.ensures.empty;
  unset = λ post le. ap (λ (xs : List Bool). over_at xs post) c.new-2.ensures.items;
  closings = λ nav. ap (lookup (is_at (nat_cmp nav))) c.new-4.ensures.empty;
  order = ap are_ordered c.new.ensures.items;
  tasks = λ r. none_at_start r _;
}
