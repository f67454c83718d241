use Rattle.std.proofs.Common.{◌≡◌, ◌+◌, ◌*◌, length, vec_len}
use Rattle.link_fields.specs.Values.{value}
use Rattle.link_fields.specs.Skipping.{due, stacked, rest_of, AreDeep}
use Rattle.link_fields.proofs.skipping.skip_value.Given as goal

abbrev pub invariant-loop-top : goal.invariant-loop-top
invariant-loop-top l = record {
  due : due (stacked l.stack.items) l.rest ≡ rest_of ((value (16 + length l.bytes)).read l.bytes);
  deep : AreDeep (length l.rest) (stacked l.stack.items);
}

abbrev pub decreases-loop-top : goal.decreases-loop-top
decreases-loop-top l = 2 * length l.rest + vec_len l.stack
