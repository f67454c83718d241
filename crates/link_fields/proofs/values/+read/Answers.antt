use Rattle.std.proofs.Common.{None}
use Rattle.std.specs.Option.{option_copied}
use Rattle.std.proofs.lemmas.Result.{err_from_is_err_and}
use Rattle.link_fields.specs.Values.{value, items_at, members_at}
use Rattle.link_fields.proofs.Loops.{goes_on, ends, is_done, members_go_on, members_end, members_done, key_fails, value_fails, member_reads}
use Rattle.link_fields.proofs.values.+read.Goals as goal

pub read_items-returns-in_err-item : goal.read_items-returns-in_err-item
read_items-returns-in_err-item t c =
    let p = err_from_is_err_and c.from_residual.result c.from_residual.ensures.1 in
    rw (p.1, p.2) (ends c.in_err-item.field-0.0 (value c.args.depth).read c.loop.items c.args.count c.loop.counter c.loop.rest.now (items_at (value c.args.depth).read c.args.count c.args.bytes.now) c.loop-test.true c.in_err-item.ensures c.loop.invariant)

pub read_items-loop-preserved : goal.read_items-loop-preserved
read_items-loop-preserved t c =
    rw (c.in_ok-push.ensures.ok) (goes_on (value c.args.depth).read c.loop.items c.args.count c.loop.counter c.loop.rest.now c.in_ok-item.item c.in_ok-item.after.now (items_at (value c.args.depth).read c.args.count c.args.bytes.now) c.loop-test.true c.in_ok-item.ensures c.loop.invariant)

pub read_items-returns : goal.read_items-returns
read_items-returns t c = is_done (value c.args.depth).read c.loop.items c.args.count c.loop.counter c.loop.rest.now (items_at (value c.args.depth).read c.args.count c.args.bytes.now) c.loop-test.false c.loop.invariant

pub read_members-returns-in_err-key : goal.read_members-returns-in_err-key
read_members-returns-in_err-key t c =
    let p = err_from_is_err_and c.from_residual.result c.from_residual.ensures.1 in
    rw (p.1, p.2) (members_end c.in_err-key.field-0.0 (value c.args.depth) c.loop.members c.args.count c.loop.counter (option_copied c.loop.before) c.loop.rest.now (members_at (value c.args.depth) c.args.count None c.args.bytes.now) c.loop-test.true
    (key_fails c.in_err-key.field-0.0 (value c.args.depth) (option_copied c.loop.before) c.loop.rest.now c.in_err-key.ensures) c.loop.invariant)

pub read_members-returns-in_err-value : goal.read_members-returns-in_err-value
read_members-returns-in_err-value t c =
    let p = err_from_is_err_and c.from_residual-in_err-value.result c.from_residual-in_err-value.ensures.1 in
    rw (p.1, p.2) (members_end c.in_err-value.field-0.0 (value c.args.depth) c.loop.members c.args.count c.loop.counter (option_copied c.loop.before) c.loop.rest.now (members_at (value c.args.depth) c.args.count None c.args.bytes.now) c.loop-test.true
    (value_fails c.in_err-value.field-0.0 (value c.args.depth) (option_copied c.loop.before) c.loop.rest.now c.in_ok-key.key.now c.in_ok-key.after.now c.in_ok-key.ensures c.in_err-value.ensures) c.loop.invariant)

pub read_members-loop-preserved : goal.read_members-loop-preserved
read_members-loop-preserved t c =
    rw (c.in_ok-push.ensures.ok, c.in_ok-copy_of.ensures) (members_go_on (value c.args.depth) c.loop.members c.args.count c.loop.counter (option_copied c.loop.before) c.loop.rest.now (c.in_ok-key.key.now, c.in_ok-value.value) c.in_ok-value.after.now (members_at (value c.args.depth) c.args.count None c.args.bytes.now) c.loop-test.true
    (member_reads (value c.args.depth) (option_copied c.loop.before) c.loop.rest.now c.in_ok-key.key.now c.in_ok-key.after.now c.in_ok-value.value c.in_ok-value.after.now c.in_ok-key.ensures c.in_ok-value.ensures) c.loop.invariant)

pub read_members-returns : goal.read_members-returns
read_members-returns t c = members_done (value c.args.depth) c.loop.members c.args.count c.loop.counter (option_copied c.loop.before) c.loop.rest.now (members_at (value c.args.depth) c.args.count None c.args.bytes.now) c.loop-test.false c.loop.invariant
