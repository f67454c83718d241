use Rattle.std.proofs.Common.{length, take, ap, arith}
use Rattle.std.proofs.lemmas.Result.{err_from_is_err_and}
use Rattle.std.proofs.lemmas.List.{length-take}
use Rattle.link_fields.specs.Values.{value}
use Rattle.link_fields.proofs.FieldLaws.{IsBytes-take}
use Rattle.link_fields.proofs.SkipLaws.{lawful_shorter}
use Rattle.link_fields.proofs.ValueLaws.{value_law}
use Rattle.link_fields.proofs.DataLaws.{data_in_front, data_fails, data_refused}
use Rattle.link_fields.proofs.skipping.read_data.Goals as goal

pub overflow_sub-front : goal.overflow_sub-front
overflow_sub-front c =
    let read = rw c.front_of-front.ensures at c.in-Ok.ensures in
    let shorter = (lawful_shorter (value 16) (value_law 16) (take 4096 c.args.bytes.now) (c.in-Ok.value, c.in-Ok.rest.now) (IsBytes-take 4096 c.args.bytes.now (λ i. omega (arith, c.type_inv.bytes i))) read).0 in
    omega (arith, ap length c.front_of-front.ensures)

pub split_at-requires : goal.split_at-requires
split_at-requires c = omega (arith, ap length c.front_of-front.ensures, length-take 4096 c.args.bytes.now)

pub returns-in-Ok : goal.returns-in-Ok
returns-in-Ok c =
    let read = rw c.front_of-front.ensures at c.in-Ok.ensures in
    let all = data_in_front c.args.bytes.now c.in-Ok.value c.in-Ok.rest.now (λ i. omega (arith, c.type_inv.bytes i)) read in
    rw (c.split_at.ensures.back, c.front_of-front.ensures) all

pub returns-in_err-_behind-in-Err-Fault : goal.returns-in_err-_behind-in-Err-Fault
returns-in_err-_behind-in-Err-Fault c =
    let p = err_from_is_err_and c.from_residual.result c.from_residual.ensures.1 in
    let read = rw (c.front_of-front.ensures, c.in-Err-Fault.field-0-is) at c.in-Err-Fault.ensures in
    rw (p.1, p.2) (data_fails c.args.bytes.now c.in-Err-Fault.field-0-0 c.in_err-_behind-in-Err-Fault.field-0.0 (λ i. omega (arith, c.type_inv.bytes i)) read c.in_err-_behind-in-Err-Fault.ensures)

pub returns-in_ok-_behind-in-Err-Fault : goal.returns-in_ok-_behind-in-Err-Fault
returns-in_ok-_behind-in-Err-Fault c =
    let read = rw (c.front_of-front.ensures, c.in-Err-Fault.field-0-is) at c.in-Err-Fault.ensures in
    rw c.fault_here.ensures (data_refused c.args.bytes.now c.in-Err-Fault.field-0-0 c.in_ok-_behind-in-Err-Fault._behind.now (λ i. omega (arith, c.type_inv.bytes i)) read c.in_ok-_behind-in-Err-Fault.ensures)
