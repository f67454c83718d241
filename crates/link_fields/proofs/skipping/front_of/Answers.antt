use Rattle.std.proofs.Common.{sym}
use Rattle.std.proofs.lemmas.List.{take_all}
use Rattle.link_fields.proofs.skipping.front_of.Goals as goal

pub returns-then-bytes-le-MAX_SIZE : goal.returns-then-bytes-le-MAX_SIZE
returns-then-bytes-le-MAX_SIZE c = sym (take_all 4096 c.args.bytes.now c.if-bytes-le-MAX_SIZE.true)
