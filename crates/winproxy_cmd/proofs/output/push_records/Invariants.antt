use Rattle.std.proofs.Common.{◌≡◌, ◌++◌, string_bytes, take}
use Rattle.std.specs.List.{flat_map}
use Rattle.winproxy_cmd.proofs.Records.{worker_words}
use Rattle.winproxy_cmd.proofs.output.push_records.Given as goal

abbrev pub invariant-workers : goal.invariant-workers
invariant-workers g l = string_bytes l.out ≡ string_bytes l.fn.out ++ flat_map worker_words (take l.worker-index l.workers)
