use Rattle.desk.proofs.Fitting.{range_turned}
use Rattle.desk.proofs.ledger.know_range.Goals as goal

pub returns : goal.returns
returns c = range_turned c.entries-entries.result.now c.args.log.now.entries c.entries-entries.ensures.value c.entries-entries.ensures.range
