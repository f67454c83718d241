use Rattle.std.proofs.lemmas.Result.{on_ok_weaker}
use Rattle.task_index.proofs.Rows.{set_kept, set_there}
use Rattle.task_index.proofs.places.put_at.Goals as goal

pub returns-clause-kept : goal.returns-clause-kept
returns-clause-kept c = set_kept c.args.rows.now.items c.args.renderer c.index_mut-row.result.now c.put.new.self c.index_mut-row.ensures.value c.put.ensures.kept

pub returns-clause-there : goal.returns-clause-there
returns-clause-there c = on_ok_weaker c.put.result (set_there c.args.rows.now.items c.args.renderer c.args.place c.put.new.self c.requires) c.put.ensures.there
