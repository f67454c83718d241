use Rattle.std.proofs.Common.{◌≡◌, ◌+◌, ◌≤◌, ◌<◌, ◌++◌, length, ap, arith}
use Rattle.std.specs.Option.{option_copied}
use Rattle.std.proofs.lemmas.List.{length-append}
use Rattle.tree_log.specs.declared.entry.Entry.{Entry}
use Rattle.frame_grammar.specs.Entries.{entry}
use Rattle.link_wire.specs.Shown.{entry_with}
use Rattle.reply_writing.specs.Writing.{writer_view}
use Rattle.reply_writing.proofs.Tellings.{tells, cuts, few}
use Rattle.reply_writing.proofs.writer.ReplyWriter.tell.Goals as goal

pub returns-then-len-gt-MOST_BYTES : goal.returns-then-len-gt-MOST_BYTES
returns-then-len-gt-MOST_BYTES c =
    let e : Entry = entry_with (option_copied c.args.url) c.args.entry.now in
    let spelled : c.put_entry.new.out.items ≡ c.self.inside.bytes.items ++ entry.spell e = c.in_ok-put_entry.ensures {u = tt} in
    let long : 65542 < length c.self.inside.bytes.items + length (entry.spell e) = omega (arith, ap length spelled, length-append c.self.inside.bytes.items (entry.spell e), c.put_entry.new.out.ok.0) in
    rw (← c.self.view_is) (cuts (writer_view c.self.inside) _ _ _ e c.self.invariant long)

pub overflow_add-result : goal.overflow_add-result
overflow_add-result c = let le : c.self.inside.count ≤ 65542 = few _ _ _ _ _ _ c.self.invariant in omega arith

pub returns : goal.returns
returns c =
    let e : Entry = entry_with (option_copied c.args.url) c.args.entry.now in
    let spelled : c.put_entry.new.out.items ≡ c.self.inside.bytes.items ++ entry.spell e = c.in_ok-put_entry.ensures {u = tt} in
    let fits : length c.self.inside.bytes.items + length (entry.spell e) ≤ 65542 = omega (arith, ap length spelled, length-append c.self.inside.bytes.items (entry.spell e), c.put_entry.new.out.ok.0) in
    rw (c.with.ensures, ← c.self.view_is) ((tells (writer_view c.self.inside) _ _ _ e c.self.invariant fits).1)
