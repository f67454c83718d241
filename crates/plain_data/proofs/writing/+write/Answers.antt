use Rattle.std.proofs.Common.{◌≡◌, [], ◌∷◌, ◌++◌, ap, sym, ◌∙◌, rules, string_bytes}
use Rattle.std.proofs.lemmas.Result.{on_ok_weaker}
use Rattle.json.specs.Print.{quoted}
use Rattle.plain_data.specs.DataText.{data_text, field_text, record_text}
use Rattle.plain_data.proofs.Texts.{data_text-Record, pieces-more, item_written, member_written, braced}
use Rattle.plain_data.proofs.writing.+write.Goals as goal

pub write-returns-in_ok-write_members-in-Record : goal.write-returns-in_ok-write_members-in-Record
write-returns-in_ok-write_members-in-Record t c =
    let opened : string_bytes c.put.new.out ≡ string_bytes c.args.out.now ++ 123 ∷ [] = c.in_ok-put-in-Record.ensures {u = tt} in
    let filled : string_bytes c.write_members.new.out ≡ string_bytes c.put.new.out ++ record_text c.in-Record.members = search rules in
    on_ok_weaker c.put-in-Record.result (λ e. braced _ _ _ _ _ opened filled e ∙ ap (λ text. string_bytes c.args.out.now ++ text) (sym (data_text-Record c.in-Record.members) ∙ ap data_text (sym c.in-Record.is))) c.put-in-Record.ensures

pub write_items-loop-i-preserved : goal.write_items-loop-i-preserved
write_items-loop-i-preserved t c =
    let more = pieces-more data_text c.args.items.now c.loop-i.i c.index-items-i.result c.loop-i-test.true in
    item_written _ _ _ _ _ _ _ _ c.loop-i.invariant (c.in_ok-separate.ensures {u = tt}) (c.in_ok-write.ensures {u = tt} ∙ ap (λ d. string_bytes c.separate.new.out ++ data_text d) c.index-items-i.is) more

pub write_members-loop-i-preserved : goal.write_members-loop-i-preserved
write_members-loop-i-preserved t c =
    let more = pieces-more field_text c.args.members.now c.loop-i.i c.index-members-i.result c.loop-i-test.true in
    let named : string_bytes c.put.new.out ≡ string_bytes c.separate.new.out ++ quoted c.index-members-i.result.0 = search rules in
    let coloned : string_bytes c.put-in-loop-i.new.out ≡ string_bytes c.put.new.out ++ 58 ∷ [] = c.in_ok-put-2.ensures {u = tt} in
    let valued : string_bytes c.write.new.out ≡ string_bytes c.put-in-loop-i.new.out ++ data_text c.index-members-i.result.1 = c.in_ok-write.ensures {u = tt} in
    item_written _ _ _ _ _ _ _ _ c.loop-i.invariant (c.in_ok-separate.ensures {u = tt})
    (member_written _ _ _ _ _ _ named coloned valued ∙ ap (λ f. string_bytes c.separate.new.out ++ field_text f) c.index-members-i.is) more
