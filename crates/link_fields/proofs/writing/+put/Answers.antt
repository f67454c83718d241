use Rattle.std.proofs.Common.{◌≡◌, ◌++◌, length, rules}
use Rattle.std.proofs.lemmas.Result.{on_ok_weaker}
use Rattle.std.specs.Prelude.{OnOk}
use Rattle.link_fields.specs.Basic.{u16}
use Rattle.link_fields.specs.Values.{whole}
use Rattle.link_fields.proofs.Puts.{spell_whole, spell_text, spell_list, spell_record, two_written, three_written}
use Rattle.link_fields.proofs.writing.+put.Goals as goal

pub put_value-returns-in_ok-put_u8-in-Whole : goal.put_value-returns-in_ok-put_u8-in-Whole
put_value-returns-in_ok-put_u8-in-Whole t c =
    let inside : OnOk c.put_whole.result (c.put_whole.new.out.items ≡ c.put_u8-in-Whole.new.out.items ++ whole.spell c.in-Whole.whole) = search rules in
    on_ok_weaker c.put_whole.result (λ e. two_written _ _ _ _ _ _ (c.in_ok-put_u8-in-Whole.ensures {u = tt}) (spell_whole c.args.depth c.args.value.now c.in-Whole.whole c.if-depth-eq0.false c.in-Whole.is) e) inside

pub put_value-returns-in_ok-put_u8-in-Text : goal.put_value-returns-in_ok-put_u8-in-Text
put_value-returns-in_ok-put_u8-in-Text t c =
    on_ok_weaker c.put_text.result (λ e. two_written _ _ _ _ _ _ (c.in_ok-put_u8-in-Text.ensures {u = tt}) (spell_text c.args.depth c.args.value.now c.in-Text.text c.if-depth-eq0.false c.in-Text.is) e) c.put_text.ensures

pub put_value-returns-in_ok-put_count-in-List : goal.put_value-returns-in_ok-put_count-in-List
put_value-returns-in_ok-put_count-in-List t c =
    let count : c.put_count.new.out.items ≡ c.put_u8-in-List.new.out.items ++ u16.spell (length c.in-List.items) = search rules in
    on_ok_weaker c.put_items.result (λ e. three_written _ _ _ _ _ _ _ _ (c.in_ok-put_u8-in-List.ensures {u = tt}) count (spell_list c.args.depth c.args.value.now c.in-List.items c.if-depth-eq0.false c.in-List.is) e) (rw c.as_slice.ensures at c.put_items.ensures)

pub put_value-returns-in_ok-put_count-in-Record : goal.put_value-returns-in_ok-put_count-in-Record
put_value-returns-in_ok-put_count-in-Record t c =
    let count : c.put_count-in-Record.new.out.items ≡ c.put_u8-in-Record.new.out.items ++ u16.spell (length c.in-Record.members) = search rules in
    on_ok_weaker c.put_members.result (λ e. three_written _ _ _ _ _ _ _ _ (c.in_ok-put_u8-in-Record.ensures {u = tt}) count (spell_record c.args.depth c.args.value.now c.in-Record.members c.if-depth-eq0.false c.in-Record.is) e) (rw c.as_slice-in-Record.ensures at c.put_members.ensures)
