use Rattle.std.proofs.Common.{ℕ, List, ◌++◌, ◌∙◌, ap, sym}
use Rattle.std.specs.Option.{option_copied}
use Rattle.std.proofs.lemmas.Result.{on_ok_weaker}
use Rattle.link_fields.specs.Basic.{u8, u16, u32, optional}
use Rattle.tree_log.specs.declared.entry.What.{What}
use Rattle.frame_grammar.specs.Entries.{entry, what_tag}
use Rattle.link_wire.specs.Shown.{what_with}
use Rattle.link_wire.proofs.EntryLaws.{what_is}
use Rattle.link_wire.proofs.ShownLaws.{same_tag}
use Rattle.link_wire.proofs.Writes.{two_put}
use Rattle.link_wire.proofs.entry_writing.put_entry.Goals as goal

pub returns : goal.returns
unfolding entry
returns c =
    let old : List ℕ = c.args.out.now.items in
    let w : What = what_with (option_copied c.args.url) c.args.entry.now.what in
    let by : List ℕ = (optional u16).spell c.args.entry.now.by in
    let actor : List ℕ = (optional u32).spell c.args.entry.now.actor in
    let tag : List ℕ = u8.spell (what_tag w) in
    on_ok_weaker c.put_what.result (λ e.
    two_put old _ _ tag _ (c.in_ok-put_u8.ensures {u = tt} ∙ ap (λ n. old ++ u8.spell n) (c.what_tag.ensures ∙ sym (same_tag (option_copied c.args.url) c.args.entry.now.what)))
    (two_put _ _ _ by _ (c.in_ok-put_optional_u16.ensures {u = tt})
    (two_put _ _ _ actor _ (c.in_ok-put_optional_u32.ensures {u = tt}) e))
    ∙ ap (λ xs. old ++ (tag ++ (by ++ (actor ++ xs)))) (sym (what_is w))) c.put_what.ensures
