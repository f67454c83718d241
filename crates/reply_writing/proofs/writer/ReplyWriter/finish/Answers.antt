use Rattle.std.proofs.Common.{◌≡◌, length, refl, sym, ◌∙◌, ap, subst}
use Rattle.std.proofs.lemmas.List.{take_at}
use Rattle.frame_grammar.specs.Cut.{ReplyParts}
use Rattle.link_wire.specs.Replies.{reply_frame}
use Rattle.reply_writing.specs.Writing.{writer_view, IsWriting}
use Rattle.reply_writing.proofs.Tellings.{roomy}
use Rattle.reply_writing.proofs.writer.ReplyWriter.finish.Goals as goal

pub fill_in-requires-clause-place : goal.fill_in-requires-clause-place
fill_in-requires-clause-place c = (roomy _ _ _ _ _ _ c.self.invariant).0

pub fill_in-requires-clause-room : goal.fill_in-requires-clause-room
fill_in-requires-clause-room c = rw c.as_mut_slice.ensures.value ((roomy _ _ _ _ _ _ c.self.invariant).1)

pub returns : goal.returns
returns c =
    let r : ReplyParts = writer_view c.self.inside in
    let whole : IsWriting r.outcome r.from r.news c.as_mut_slice.result.now c.self.inside.more_at c.self.inside.count =
    subst (λ xs. IsWriting r.outcome r.from r.news xs c.self.inside.more_at c.self.inside.count) (sym c.as_mut_slice.ensures.value) c.self.invariant in
    let long : length c.fill_in.new.bytes ≡ c.self.inside.bytes.len = c.fill_in.ensures.len ∙ ap length c.as_mut_slice.ensures.value ∙ sym c.self.inside.bytes.ok.0 in
    take_at c.fill_in.new.bytes _ c.self.inside.bytes.len long ∙ c.fill_in.ensures.frame r whole refl ∙ ap reply_frame c.self.view_is
