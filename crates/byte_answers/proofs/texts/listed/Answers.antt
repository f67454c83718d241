use Rattle.std.proofs.Common.{◌≡◌, sym, subst, ◌∙◌, lit<, eqb}
use Rattle.std.specs.List.{slice_split}
use Rattle.std.specs.Str.Iter.{split_steps}
use Rattle.std.specs.Str.Pattern.{FindsChar}
use Rattle.std.proofs.lemmas.Iterator.{YieldsList}
use Rattle.std.proofs.lemmas.Iterator.Splits.{YieldsList-from_str_split}
use Rattle.std.proofs.lemmas.Iterator.Consumers.{YieldsList-end}
use Rattle.byte_answers.proofs.texts.listed.Goals as goal

pub loop-piece-init : goal.loop-piece-init
loop-piece-init c = c.new-suffixes.ensures.items

pub returns : goal.returns
returns c =
    let s = c.split-piece-items.ensures in
    let cut = YieldsList-from_str_split 44 c.args.text.now (lit< tt) s.text s.has_more s.pattern in
    let start = subst (λ it. YieldsList (split_steps FindsChar (λ a b. b ≡ a)) (λ piece. piece.now) it (slice_split (λ b. eqb b 44) c.args.text.now))
    (sym c.into_iter-piece-iterator.ensures.into_iter_gives) cut in
    c.loop-piece.invariant ∙ (YieldsList-end start c.loop-piece.yielded _ c.loop-piece.yielded_by _ _ c.in-None.is c.next.ensures.steps).0
