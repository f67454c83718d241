use Rattle.std.proofs.Common.{◌≡◌, ℕ, ◌+◌, ◌-◌, List, length, ◌∙◌, ap, subst, arith}
use Rattle.link_fields.specs.Basic.{u32, truth}
use Rattle.frame_grammar.specs.Cut.{reply_body}
use Rattle.reply_writing.specs.Patched.{Patches}
use Rattle.reply_writing.proofs.Lengths.{u32_is}
use Rattle.reply_writing.proofs.Tellings.{body_of_frame}
use Rattle.reply_writing.proofs.Finishing.{finished}
use Rattle.reply_writing.proofs.patching.fill_in.Goals as goal

pub returns-clause-frame : goal.returns-clause-frame
returns-clause-frame c = λ r w m.
    let old : List ℕ = c.args.bytes.now in
    let len : ℕ = length old - 6 in
    let is-len : len ≡ length (reply_body r) = omega (arith, ap length w.spelled, body_of_frame r) in
    let first : Patches 2 (u32.spell len) old c.patch.new.bytes = subst (λ xs. Patches 2 xs old c.patch.new.bytes) (c.to_be_bytes.ensures ∙ u32_is len) c.patch.ensures.patched in
    let second : Patches c.args.more_at (truth.spell r.more) c.patch.new.bytes c.patch-2.new.bytes = subst (λ xs. Patches c.args.more_at xs c.patch.new.bytes c.patch-2.new.bytes) (c.truth_byte.ensures ∙ ap truth.spell m) c.patch-2.ensures.patched in
    let third : Patches (c.args.more_at + 1) (u32.spell c.args.count) c.patch-2.new.bytes c.patch-3.new.bytes = subst (λ xs. Patches (c.args.more_at + 1) xs c.patch-2.new.bytes c.patch-3.new.bytes) (c.to_be_bytes-2.ensures ∙ u32_is c.args.count) c.patch-3.ensures.patched in
    finished r len c.args.more_at c.args.count old c.patch.new.bytes c.patch-2.new.bytes c.patch-3.new.bytes w.spelled is-len w.placed w.counted first second third
