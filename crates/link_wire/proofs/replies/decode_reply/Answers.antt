use Rattle.std.proofs.Common.{◌∙◌, ap, subst, arith}
use Rattle.link_wire.specs.Bad.{Decoded, Decodes}
use Rattle.frame_grammar.specs.Cut.{ReplyParts}
use Rattle.link_wire.specs.Replies.{reply_of}
use Rattle.link_wire.proofs.ReplyFrames.{found, reply_again}
use Rattle.link_wire.proofs.replies.decode_reply.Goals as goal

pub returns-clause-found : goal.returns-clause-found
returns-clause-found c = found c.args.bytes.now c.decode.result (λ i. omega (arith, c.type_inv.bytes i)) c.decode.ensures

pub returns-clause-only : goal.returns-clause-only
returns-clause-only c = λ r fits e. subst (λ (x : Decoded ReplyParts). Decodes c.decode.result x) (ap reply_of e ∙ reply_again r fits) c.decode.ensures
