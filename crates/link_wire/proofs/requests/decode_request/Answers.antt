use Rattle.std.proofs.Common.{◌∙◌, ap, subst, arith}
use Rattle.agent_terms.specs.declared.request.Request.{Request}
use Rattle.link_wire.specs.Bad.{Decoded, Decodes}
use Rattle.link_wire.specs.Requests.{request_read}
use Rattle.link_wire.proofs.RequestFrames.{found, request_again}
use Rattle.link_wire.proofs.requests.decode_request.Goals as goal

pub returns-clause-found : goal.returns-clause-found
returns-clause-found c = found c.args.bytes.now c.decode.result (λ i. omega (arith, c.type_inv.bytes i)) c.decode.ensures

pub returns-clause-only : goal.returns-clause-only
returns-clause-only c = λ r fits e. subst (λ (x : Decoded Request). Decodes c.decode.result x) (ap request_read e ∙ request_again r fits) c.decode.ensures
