use Rattle.std.proofs.Common.{◌≡◌, ◌++◌, Some, arith}
use Rattle.std.proofs.lemmas.Slice.Eq.{strip_prefix_is}
use Rattle.std.proofs.lemmas.Bool.Decides.{Decides-eqb}
use Rattle.link_fields.specs.Origins.{origin}
use Rattle.link_fields.proofs.LastLaws.{same_bytes, front_reads}
use Rattle.link_fields.proofs.OriginLaws.{origin_law}
use Rattle.link_fields.proofs.SkipLaws.{lawful_shorter}
use Rattle.link_fields.proofs.last.LastOrigin.read.Goals as goal

pub returns-in-Some-strip_prefix : goal.returns-in-Some-strip_prefix
returns-in-Some-strip_prefix c =
    let parts = strip_prefix_is Decides-eqb c.args.bytes.now c.as_slice.result.now (Some c.in-Some-strip_prefix.rest) c.in-Some-strip_prefix.ensures.cases in
    let all : c.args.bytes.now ≡ c.self.inside.bytes.items ++ c.in-Some-strip_prefix.rest.now = rw c.as_slice.ensures.value at parts in
    rw c.in_ok-clone.ensures.cases (same_bytes origin c.self.inside.bytes.items c.self.inside.value c.in-Some.origin c.args.bytes.now c.in-Some-strip_prefix.rest.now c.self.invariant c.in-Some.is all)

pub overflow_sub-bytes : goal.overflow_sub-bytes
overflow_sub-bytes c = (lawful_shorter origin origin_law c.args.bytes.now (c.in_ok-origin.origin, c.in_ok-origin.rest.now) (λ i. omega (arith, c.type_inv.bytes i)) c.in_ok-origin.ensures).0

pub keep-requires : goal.keep-requires
keep-requires c = rw c.split_at.ensures.front (front_reads origin origin_law c.args.bytes.now c.in_ok-origin.origin c.in_ok-origin.rest.now (λ i. omega (arith, c.type_inv.bytes i)) c.in_ok-origin.ensures)
