use Rattle.std.proofs.Common.{ap, sym, ◌∙◌}
use Rattle.std.specs.BTreeMap.{is_at}
use Rattle.std.specs.Map.{lookup}
use Rattle.std.specs.Ordering.{nat_cmp}
use Rattle.document_ends.proofs.Feeding.{embedder_start}
use Rattle.document_ends.proofs.ends.Ends.new.Goals as goal

pub returns : goal.returns
returns c = record {
  cuts = λ n. ap (lookup (is_at (nat_cmp n))) c.new.ensures.empty;
  documents = λ d. ap (lookup (is_at (nat_cmp d))) c.new-2.ensures.empty;
  embedders = λ n. ap (lookup (is_at (nat_cmp n))) c.new-3.ensures.empty ∙ sym (embedder_start n);
}
