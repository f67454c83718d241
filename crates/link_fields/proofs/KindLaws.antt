-- Kinds of values: what is read behind a tag is spelled so, and what is spelled so is read.
use Rattle.std.proofs.Common.{◌≡◌, ℕ, List, eqb, sym, ap, ◌∙◌}
use Rattle.link_fields.specs.Field.{Field}
use Rattle.link_fields.specs.Kinds.{Kind, spelled_as, row_or}
use Rattle.link_fields.specs.Lawful.{IsLawful}
use Rattle.link_fields.proofs.ValueLaws.{row_law, either_law, either_key}

pub row_or_law : {A B : Type 0} (spelled : B → ℕ × List ℕ) (tag : ℕ) (k : Kind A B) (others : Field B) → IsLawful k.fields → ((a : A) → spelled (k.make a) ≡ spelled_as k a) → IsLawful others → IsLawful (row_or spelled tag k others)
row_or_law spelled tag k others lf is lo = either_law (eqb tag k.tag) _ _ (row_law (λ b. (spelled b).1) k.make k.fields lf (λ a. ap (λ (p : ℕ × List ℕ). p.1) (is a))) lo

-- the tag of a value that stands behind a tag
pub row_or_key : {A B : Type 0} (spelled : B → ℕ × List ℕ) (tag : ℕ) (k : Kind A B) (others : Field B) (b : B) → ((a : A) → spelled (k.make a) ≡ spelled_as k a) → (others.Fits b → (spelled b).0 ≡ tag) → (row_or spelled tag k others).Fits b → (spelled b).0 ≡ tag
row_or_key {A} {B} spelled tag k others b is other =
    either_key (λ (c : B). (spelled c).0) tag k.tag _ _ b
    (λ h. ap (λ (c : B). (spelled c).0) (sym h.2) ∙ ap (λ (p : ℕ × List ℕ). p.0) (is h.0)) other
