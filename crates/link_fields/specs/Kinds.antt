-- Kinds of values, each with a tag of its own. A table says of each kind its tag, its fields, and the value that they make.
use Rattle.std.specs.Prelude.{ℕ, ◌==◌, List, cond}
use Rattle.link_fields.specs.Field.{Field, row}

-- a kind of values of B: its tag, its fields, and the value that they make
pub record Kind (A B : Type 0) : Type 1 where
  pub tag : ℕ
  pub fields : Field A
  pub make : A → B

abbrev pub kind : {A B : Type 0} → ℕ → Field A → (A → B) → Kind A B
kind tag fields make = record { tag = tag; fields = fields; make = make }

-- how the value is spelled that these parts make: its tag, and the bytes of its fields
abbrev pub spelled_as : {A B : Type 0} → Kind A B → A → ℕ × List ℕ
spelled_as k parts = (k.tag, k.fields.spell parts)

-- the values of a kind, where any value is spelled so
abbrev pub row_of : {A B : Type 0} → (B → ℕ × List ℕ) → Kind A B → Field B
row_of spelled k = row (λ b. (spelled b).1) k.make k.fields

-- what stands behind a tag: a value of this kind where the tag is its own, and one of the others else
abbrev pub row_or : {A B : Type 0} → (B → ℕ × List ℕ) → ℕ → Kind A B → Field B → Field B
row_or spelled tag k others = cond (tag == k.tag) (row_of spelled k) others
