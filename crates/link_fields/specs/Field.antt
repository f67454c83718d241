-- Fields: how a value is spelled, which values are in range, and how one is read from left to right.
use Rattle.std.specs.Prelude.{◌≡◌, ℕ, List, [], ◌++◌, length, Bool, IsTrue, Result, Ok, Err, if◌then◌else◌}
use Rattle.link_fields.specs.declared.fault.Flaw.{Flaw}
use Rattle.link_fields.specs.declared.fault.Fault.{Fault}
use Rattle.link_fields.specs.declared.fault.ReadError.{ReadError}
use Rattle.link_fields.specs.declared.fault.ReadError.TheVariants as errors

-- what is read, or the first fault
abbrev pub Outcome : Type 0 → Type 0
Outcome A = Result A Fault

-- the next step, unless this one failed
infixl 10 ◌>>=◌
abbrev pub ◌>>=◌ : {A B E : Type 0} → Result A E → (A → Result B E) → Result B E
(Ok x) >>= f = f x
(Err e) >>= f = Err e

-- the fault at the first of these bytes
abbrev pub fault_at : Flaw → List ℕ → Fault
fault_at why bytes = record { why = why; left = length bytes }

-- What a function returned, seen by view, is what reading gives, unless memory ran out.
abbrev pub Fails : {Y : Type 0} → ReadError → Outcome Y → Type 0
Fails errors.Memory read = Unit {0}
Fails (errors.Fault f) read = read ≡ Err f

abbrev pub Gives : {X Y : Type 0} → (X → Y) → Result X ReadError → Outcome Y → Type 0
Gives view (Ok x) read = read ≡ Ok (view x)
Gives view (Err e) read = Fails e read

-- ---- fields

pub record Field (A : Type 0) : Type 1 where
  pub spell : A → List ℕ
  pub Fits : A → Type 0
  pub read : List ℕ → Outcome (A × List ℕ)

-- nothing
abbrev pub nothing : {A : Type 0} → A → Field A
nothing a = record { spell = λ _. []; Fits = λ b. b ≡ a; read = λ bytes. Ok (a, bytes) }

-- one field after another
infixr 20 ◌⊗◌
abbrev pub ◌⊗◌ : {A B : Type 0} → Field A → Field B → Field (A × B)
f ⊗ g = record {
  spell = λ x. f.spell x.0 ++ g.spell x.1;
  Fits = λ x. f.Fits x.0 × g.Fits x.1;
  read = λ bytes. f.read bytes >>= λ a. g.read a.1 >>= λ b. Ok ((a.0, b.0), b.1);
}

-- a field whose value passes a test, which is made after it, at its first byte
abbrev pub only : {A : Type 0} → Flaw → (A → Bool) → Field A → Field A
only why test f = record {
  spell = f.spell;
  Fits = λ a. f.Fits a × IsTrue (test a);
  read = λ bytes. f.read bytes >>= λ a. if test a.0 then Ok a else Err (fault_at why bytes);
}

-- a field that stands for another value
abbrev pub mapped : {A B : Type 0} → (A → B) → (B → A) → Field A → Field B
mapped to from f = record {
  spell = λ b. f.spell (from b);
  Fits = λ b. f.Fits (from b) × (to (from b) ≡ b);
  read = λ bytes. f.read bytes >>= λ a. Ok (to a.0, a.1);
}

-- a key, and the rest of the value by the key
abbrev pub keyed : {A B : Type 0} → (B → A) → Field A → (A → Field B) → Field B
keyed key f rest = record {
  spell = λ b. f.spell (key b) ++ (rest (key b)).spell b;
  Fits = λ b. f.Fits (key b) × (rest (key b)).Fits b;
  read = λ bytes. f.read bytes >>= λ a. (rest a.0).read a.1;
}

-- no value
abbrev pub never : {A : Type 0} → Flaw → Field A
never why = record { spell = λ _. []; Fits = λ _. ⊥; read = λ bytes. Err (fault_at why bytes) }

-- one variant of an enum, whose values are spelled by body
abbrev pub row : {A B : Type 0} → (B → List ℕ) → (A → B) → Field A → Field B
row {A} body make f = record {
  spell = body;
  Fits = λ b. (a : A) × f.Fits a × (make a ≡ b);
  read = λ bytes. f.read bytes >>= λ a. Ok (make a.0, a.1);
}
