-- What was read last: its bytes are read again as the same value.
use Rattle.std.proofs.Common.{◌≡◌, ℕ, ◌-◌, List, ◌++◌, length, take, Option, Some, None, Ok, ap, ◌∙◌, arith}
use Rattle.std.proofs.lemmas.List.{take_at, length-append}
use Rattle.link_fields.specs.Field.{Field}
use Rattle.link_fields.specs.Lawful.{IsBytes, IsLawful}
use Rattle.link_fields.specs.Last.{IsReadAs}

pub same_bytes : {A : Type 0} (f : Field A) (seen : List ℕ) (o : Option A) (a : A) (bytes rest : List ℕ) → IsReadAs f seen o → o ≡ Some a → bytes ≡ seen ++ rest → f.read bytes ≡ Ok (a, rest)
same_bytes f seen None a bytes rest h e p = absurd cc
same_bytes {A} f seen (Some b) a bytes rest h e p = let v : b ≡ a = cc in ap f.read p ∙ h rest ∙ ap (λ (w : A). Ok (w, rest)) v

pub front_reads : {A : Type 0} (f : Field A) → IsLawful f → (bytes : List ℕ) (a : A) (rest : List ℕ) → IsBytes bytes → f.read bytes ≡ Ok (a, rest) → (more : List ℕ) → f.read (take (length bytes - length rest) bytes ++ more) ≡ Ok (a, more)
front_reads f lf bytes a rest fits e more =
    let t = lf.takes bytes (a, rest) fits e in
    let len : length (f.spell a) ≡ length bytes - length rest = omega (arith, ap length t.0.parts, length-append (f.spell a) rest) in
    let front : take (length bytes - length rest) bytes ≡ f.spell a = ap (take (length bytes - length rest)) t.0.parts ∙ take_at (f.spell a) rest (length bytes - length rest) len in
    ap (λ (xs : List ℕ). f.read (xs ++ more)) front ∙ lf.again a more t.1
