-- Pieces that were taken one after the other.
use Rattle.std.proofs.Common.{◌≡◌, ℕ, ◌+◌, ◌-◌, ◌<◌, ◌≤◌, List, ◌++◌, length, take, drop, take-add, Option, None, Some, IfSome, ap, subst, sym, ◌∙◌, arith, length-drop, length-append}
use Rattle.std.proofs.lemmas.List.{take_all, length-take-le, take-append-drop, drop-drop}
use Rattle.std.proofs.Math.Seq.{take-append_seam}
use Rattle.std.proofs.Math.Nat.{add-sub_cancel_left}
use Rattle.std.specs.Io.KnownBytes.{Appends, Consumes}
use Rattle.std.proofs.KnownBytes.{Appends-trans, Consumes-trans}
use Rattle.ports.specs.Causes.{GivesCount, GivesAtMost}

-- the rest from n on
abbrev pub rest : ℕ → List ℕ → List ℕ
rest n bytes = take (length bytes - n) (drop n bytes)

pub rest-drop : (n : ℕ) (bytes : List ℕ) → rest n bytes ≡ drop n bytes
rest-drop n bytes = take_all (length bytes - n) (drop n bytes) (omega (arith, length-drop n bytes))

-- a front of the bytes was taken, and then a front of their rest
pub Appends-next : (a b c : Option (List ℕ)) (n m : ℕ) (bytes : List ℕ) → Appends a b (take n bytes) → Appends b c (take m (rest n bytes)) → Appends a c (take (n + m) bytes)
Appends-next a b c n m bytes before now =
    let joined : take n bytes ++ take m (rest n bytes) ≡ take (n + m) bytes = ap (λ x. take n bytes ++ take m x) (rest-drop n bytes) ∙ sym (take-add n m bytes) in
    subst (Appends a c) joined (Appends-trans a b c (take n bytes) (take m (rest n bytes)) before now)

-- the source gave these bytes, and then n more
pub GivesCount-next : (a b c : Option (List ℕ)) (n : ℕ) (bytes piece : List ℕ) → Consumes a b bytes → Consumes b c (take n piece) → n ≡ length (take n piece) → GivesCount (length bytes + n) a c
GivesCount-next a b c n bytes piece before now count = (
  bytes ++ take n piece,
  length-append bytes (take n piece) ∙ ap (λ m. length bytes + m) (sym count),
  Consumes-trans a b c bytes (take n piece) before now,
)

pub GivesAtMost-count : (a b : Option (List ℕ)) (n limit : ℕ) → n ≤ limit → GivesCount n a b → GivesAtMost limit a b
GivesAtMost-count a b n limit within given = (given.0, subst (λ m. m ≤ limit) (sym given.1) within, given.2)

-- a piece that was copied from the rest is its front, whatever stands behind it in the buffer
pub front-copied : (at n : ℕ) (bytes copied behind : List ℕ) → copied ≡ take (at + n - at) (drop at bytes) → n ≤ length (drop at bytes)
    → drop at bytes ≡ take n (copied ++ behind) ++ drop (at + n) bytes
front-copied at n bytes copied behind same within =
    let front : copied ≡ take n (drop at bytes) = rw add-sub_cancel_left at same in
    let count : length copied ≡ n = ap length front ∙ length-take-le n (drop at bytes) within in
    let seen : take n (copied ++ behind) ≡ copied = subst (λ m. take m (copied ++ behind) ≡ copied) count (take-append_seam copied behind) in
    sym (take-append-drop n (drop at bytes)) ∙ ap (λ l. l ++ drop n (drop at bytes)) (sym front ∙ sym seen) ∙ ap (λ l. take n (copied ++ behind) ++ l) (drop-drop n at bytes)

-- a source that tells and gave one byte more than the limit had more than the limit
pub GivesCount-over : (a b : Option (List ℕ)) (limit : ℕ) → GivesCount (limit + 1) a b → IfSome a (λ left. limit < length left)
GivesCount-over None b limit given = tt
GivesCount-over (Some left) None limit given = absurd given.2
GivesCount-over (Some left) (Some after) limit given = omega (arith, given.1, ap length given.2, length-append given.0 after)
