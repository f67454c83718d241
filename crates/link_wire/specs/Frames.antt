-- Frames: version 2, kind, length of the body, body. A body's fields are read by a table of kinds.
use Rattle.std.specs.Prelude.{ℕ, ◌+◌, ◌-◌, ◌==◌, nat_lt, nat_le, ◌&&◌, not, List, ◌∷◌, ◌++◌, length, take, drop, slice_index, Bool, Ok, Err, if◌then◌else◌}
use Rattle.std.specs.Int.{w32, from_be_bytes}
use Rattle.agent_terms.specs.declared.request.Why.TheVariants.{Version, Kind, Length, Short, Tail}
use Rattle.link_fields.specs.Field.{Outcome, ◌>>=◌, Field}
use Rattle.link_fields.specs.Basic.{u32}
use Rattle.link_wire.specs.declared.frame.Side.{Side}
use Rattle.link_wire.specs.declared.frame.Side.TheVariants as sides
use Rattle.link_wire.specs.Bad.{Decoded, bad_at, why_of_flaw}

-- kinds 1 to 13 are requests, 65 to 74 (41 to 4a in hexadecimal) are replies
abbrev pub is_kind : Side → ℕ → Bool
is_kind sides.Request kind = nat_le 1 kind && nat_le kind 13
is_kind sides.Reply kind = nat_le 65 kind && nat_le kind 74

-- the first byte of each frame
abbrev pub version : ℕ
version = 2

abbrev pub frame : ℕ → List ℕ → List ℕ
frame kind body = version ∷ kind ∷ u32.spell (length body) ++ body

-- kind and length of the body
unfoldable pub head_at : (ℕ → Bool) → ℕ → List ℕ → Decoded (ℕ × ℕ)
head_at known most bytes =
    if nat_lt 0 (length bytes) && not (slice_index bytes 0 == version) then Err (bad_at 0 Version)
    else (if nat_lt 1 (length bytes) && not (known (slice_index bytes 1)) then Err (bad_at 1 Kind)
    else (if nat_lt (length bytes) 6 then Err (bad_at (length bytes) Short)
    else (if nat_lt most (from_be_bytes w32 (take 4 (drop 2 bytes))) then Err (bad_at 2 Length)
    else Ok (slice_index bytes 1, from_be_bytes w32 (take 4 (drop 2 bytes))))))

-- the body is all that stands behind the head
abbrev pub body_at : ℕ → List ℕ → Decoded (List ℕ)
body_at len bytes =
    if nat_lt (length bytes) (6 + len) then Err (bad_at (length bytes) Short)
    else (if nat_lt (6 + len) (length bytes) then Err (bad_at (6 + len) Tail)
    else Ok (drop 6 bytes))

-- kind and body of all the bytes
abbrev pub split_at : (ℕ → Bool) → ℕ → List ℕ → Decoded (ℕ × List ℕ)
split_at known most bytes = head_at known most bytes >>= λ h. body_at h.1 bytes >>= λ body. Ok (h.0, body)

-- Fields that were read at the end of a frame. A flaw stands as many bytes from the frame's end as are left there.
abbrev pub ended : {A : Type 0} → List ℕ → Outcome (A × List ℕ) → Decoded A
ended bytes (Ok x) = if length x.1 == 0 then Ok x.0 else Err (bad_at (length bytes - length x.1) Tail)
ended bytes (Err f) = Err (bad_at (length bytes - f.left) (why_of_flaw f.why))

-- the value of all the bytes
unfoldable pub frame_at : {A : Type 0} → (ℕ → Bool) → ℕ → (ℕ → Field A) → List ℕ → Decoded A
frame_at known most rows bytes = split_at known most bytes >>= λ b. ended bytes ((rows b.0).read b.1)
