-- Data in range, and the bytes behind data of any depth.
use Rattle.std.specs.Prelude.{ℕ, zero, suc, ◌+◌, ◌-◌, ◌<◌, ◌≤◌, nat_le, nat_lt, ◌==◌, List, [], ◌∷◌, length, map, reverse, Bool, true, false, Option, Some, None, option_copied, Ok, Err, if◌then◌else◌}
use Rattle.plain_data.specs.DataLimits.{most_depth, most_size}
use Rattle.plain_data.specs.declared.data.Data.{Data}
use Rattle.link_fields.specs.declared.skipping.Open.{Open}
use Rattle.link_fields.specs.declared.fault.Flaw.TheVariants.{Range}
use Rattle.link_fields.specs.Field.{Outcome, ◌>>=◌, fault_at, Field}
use Rattle.link_fields.specs.Basic.{u16, small, text}
use Rattle.link_fields.specs.Values.{whole, key_after, value}

-- where the bytes go on
abbrev pub rest_of : {A : Type 0} → Outcome (A × List ℕ) → Outcome (List ℕ)
rest_of read = read >>= λ x. Ok x.1

abbrev pub within : List ℕ → Outcome (Data × List ℕ) → Outcome (Data × List ℕ)
within bytes (Ok x) = if nat_le (length bytes - length x.1) most_size then Ok x else Err (fault_at Range bytes)
within bytes (Err e) = Err (fault_at Range bytes)

-- The parts are read first, as deep as they go. Then the depth and the size are tested.
unfoldable pub data_at : List ℕ → Outcome (Data × List ℕ)
data_at bytes = rest_of ((value (most_depth + length bytes)).read bytes) >>= λ _. within bytes ((value most_depth).read bytes)

abbrev pub data_field : Field Data
data_field = record {
  spell = (value most_depth).spell;
  Fits = λ d. (value most_depth).Fits d × (length ((value most_depth).spell d) ≤ most_size);
  read = data_at;
}

-- ---- for private clauses

-- parts of a list or a record that are still due, each of at most the depth
pub record Due : Type 0 where
  pub left : ℕ
  pub in_record : Bool
  pub before : Option (List ℕ)
  pub depth : ℕ

abbrev pub due_of : Open → Due
due_of o = record { left = o.left; in_record = o.in_record; before = option_copied o.before; depth = o.depth }

-- in a record a key stands before the next part
abbrev pub next_key : Bool → Option (List ℕ) → List ℕ → Outcome (Option (List ℕ) × List ℕ)
next_key in_record before bytes =
    if in_record then ((key_after before).read bytes >>= λ k. Ok (Some k.0, k.1)) else Ok (None, bytes)

unfoldable pub parts_rest : Field Data → ℕ → Bool → Option (List ℕ) → List ℕ → Outcome (List ℕ)
parts_rest f zero in_record before bytes = Ok bytes
parts_rest f (suc n) in_record before bytes =
    next_key in_record before bytes >>= λ k. rest_of (f.read k.1) >>= λ rest. parts_rest f n in_record k.0 rest

-- what is due behind a tag: a count, and whether it is of members
abbrev pub head_behind : ℕ → List ℕ → Outcome (Option (ℕ × Bool) × List ℕ)
head_behind tag bytes =
    if tag == 0 then Ok (None, bytes)
    else (if tag == 1 then Ok (None, bytes)
    else (if tag == 2 then Ok (None, bytes)
    else (if tag == 3 then Ok (None, bytes)
    else (if tag == 4 then (whole.read bytes >>= λ x. Ok (None, x.1))
    else (if tag == 5 then (text.read bytes >>= λ x. Ok (None, x.1))
    else (if tag == 6 then (u16.read bytes >>= λ n. Ok (Some (n.0, false), n.1))
    else (if tag == 7 then (u16.read bytes >>= λ n. Ok (Some (n.0, true), n.1))
    else Err (fault_at Range bytes))))))))

unfoldable pub head_at : List ℕ → Outcome (Option (ℕ × Bool) × List ℕ)
head_at bytes = (small 7).read bytes >>= λ t. head_behind t.0 t.1

abbrev pub opened : Field Data → Option (ℕ × Bool) → List ℕ → Outcome (List ℕ)
opened f None bytes = Ok bytes
opened f (Some o) bytes = parts_rest f o.0 o.1 None bytes

-- the bytes behind all that is due, the innermost first
abbrev pub due : List Due → List ℕ → Outcome (List ℕ)
due [] bytes = Ok bytes
due (d ∷ ds) bytes = parts_rest (value d.depth) d.left d.in_record d.before bytes >>= due ds

abbrev pub stacked : List Open → List Due
stacked opens = reverse (map due_of opens)

-- what is due with what opened last on top
abbrev pub with_opened : ℕ → Option (ℕ × Bool) → List Due → List Due
with_opened depth None ds = ds
with_opened depth (Some o) ds = record { left = o.0; in_record = o.1; before = None; depth = depth } ∷ ds

-- what is due behind a part of the innermost, whose key is the one before then
abbrev pub behind_part : Due → Option (List ℕ) → Due
behind_part d key = record { left = d.left - 1; in_record = d.in_record; before = key; depth = d.depth }

-- and of what is due in all, unless it was the last part
abbrev pub with_rest : Due → Option (List ℕ) → List Due → List Due
with_rest d key ds = if nat_lt 1 d.left then behind_part d key ∷ ds else ds

-- one part of the innermost is skipped, up to the first part inside it: what is due then, and the bytes behind
abbrev pub step_at : Due → List Due → List ℕ → Outcome (List Due × List ℕ)
step_at d ds bytes =
    next_key d.in_record d.before bytes >>= λ k. head_at k.1 >>= λ h. Ok (with_opened (d.depth - 1) h.0 (with_rest d k.0 ds), h.1)

-- each may nest deeper than there are bytes
abbrev pub AreDeep : ℕ → List Due → Type 0
AreDeep len [] = Unit {0}
AreDeep len (d ∷ ds) = (len < d.depth) × AreDeep len ds
