-- Frames of requests from a stream that comes in pieces.
use Rattle.std.specs.Prelude.{◌≡◌, ℕ, ◌+◌, ◌<◌, ◌≤◌, nat_lt, List, [], ◌++◌, length, take, Bool, true, false, Option, Some, None, Ok, Err}
use Rattle.agent_terms.specs.declared.request.Why.{Why}
use Rattle.agent_terms.specs.declared.request.Why.TheVariants as whys
use Rattle.link_wire.specs.declared.bad.Bad.{Bad}
use Rattle.link_wire.specs.declared.frame.Side.TheVariants as sides
use Rattle.link_wire.specs.declared.reader.Fed.{Fed}
use Rattle.link_wire.specs.declared.reader.Fed.TheVariants as feds
use Rattle.link_wire.specs.Bad.{Decoded, bad_at}
use Rattle.frame_grammar.specs.Cut.{most_body}
use Rattle.link_wire.specs.Frames.{is_kind, head_at}

-- kind and length of the body of the request at the front
abbrev pub head : List ℕ → Decoded (ℕ × ℕ)
head bytes = head_at (is_kind sides.Request) most_body bytes

abbrev pub is_short : Why → Bool
is_short whys.Version = false
is_short whys.Kind = false
is_short whys.Length = false
is_short whys.Short = true
is_short whys.Text = false
is_short whys.Range = false
is_short whys.Url = false
is_short whys.Tail = false

abbrev pub is_part : List ℕ → Decoded (ℕ × ℕ) → Bool
is_part bytes (Ok h) = nat_lt (length bytes) (6 + h.1)
is_part bytes (Err bad) = is_short bad.why

-- less than a frame, with a head that is good so far
abbrev pub is_partial : List ℕ → Bool
is_partial bytes = is_part bytes (head bytes)

-- what all the bytes since the last frame give, the old ones and the new
abbrev pub Feeds : Fed → List ℕ → List ℕ → List ℕ → List ℕ → Type 0
Feeds feds.More old all new into = (is_partial all ≡ true) × (new ≡ all) × (into ≡ [])
Feeds (feds.Whole used) old all new into =
    (h : ℕ × ℕ) × (head all ≡ Ok h) × (6 + h.1 ≤ length all) × (length old + used ≡ 6 + h.1)
    × (into ≡ take (6 + h.1) all) × (new ≡ [])
Feeds (feds.Bad place why) old all new into =
    (head all ≡ Err (bad_at place why)) × (is_short why ≡ false) × (new ≡ []) × (into ≡ [])

-- a reader: the bytes since the last frame, or the fault that ended the stream
pub record Held : Type 0 where
  pub have : List ℕ
  pub bad : Option Bad

abbrev pub bad_of : Fed → Option Bad
bad_of feds.More = None
bad_of (feds.Whole used) = None
bad_of (feds.Bad place why) = Some (bad_at place why)

abbrev pub TurnBy : Option Bad → Fed → Held → List ℕ → Held → List ℕ → Type 0
TurnBy None fed old piece new into = Feeds fed old.have (old.have ++ piece) new.have into × (new.bad ≡ bad_of fed)
TurnBy (Some bad) fed old piece new into = (fed ≡ feds.Bad bad.place bad.why) × (new ≡ old) × (into ≡ [])

-- one feed of a reader: a fault is repeated
abbrev pub Turn : Fed → Held → List ℕ → Held → List ℕ → Type 0
Turn fed old piece new into = TurnBy old.bad fed old piece new into

-- ---- for private clauses

-- What a head lacked of a piece stands behind the old bytes, and the rest of the piece is left.
pub record Fills (old piece have rest : List ℕ) : Type 0 where
  pub all : have ++ rest ≡ old ++ piece
  pub stays : take (length old) have ≡ old
  pub most : length rest ≤ length piece
  pub within : length have < 6 → rest ≡ []
  pub beyond : 6 < length have → have ≡ old
