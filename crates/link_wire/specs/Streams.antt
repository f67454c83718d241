-- Streams: what feeding gives depends on the bytes alone, and not on how they are cut into pieces.
use Rattle.std.specs.Prelude.{◌≡◌, ℕ, zero, suc, ◌+◌, nat_le, List, [], ◌∷◌, ◌++◌, length, take, drop, Some, None, Ok, Err, if◌then◌else◌}
use Rattle.link_wire.specs.declared.reader.Fed.{Fed}
use Rattle.link_wire.specs.declared.reader.Fed.TheVariants as feds
use Rattle.link_wire.specs.Bad.{Decoded}
use Rattle.link_wire.specs.Feeding.{head, is_short, Held, Turn}

-- ---- feeding

-- a piece that was fed, the answer, the frame, and the reader afterwards
pub record Feed : Type 0 where
  pub piece : List ℕ
  pub fed : Fed
  pub into : List ℕ
  pub after : Held

-- the feeds of a reader, one after the other, and the reader at the end
abbrev pub AreFeeds : Held → List Feed → Held → Type 0
AreFeeds old [] last = old ≡ last
AreFeeds old (f ∷ fs) last = Turn f.fed old f.piece f.after f.into × AreFeeds f.after fs last

abbrev pub taken : Fed → List ℕ → List ℕ
taken feds.More piece = piece
taken (feds.Whole used) piece = take used piece
taken (feds.Bad place why) piece = piece

-- the bytes that the feeds took, one after the other
abbrev pub bytes_of : List Feed → List ℕ
bytes_of [] = []
bytes_of (f ∷ fs) = taken f.fed f.piece ++ bytes_of fs

abbrev pub and_frame : Fed → List ℕ → List (List ℕ) → List (List ℕ)
and_frame feds.More into frames = frames
and_frame (feds.Whole used) into frames = into ∷ frames
and_frame (feds.Bad place why) into frames = frames

-- the frames that the feeds gave
abbrev pub frames_of : List Feed → List (List ℕ)
frames_of [] = []
frames_of (f ∷ fs) = and_frame f.fed f.into (frames_of fs)

-- ---- a stream as a whole

abbrev pub nothing_held : Held
nothing_held = record { have = []; bad = None }

abbrev pub behind : List ℕ → List (List ℕ) × Held → List (List ℕ) × Held
behind frame rest = (frame ∷ rest.0, rest.1)

-- by the head at the front of the bytes, where the stream behind a frame is split in a certain way
abbrev pub split_by : (List ℕ → List (List ℕ) × Held) → List ℕ → Decoded (ℕ × ℕ) → List (List ℕ) × Held
split_by rest bytes (Ok h) =
    if nat_le (6 + h.1) (length bytes) then behind (take (6 + h.1) bytes) (rest (drop (6 + h.1) bytes))
    else ([], record { have = bytes; bad = None })
split_by rest bytes (Err bad) =
    if is_short bad.why then ([], record { have = bytes; bad = None }) else ([], record { have = []; bad = Some bad })

-- at most n frames
unfoldable pub split_up_to : ℕ → List ℕ → List (List ℕ) × Held
split_up_to zero bytes = ([], record { have = bytes; bad = None })
split_up_to (suc n) bytes = split_by (split_up_to n) bytes (head bytes)

-- the frames at the front of a stream, and what stands behind them: less than a frame, or a bad head
abbrev pub split_stream : List ℕ → List (List ℕ) × Held
split_stream bytes = split_up_to (length bytes) bytes
