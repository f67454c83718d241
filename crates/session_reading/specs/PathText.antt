-- How paths and refusals are printed.
use Rattle.std.specs.Prelude.{◌≡◌, refl, ℕ, List, [], ◌∷◌, ◌++◌, Bool, true, false, codes, decimal, if◌then◌else◌}
use Rattle.session_reading.specs.declared.path.Segment.{Segment}
use Rattle.session_reading.specs.declared.path.Segment.TheVariants.{Named, At}
use Rattle.session_reading.specs.declared.error.SessionError.{SessionError}
use Rattle.session_reading.specs.declared.error.SessionError.TheVariants.{NoMemory, NotJson, Missing, WrongKind, OutOfRange, UnknownStep, UnknownField}

-- PATHS

-- a name, with a dot before it unless it comes first; an item's number in brackets
abbrev pub segment_words : Bool → Segment → List ℕ
segment_words first (Named name) = (if first then [] else codes ".") ++ name
segment_words first (At index) = codes "[" ++ decimal index ++ codes "]"

abbrev pub segments_words : Bool → List Segment → List ℕ
segments_words first [] = []
segments_words first (s ∷ ss) = segment_words first s ++ segments_words false ss

-- the whole text is a dot
abbrev pub path_words : List Segment → List ℕ
path_words [] = codes "."
path_words (s ∷ ss) = segments_words true (s ∷ ss)

-- REFUSALS

abbrev pub placed_words : List ℕ → List Segment → List ℕ
placed_words kind path = codes "refused " ++ (kind ++ (codes " " ++ (path_words path ++ codes "\n")))

-- the line that says why a text is refused; want of memory is no refusal
abbrev pub refusal_words : SessionError → List ℕ
refusal_words NoMemory = []
refusal_words NotJson = codes "refused NotJson\n"
refusal_words (Missing path) = placed_words (codes "Missing") path
refusal_words (WrongKind path) = placed_words (codes "WrongKind") path
refusal_words (OutOfRange path) = placed_words (codes "OutOfRange") path
refusal_words (UnknownStep path) = placed_words (codes "UnknownStep") path
refusal_words (UnknownField path) = placed_words (codes "UnknownField") path

-- ROWS

path_row : path_words (Named (codes "left") ∷ Named (codes "start") ∷ []) ≡ codes "left.start"
path_row = refl

whole_row : refusal_words (WrongKind []) ≡ codes "refused WrongKind .\n"
whole_row = refl

field_row : refusal_words (Missing (Named (codes "start") ∷ [])) ≡ codes "refused Missing start\n"
field_row = refl
