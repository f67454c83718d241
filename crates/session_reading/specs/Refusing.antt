-- What reading gives: a value, or a refusal and the way to it.
use Rattle.std.specs.Prelude.{◌≡◌, ◌⊎◌, [], ◌∷◌, ⊤, Result, Ok, Err}
use Rattle.session_reading.specs.declared.path.Segment.{Segment}
use Rattle.session_reading.specs.declared.error.SessionError.{SessionError}
use Rattle.session_reading.specs.declared.error.SessionError.TheVariants.{NoMemory, NotJson, Missing, WrongKind, OutOfRange, UnknownStep, UnknownField}

-- no definition gives NoMemory
abbrev pub Outcome : Type 0 → Type 0
Outcome A = Result A SessionError

-- what is read next from what was read, where that was no refusal
infixl 10 ◌>>=◌
abbrev pub ◌>>=◌ : {A B : Type 0} → Outcome A → (A → Outcome B) → Outcome B
(Ok a) >>= f = f a
(Err e) >>= f = Err e

-- THE REFUSALS OF A VALUE, AT ITS OWN PLACE

abbrev pub missing : {A : Type 0} → Outcome A
missing = Err (Missing [])

abbrev pub wrong_kind : {A : Type 0} → Outcome A
wrong_kind = Err (WrongKind [])

abbrev pub out_of_range : {A : Type 0} → Outcome A
out_of_range = Err (OutOfRange [])

abbrev pub unknown_step : {A : Type 0} → Outcome A
unknown_step = Err (UnknownStep [])

abbrev pub unknown_field : {A : Type 0} → Outcome A
unknown_field = Err (UnknownField [])

-- THE WAY TO A REFUSAL

-- a refusal, seen from one step higher
abbrev pub placed : Segment → SessionError → SessionError
placed s NoMemory = NoMemory
placed s NotJson = NotJson
placed s (Missing path) = Missing (s ∷ path)
placed s (WrongKind path) = WrongKind (s ∷ path)
placed s (OutOfRange path) = OutOfRange (s ∷ path)
placed s (UnknownStep path) = UnknownStep (s ∷ path)
placed s (UnknownField path) = UnknownField (s ∷ path)

-- what is read one step down
abbrev pub under : {A : Type 0} → Segment → Outcome A → Outcome A
under s (Ok a) = Ok a
under s (Err e) = Err (placed s e)

-- WHAT A FUNCTION RETURNED IS WHAT READING GIVES, UNLESS MEMORY RAN OUT

abbrev pub Refuses : {A : Type 0} → SessionError → Outcome A → Type 0
Refuses NoMemory read = ⊤
Refuses NotJson read = read ≡ Err NotJson
Refuses (Missing path) read = read ≡ Err (Missing path)
Refuses (WrongKind path) read = read ≡ Err (WrongKind path)
Refuses (OutOfRange path) read = read ≡ Err (OutOfRange path)
Refuses (UnknownStep path) read = read ≡ Err (UnknownStep path)
Refuses (UnknownField path) read = read ≡ Err (UnknownField path)

abbrev pub Gives : {A : Type 0} → Result A SessionError → Outcome A → Type 0
Gives (Ok a) read = read ≡ Ok a
Gives (Err e) read = Refuses e read

-- the refusal seen from one step higher, or want of memory; for clauses on refusals alone
abbrev pub IsPlacedOrNoMemory : Segment → SessionError → SessionError → Type 0
IsPlacedOrNoMemory s e seen = (seen ≡ NoMemory) ⊎ (seen ≡ placed s e)
