-- Answers, and what a call leaves in the caller's buffer. Both are this project's own.
use Rattle.std.specs.Prelude.{ℕ, ◌≡◌, ◌≤◌, ◌<◌, ◌⊎◌, List, ◌++◌, length, drop, Result, Ok, Err}
use Rattle.byte_answers.specs.declared.answer.Answer.{Answer}
use Rattle.byte_answers.specs.declared.answer.Answer.TheVariants as answers

unfoldable pub number_of : Answer → ℕ
number_of answers.Done = 0
number_of answers.NoMemory = 1
number_of answers.NoRoom = 2
number_of answers.NotText = 3
number_of answers.NotAUrl = 4
number_of answers.SchemeOut = 5
number_of answers.OutOfRange = 6
number_of answers.BadFrame = 7

-- the bytes stand at the front of the buffer, where they fit; else it is as before. Either way it says how many they are
pub record IsWritten (bytes old new : List ℕ) (len : ℕ) (answer : Answer) : Type 0 where
  pub counted : len ≡ length bytes
  pub fits : length bytes ≤ length old → (answer ≡ answers.Done) × (new ≡ bytes ++ drop (length bytes) old)
  pub short : length old < length bytes → (answer ≡ answers.NoRoom) × (new ≡ old)

-- nothing is written, for this reason
pub record IsRefused (why : Answer) (old new : List ℕ) (len : ℕ) (answer : Answer) : Type 0 where
  pub counted : len ≡ 0
  pub kept : new ≡ old
  pub answered : answer ≡ why

-- the text is written, or the reason answered
abbrev pub IsTold : Result (List ℕ) Answer → List ℕ → List ℕ → ℕ → Answer → Type 0
IsTold (Ok text) old new len answer = IsWritten text old new len answer
IsTold (Err why) old new len answer = IsRefused why old new len answer

-- the same, or memory ran out
abbrev pub Tells : Result (List ℕ) Answer → List ℕ → List ℕ → ℕ → Answer → Type 0
Tells expected old new len answer = IsTold expected old new len answer ⊎ IsRefused answers.NoMemory old new len answer

-- a call gave what is expected, or memory ran out
abbrev pub Gives : {A : Type 0} → Result A Answer → Result A Answer → Type 0
Gives (Ok a) expected = expected ≡ Ok a
Gives (Err why) expected = (expected ≡ Err why) ⊎ (why ≡ answers.NoMemory)

-- the same, where what it gave stands in a relation to what is expected
abbrev pub GivesBy : {A B : Type 0} → (A → B → Type 0) → Result A Answer → Result B Answer → Type 0
GivesBy R (Ok a) (Ok b) = R a b
GivesBy R (Ok a) (Err why) = ⊥
GivesBy R (Err why) expected = (expected ≡ Err why) ⊎ (why ≡ answers.NoMemory)

-- a value is set to what stands in a relation to what is expected; or it is as before, and the reason is answered
abbrev pub IsSetBy : {A B : Type 0} → (A → B → Type 0) → Result B Answer → A → A → Answer → Type 0
IsSetBy R (Ok b) old new answer = (answer ≡ answers.Done) × R new b
IsSetBy R (Err why) old new answer = (answer ≡ why) × (new ≡ old)

-- the same, or memory ran out
abbrev pub SetsBy : {A B : Type 0} → (A → B → Type 0) → Result B Answer → A → A → Answer → Type 0
SetsBy R expected old new answer = IsSetBy R expected old new answer ⊎ IsSetBy R (Err answers.NoMemory) old new answer

abbrev pub Sets : {A : Type 0} → Result A Answer → A → A → Answer → Type 0
Sets expected old new answer = SetsBy (λ a b. a ≡ b) expected old new answer
