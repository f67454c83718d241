-- Results, which are numbers of answers.
use Rattle.std.specs.Prelude.{ℕ, ◌≡◌}
use Rattle.byte_answers.specs.Answers.{number_of}
use Rattle.byte_answers.specs.declared.answer.Answer.{Answer}

-- the result is the number of an answer of which something is true
pub record Says (result : ℕ) (Of : Answer → Type 0) : Type 0 where
  pub answer : Answer
  pub numbered : result ≡ number_of answer
  pub holds : Of answer
