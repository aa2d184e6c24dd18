-- Document 01, Refused texts: "An answer is either accepted with its count or refused with number and place." "Where an answer is an
-- enum, a definition gives this paper's number and values for each case of the enum. The promises use that definition."
use Rattle.std.specs.Prelude.{ℕ, ◌≡◌}
use Rattle.answers.specs.declared.Answer.{Answer}

-- the number that the table of refused texts gives an answer; 0 for an accepted one
abbrev pub number_of : Answer → ℕ
number_of (Answer.Accepted count) = 0
number_of (Answer.Refused number place) = number

-- what stands beside it: the count of an accepted answer, the place of a refused one
abbrev pub value_of : Answer → ℕ
value_of (Answer.Accepted count) = count
value_of (Answer.Refused number place) = place

-- an answer of some type has the number and the value of another, as these are defined for the type
pub record Tells {A : Type 0} (number value : A → ℕ) (answer expected : A) : Type 0 where
  pub same_number : number answer ≡ number expected
  pub same_value : value answer ≡ value expected
