-- An answer as one number, for callers from other languages.
use Rattle.std.specs.Prelude.{ℕ, ◌+◌, ◌*◌, ◌^◌, ◌≡◌}
use Rattle.answers.specs.Answers.{number_of, value_of}
use Rattle.answers.specs.declared.Answer.{Answer}

-- the count of an accepted answer; the number times 2^32 and the place of a refused one
abbrev pub packed : Answer → ℕ
packed answer = number_of answer * 2 ^ 32 + value_of answer

-- what a call promises of its answer, said of the number that the answer is packed into
abbrev pub Packs : (Answer → Type 0) → ℕ → Type 0
Packs Promised number = (answer : Answer) × Promised answer × (number ≡ packed answer)
