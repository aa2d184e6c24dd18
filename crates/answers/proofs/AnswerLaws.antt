-- Answers by number and value.
use mathlib.Core.Path.{◌≡◌, ap}
use Prim.Native.Nat.{ℕ}
use Rattle.answers.specs.Answers.{Tells}

-- The same answer has the same number and value.
pub same_tells : {A : Type 0} {number value : A → ℕ} {answer expected : A} → answer ≡ expected → Tells number value answer expected
same_tells {A} {number} {value} e = record { same_number = ap number e; same_value = ap value e }
