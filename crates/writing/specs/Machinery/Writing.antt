-- Writing to an output that may be too short: bytes past its end are dropped. Machinery.
use Rattle.std.specs.Prelude.{ℕ, min, ◌≡◌, List, ◌++◌, length, take, drop}

-- the output holds what was said so far, as much of it as fits, and beyond that what it held before
pub record Written (before said now : List ℕ) (at : ℕ) : Type 0 where
  pub at_is : at ≡ min (length said) (length before)
  pub now_is : now ≡ take at said ++ drop at before

-- from (now, at) to (after, next) these bytes are said, whatever was said before
abbrev pub Adds : List ℕ → ℕ → List ℕ → List ℕ → ℕ → Type 0
Adds now at bytes after next =
    (before said : List ℕ) → Written before said now at → Written before (said ++ bytes) after next
