-- Limits of readings, as the statements on them name them (`prefix/proofs/LimitLaws.antt`).
use Rattle.std.specs.Prelude.{ℕ, ◌≤◌, ◌≡◌}
use Rattle.prefix.specs.Reading.{Limits, deep, trees_full}

-- the limits of one reading are at most those of another
pub record Within (small large : Limits) : Type 0 where
  pub groups : small.groups ≤ large.groups
  pub room : small.room ≤ large.room

-- a refusal's number that stands for no limit
pub record NoLimit (number : ℕ) : Type 0 where
  pub not_deep : number ≡ deep → ⊥
  pub not_full : number ≡ trees_full → ⊥
