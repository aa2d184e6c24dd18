-- The rows and their numbers: a rule of them, proved by one test that antt computes over all of them, and a search through them.
use mathlib.Core.Path.{◌≡◌}
use mathlib.Core.Bool.{Bool, true, false, not, ◌&&◌, ◌||◌}
use mathlib.Core.List.{List, [], ◌∷◌}
use Prim.Native.Nat.{ℕ, zero, suc, ◌+◌}
use native.Mathlib.Omega.{arith}
use lib.Dec.{T}
use lib.ListN.{get_or}
use Rattle.text.proofs.Range.{and_left, and_right}
use Rattle.vocabulary.specs.Vocabulary.{Row, is_taken, no_row, row_at}

module _ (test : ℕ → Row → Bool) where
  -- the test passes at each number and row, of which the first has that number
  abbrev pub each_row : ℕ → List Row → Bool
  each_row number [] = true
  each_row number (row ∷ rows) = test number row && each_row (number + 1) rows

  from : (rows : List Row) (first k : ℕ) → T (each_row first rows) → T (test (first + k) no_row) → T (test (first + k) (get_or rows k no_row))
  from [] first k t none = none
  from (row ∷ rows) first zero t none =
      let e : first + 0 ≡ first = omega arith in
      rw e (and_left (test first row) (each_row (first + 1) rows) t)
  from (row ∷ rows) first (suc k) t none =
      let e : first + suc k ≡ first + 1 + k = omega arith in
      rw e (from rows (first + 1) k (and_right (test first row) (each_row (first + 1) rows) t) (rw e at none))

  -- so it passes at any number and its row, if it does so where the number has none
  pub at_row : (rows : List Row) → T (each_row 1 rows) → (number : ℕ) → T (test number no_row) → T (test number (row_at rows number))
  unfolding row_at
  at_row rows t zero none = none
  at_row rows t (suc k) none =
      let e : 1 + k ≡ suc k = omega arith in
      rw e at (from rows 1 k t (rw e none))

-- a test that all rows pass but those of some numbers
abbrev pub each_other : (Row → Bool) → (ℕ → Bool) → List Row → Bool
each_other test but rows = each_row (λ number row. test row || but number) 1 rows

pub at_other : (test : Row → Bool) (but : ℕ → Bool) (rows : List Row) → T (each_other test but rows) → T (test no_row)
    → (number : ℕ) → but number ≡ false → T (test (row_at rows number))
at_other test but rows t none number other =
    only (test (row_at rows number)) (but number) other
    (at_row (λ number row. test row || but number) rows t number (left (test no_row) (but number) none))
  where
    left : (a b : Bool) → T a → T (a || b)
    left true b t = tt
    left false b t = absurd t

    only : (a b : Bool) → b ≡ false → T (a || b) → T a
    only true b e t = tt
    only false b e t = rw e at t

-- a test that all rows that are taken pass
module _ (test : ℕ → Row → Bool) where
  abbrev pub each_taken : List Row → Bool
  each_taken rows = each_row (λ number row. not (is_taken row) || test number row) 1 rows

  pub at_taken : (rows : List Row) → T (each_taken rows) → (number : ℕ) → is_taken (row_at rows number) ≡ true → T (test number (row_at rows number))
  at_taken rows t number is = rw is at (at_row (λ number row. not (is_taken row) || test number row) rows t number tt)

-- what is left of all rows, from a number on: a search through them knows the number of the first that is left
pub record RowsFrom (all : List Row) (number : ℕ) (rows : List Row) : Type 0 where
  pub each : (k : ℕ) → row_at all (number + k) ≡ get_or rows k no_row

pub all_rows : (all : List Row) → RowsFrom all 1 all
unfolding row_at
all_rows all = record { each = λ k. let e : 1 + k ≡ suc k = omega arith in rw e }

module _ {all : List Row} {number : ℕ} {row : Row} {rows : List Row} (left : RowsFrom all number (row ∷ rows)) where
  pub first_row : row_at all number ≡ row
  first_row = let e : number + 0 ≡ number = omega arith in rw e at (left.each 0)

  pub later_rows : RowsFrom all (number + 1) rows
  later_rows = record { each = λ k. let e : number + suc k ≡ number + 1 + k = omega arith in rw e at (left.each (suc k)) }
