-- The longest sign that a text starts with is the spelling of its row.
use mathlib.Core.Path.{◌≡◌, sym}
use mathlib.Core.List.{List, [], ◌∷◌}
use mathlib.Core.Bool.{Bool, true, false, cond, ◌&&◌}
use Prim.Native.Nat.{ℕ, ◌+◌}
use lib.Dec.{T, ltb}
use lib.ListN.{length, take}
use Rattle.text.proofs.Laws.{same→eq}
use Rattle.vocabulary.specs.Vocabulary.{Row, spelling, signs, row_at}
use Rattle.vocabulary.proofs.RowLaws.{RowsFrom, all_rows, first_row, later_rows}
use Rattle.signs.specs.Signs.{starts_with, size, longer, longest_of, longest_sign, found}
use Rattle.signs.specs.declared.Sign.{Sign}
use Rattle.std.specs.Prelude.{Option, None, Some}

-- the sign of a number, by its length, at the start of a text
pub record SignSpelled (s : List ℕ) (number len : ℕ) : Type 0 where
  pub own : take len s ≡ spelling (row_at signs number)
  pub long : len ≡ length (spelling (row_at signs number))

module _ (s : List ℕ) where
  abbrev LongestSpelled : Option Sign → Type 0
  LongestSpelled None = Unit
  LongestSpelled (Some sign) = SignSpelled s sign.number sign.len

  longest_of_spelled : (rows : List Row) (number : ℕ) (best : Option Sign) → RowsFrom signs number rows → LongestSpelled best
      → LongestSpelled (longest_of s number best rows)
  unfolding longest_of
  longest_of_spelled [] number best left h = h
  longest_of_spelled (row ∷ rows) number best left h =
      longest_of_spelled rows (number + 1) (longer s number best row) (later_rows left)
      (go (ltb (size best) (length (spelling row))) (starts_with (spelling row) s) (λ t. t))
    where
      go : (a b : Bool) → (T b → T (starts_with (spelling row) s))
          → LongestSpelled (cond (a && b) (found number (length (spelling row))) best)
      go true true is =
          let first = first_row left in
          record { own = rw first (sym (same→eq (spelling row) (take (length (spelling row)) s) (is tt))); long = rw first }
      go true false is = h
      go false b is = h

  pub longest_spelled : (sign : Sign) → longest_sign s ≡ Some sign → SignSpelled s sign.number sign.len
  unfolding longest_sign
  longest_spelled sign e = rw e at (longest_of_spelled signs 1 None (all_rows signs) tt)
