-- A count or a place fits the lower half of the number that an answer is packed into.
use mathlib.Core.Path.{◌≡◌, refl}
use mathlib.Core.List.{List}
use Prim.Native.Nat.{ℕ, ◌<◌, ◌^◌}
use native.Mathlib.Omega.{arith}
use Rattle.answers.specs.Answers.{value_of}
use Rattle.prefix.specs.Reading.{Reading, accepted, refused}
use Rattle.reading.specs.Read.{reading_for, answer_of}
use Rattle.reading.proofs.Theorems.{refused_place, accepted_count}
use Rattle.parsing.specs.Parse.{parsing_for}
use Rattle.parsing.proofs.Bounds.{value_small}
use Rattle.respacer.specs.Respace.{respacing_for}
use Rattle.respacer.proofs.Theorems.{value_bounded}

pub count_small : (text : List ℕ) (cells : ℕ) → value_of (answer_of (reading_for text cells)) < 2 ^ 32
count_small text cells = go (reading_for text cells) refl
  where
    go : (r : Reading) → reading_for text cells ≡ r → value_of (answer_of r) < 2 ^ 32
    go (accepted trees) e = omega (arith, accepted_count text cells trees e)
    go (refused number place) e = omega (arith, refused_place text cells number place e)

pub bytes_small : (text : List ℕ) (room : ℕ) → value_of (Rattle.respacer.specs.Respace.answer_of (respacing_for text room)) < 2 ^ 32
bytes_small text room = omega (arith, value_bounded text room)

pub parts_small : (text : List ℕ) (tree_cells syntaxCells : ℕ) → value_of (Rattle.parsing.specs.Parse.answer_of (parsing_for text tree_cells syntaxCells)) < 2 ^ 32
parts_small text tree_cells syntaxCells = omega (arith, value_small text tree_cells syntaxCells)
