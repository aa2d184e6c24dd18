-- The theorems of reading.
use mathlib.Core.Path.{◌≡◌, refl}
use mathlib.Core.List.{List}
use mathlib.Core.Bool.{Bool, true, false, cond}
use Prim.Native.Nat.{ℕ, ◌*◌, ◌≤◌, ◌<◌}
use native.Mathlib.Omega.{arith}
use borrow.Author.Tests.{leb-true}
use lib.Dec.{leb}
use lib.ListN.{length}
use Rattle.rule.specs.Trees.{Trees, count, deepest}
use Rattle.prefix.specs.Reading.{Limits, accepted, refused, reading, unlimited_reading, deep, trees_full}
use Rattle.prefix.proofs.Sizes.{accepted_fits}
use Rattle.prefix.specs.Limits.{Within}
use Rattle.prefix.proofs.LimitLaws.{reading_within}
use Rattle.tables.specs.Records.{tree_width, room_for}
use Rattle.storing.specs.Records.{records}
use Rattle.reading.specs.Read.{long_text, most_bytes, most_groups, read_limits, reading_for}
use Rattle.reading.specs.Nested.{Nested}
use Rattle.storing.proofs.CellLaws.{records_length}
use Rattle.reading.proofs.Formed.{reading_formed, records_nested, reading_within_text}
use Rattle.reading.proofs.Numbered.{first_numbered}
use Rattle.reading.proofs.LengthFirst.{first_accepted, first_fits, first_full, first_deep}

-- Limits: more room, or more groups, changes no accepted reading.
pub larger_limits : (text : List ℕ) (small large : Limits) → Within small large → (trees : Trees) → reading text small ≡ accepted trees → reading text large ≡ accepted trees
larger_limits text small large w trees e = reading_within text small large w trees e

-- The count is the number of records of the trees.
pub count_of_records : (trees : Trees) → length (records trees) ≡ tree_width * count trees
count_of_records = records_length

-- The records of the trees of a reading are well nested.
pub reading_nested : (text : List ℕ) (limits : Limits) (trees : Trees) → reading text limits ≡ accepted trees → Nested (records trees)
reading_nested text limits trees e = records_nested trees (rw e at (reading_formed text limits))

-- What `read` accepts is accepted by `reading`.
for_accepted : (text : List ℕ) (cells : ℕ) (trees : Trees) → reading_for text cells ≡ accepted trees → reading text (read_limits cells) ≡ accepted trees
unfolding reading_for
for_accepted text cells = first_accepted text (read_limits cells)

-- So are the records that `read` leaves in its table.
pub read_nested : (text : List ℕ) (cells : ℕ) (trees : Trees) → reading_for text cells ≡ accepted trees → Nested (records trees)
read_nested text cells trees e = reading_nested text (read_limits cells) trees (for_accepted text cells trees e)

-- The place of a refusal is at most 262,144.
pub refused_place : (text : List ℕ) (cells number place : ℕ) → reading_for text cells ≡ refused number place → place ≤ most_bytes
unfolding reading_for
refused_place text cells number place = go (leb (length text) most_bytes) refl
  where
    go : (b : Bool) → leb (length text) most_bytes ≡ b → cond b (reading text (read_limits cells)) (refused long_text most_bytes) ≡ refused number place → place ≤ most_bytes
    go true short e =
        let w : place ≤ length text = rw e at (reading_within_text text (read_limits cells)) in
        omega (arith, leb-true (length text) most_bytes short)
    go false short e =
        let q : most_bytes ≡ place = cc in
        omega arith

-- Its number is that of a row from 1 to 12, so that it is no 13, 14 or 15.
pub refused_number : (text : List ℕ) (cells number place : ℕ) → reading_for text cells ≡ refused number place → (1 ≤ number) × (number ≤ 12)
unfolding reading_for
refused_number text cells number place e =
    let n = first_numbered text (read_limits cells) number place e in
    (n.0, n.1)

-- Document 02, U4: "8 no longer occurs".
pub no_barred_sign : (text : List ℕ) (cells place : ℕ) → reading_for text cells ≡ refused 8 place → ⊥
unfolding reading_for
no_barred_sign text cells place e = (first_numbered text (read_limits cells) 8 place e).2 refl

-- The count of an accepted reading is at most 16,384, and what the table has room for.
pub accepted_count : (text : List ℕ) (cells : ℕ) (trees : Trees) → reading_for text cells ≡ accepted trees → count trees ≤ room_for cells
accepted_count text cells trees e = (accepted_fits text (read_limits cells) trees (for_accepted text cells trees e)).0

-- The trees of a text of at most 262,144 bytes are read if they fit.
pub read_fits : (text : List ℕ) (cells : ℕ) (trees : Trees) → unlimited_reading text ≡ accepted trees
    → length text ≤ most_bytes → count trees ≤ room_for cells → deepest trees ≤ most_groups → reading_for text cells ≡ accepted trees
unfolding reading_for
read_fits text cells = first_fits text (read_limits cells)

-- 12 only where the trees are more than the table has room for, or 16,384.
pub read_full : (text : List ℕ) (cells : ℕ) (trees : Trees) → unlimited_reading text ≡ accepted trees
    → (place : ℕ) → reading_for text cells ≡ refused trees_full place → room_for cells < count trees
unfolding reading_for
read_full text cells = first_full text (read_limits cells)

-- 9 only where more than 100 groups are open at once.
pub read_deep : (text : List ℕ) (cells : ℕ) (trees : Trees) → unlimited_reading text ≡ accepted trees
    → (place : ℕ) → reading_for text cells ≡ refused deep place → most_groups < deepest trees
unfolding reading_for
read_deep text cells = first_deep text (read_limits cells)
