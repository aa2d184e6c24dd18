-- Cells that are whole tree records, well nested: what follows a group's record, as far as its number of records says, is its
-- content. The records of a reading's trees, with which the table starts where `read` accepts, are so (`read_nested`).
use Rattle.std.specs.Prelude.{ℕ, ◌-◌, ◌*◌, ◌≤◌, ◌≡◌, ◌⊎◌, List, [], ◌∷◌, length, take, drop}
use Rattle.tables.specs.Records.{tree_width}

-- the cells of a group's content, by the group's fourth number
abbrev pub content_cells : ℕ → ℕ
content_cells number = tree_width * number - tree_width

-- the kinds of elements: 1 to 6, and (document 02, U4) 11 to 13
abbrev pub ElementKind : ℕ → Type 0
ElementKind kind = ((1 ≤ kind) × (kind ≤ 6)) ⊎ ((11 ≤ kind) × (kind ≤ 13))

pub data Nested : List ℕ → Type 0 where
  empty : Nested []
  -- an element is one record
  element : {kind first end number newline : ℕ} {rest : List ℕ} → ElementKind kind → number ≡ 1 → Nested rest
      → Nested (kind ∷ first ∷ end ∷ number ∷ newline ∷ rest)
  -- a group, of a kind from 7 to 10, is its record and those of its content
  group : {kind first end number newline : ℕ} {rest : List ℕ} → 7 ≤ kind → kind ≤ 10 → 1 ≤ number → content_cells number ≤ length rest
      → Nested (take (content_cells number) rest) → Nested (drop (content_cells number) rest)
      → Nested (kind ∷ first ∷ end ∷ number ∷ newline ∷ rest)
