-- Document 01, Records: "Tree record, five numbers, at most 16,384 records, a group before its content: kind; first byte;
-- byte after the last; records in it with itself; 1 if a line end lies between it and the element before (or the text's
-- start), else 0."
use Rattle.std.specs.Prelude.{ℕ, ◌/◌, min, Bool, cond, List, [], ◌∷◌}

-- the width of a tree record, and the largest count of them
abbrev pub tree_width : ℕ
tree_width = 5

abbrev pub most_trees : ℕ
most_trees = 16384

abbrev pub tree_record : ℕ → ℕ → ℕ → ℕ → Bool → List ℕ
tree_record kind first end number newline = kind ∷ first ∷ end ∷ number ∷ cond newline 1 0 ∷ []

-- the records of a width, and of a largest count, that a table of so many numbers has room for
abbrev pub room : ℕ → ℕ → ℕ → ℕ
room width most cells = min (cells / width) most

-- the tree records that it has room for
abbrev pub room_for : ℕ → ℕ
room_for = room tree_width most_trees

-- the width of a syntax record, and the largest count of them: "Syntax record, three numbers, at most 16,385"
abbrev pub syntax_width : ℕ
syntax_width = 3

abbrev pub most_syntax : ℕ
most_syntax = 16385

-- the syntax records that a table of so many numbers has room for
abbrev pub syntax_room : ℕ → ℕ
syntax_room = room syntax_width most_syntax
