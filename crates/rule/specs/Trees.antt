-- Trees of one level: elements and groups, in text order with the last outermost.
use Rattle.std.specs.Prelude.{ℕ, ◌+◌, max, Bool}
use Rattle.elements.specs.declared.Element.{Element}

-- Document 01, Records: the kinds of groups
abbrev pub paren_kind : ℕ
paren_kind = 7

abbrev pub object_kind : ℕ
object_kind = 8

abbrev pub block_kind : ℕ
block_kind = 9

-- document 02, U2: "bracket groups (tree kind 10 ..)"
abbrev pub bracket_kind : ℕ
bracket_kind = 10

-- document 02, U4: `++` or `--` before and after its operand, and a `:` that answers a `?`
abbrev pub before_kind : ℕ
before_kind = 11

abbrev pub after_kind : ℕ
after_kind = 12

abbrev pub answer_kind : ℕ
answer_kind = 13

pub data Trees : Type 0 where
  none : Trees
  -- the trees before, and an element, of the kind that the rule has settled
  leaf : Trees → Element → Trees
  -- the trees before, and a group: its kind, its first byte, the byte after its last, whether a line end lies before it,
  -- and its inside
  group : Trees → ℕ → ℕ → ℕ → Bool → Trees → Trees

-- the number of records of trees: one for each group, and one for each element that is no opener or closer
unfoldable pub count : Trees → ℕ
count none = 0
count (leaf before e) = count before + 1
count (group before kind first end newline within) = count before + (count within + 1)

-- the most groups of trees that are open at once
unfoldable pub deepest : Trees → ℕ
deepest none = 0
deepest (leaf before e) = deepest before
deepest (group before kind first end newline within) = max (deepest before) (deepest within + 1)
