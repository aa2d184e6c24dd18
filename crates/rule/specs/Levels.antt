-- Document 01, Prefix rule: "The whole text is a statement level. The inside of `( )` is an expression level. The inside
-- of a brace is an expression level if it is an object, else a statement level." Document 02, U2: "bracket groups (.. expression level)".
use Rattle.std.specs.Prelude.{ℕ, ◌+◌, Bool, ◌||◌, eqb}
use Rattle.elements.specs.Elements.{stating}
use Rattle.elements.specs.declared.Element.{Element}
use Rattle.elements.specs.declared.Stated.{Stated}
use Rattle.rule.specs.Trees.{Trees, count, paren_kind, object_kind, bracket_kind}
use Rattle.rule.specs.Rule.{backwards, opens_object, opens_pattern, names_word, settled_kind}

-- the levels that are open at a place: the text's own, or the inside of a group that is open, with the levels around it,
-- its kind, its first byte, whether a line end lies before it, and the trees in it so far
pub data Levels : Type 0 where
  whole_text : Trees → Levels
  inside : Levels → ℕ → ℕ → Bool → Trees → Levels

-- whether the inside of a group of that kind is an expression level; the whole text has the kind 0
abbrev pub is_expression : ℕ → Bool
is_expression kind = eqb kind paren_kind || eqb kind object_kind || eqb kind bracket_kind

-- the kind of the innermost group that is open
abbrev pub kind_of : Levels → ℕ
kind_of (whole_text trees) = 0
kind_of (inside around kind first newline trees) = kind

-- the trees of the innermost level
abbrev pub trees_of : Levels → Trees
trees_of (whole_text trees) = trees
trees_of (inside around kind first newline trees) = trees

-- whether a slash opens a regular expression at the end of the innermost level, and whether a brace opens an object there,
-- where a line end lies before it or not
abbrev pub slash_opens : Levels → Bool
slash_opens levels = opens_pattern (is_expression (kind_of levels)) (backwards (trees_of levels))

abbrev pub brace_opens : Levels → Bool → Bool
brace_opens levels newline = opens_object (is_expression (kind_of levels)) (backwards (trees_of levels)) newline

-- whether a reserved word is a name there
abbrev pub word_is_name : Levels → Bool
word_is_name levels = names_word (eqb (kind_of levels) object_kind) (backwards (trees_of levels))

-- what the prefix rule states of the next element
abbrev pub stated_by : Levels → Stated
stated_by levels = stating (slash_opens levels) (word_is_name levels)

-- an element there, with the kind that the prefix rule settles
abbrev pub settled_in : Levels → Element → Element
settled_in levels e =
    record {
      kind = settled_kind (is_expression (kind_of levels)) (backwards (trees_of levels)) e;
      which = e.which;
      first = e.first;
      end = e.end;
      newline = e.newline;
    }

-- groups that are open, and records so far
abbrev pub depth : Levels → ℕ
depth (whole_text trees) = 0
depth (inside around kind first newline trees) = depth around + 1

abbrev pub count_so_far : Levels → ℕ
count_so_far (whole_text trees) = count trees
count_so_far (inside around kind first newline trees) = count_so_far around + (count trees + 1)

-- a tree more on the innermost level
abbrev pub on_top : (Trees → Trees) → Levels → Levels
on_top add (whole_text trees) = whole_text (add trees)
on_top add (inside around kind first newline trees) = inside around kind first newline (add trees)
