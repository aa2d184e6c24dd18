-- Document 01, Records: "Syntax record, three numbers, at most 16,385, parts before the whole and in text order: kind; index
-- of its marking tree record; syntax records in it with itself."
use Rattle.std.specs.Prelude.{ℕ, ◌+◌}
use mathlib.Core.List.{List, [], ◌∷◌, ◌++◌, Memᴰ}

-- "Kinds with marks". 1 name, 2 number, 3 string, 4 regular expression, 10 divide, 11 plus, 12 assign and, of document 02, U4 and U6, most of those of value
-- words, operators and words of statements are the classes of the tokens that mark them (TokenClasses.antt of `vocabulary`), and the others are named below; their marks stand at their steps (Grammar.antt), that of 20 at `program_tree`
abbrev pub object_syntax : ℕ
object_syntax = 5

abbrev pub parenthesised_syntax : ℕ
parenthesised_syntax = 6

abbrev pub function_syntax : ℕ
function_syntax = 7

abbrev pub member_syntax : ℕ
member_syntax = 8

abbrev pub call_syntax : ℕ
call_syntax = 9

abbrev pub expression_syntax : ℕ
expression_syntax = 13

abbrev pub bare_return_syntax : ℕ
bare_return_syntax = 14

abbrev pub full_return_syntax : ℕ
full_return_syntax = 15

abbrev pub block_syntax : ℕ
block_syntax = 16

abbrev pub label_syntax : ℕ
label_syntax = 17

abbrev pub if_syntax : ℕ
if_syntax = 18

abbrev pub declaration_syntax : ℕ
declaration_syntax = 19

abbrev pub program_syntax : ℕ
program_syntax = 20

-- Document 02, U2: "Syntax kinds 21 array and 22 index are marked by their group."
abbrev pub array_syntax : ℕ
array_syntax = 21

abbrev pub index_syntax : ℕ
index_syntax = 22

-- Document 02, U4: "Syntax kinds added from here on run from 23 and stand with their marks in docs/": `new` with arguments (28, without, is the class
-- of the word), `++` and `--` after their operand, `+` and `-` before one
abbrev pub construct_syntax : ℕ
construct_syntax = 27

abbrev pub incremented_syntax : ℕ
incremented_syntax = 29

abbrev pub decremented_syntax : ℕ
decremented_syntax = 30

abbrev pub positive_syntax : ℕ
positive_syntax = 36

abbrev pub negative_syntax : ℕ
negative_syntax = 37

-- Document 02, U6, likewise: a variable and an empty statement, `for` with `in`, and `continue` and `break` without a label; the others of 74 to 94 are the
-- classes of the words that mark them
abbrev pub variable_syntax : ℕ
variable_syntax = 75

abbrev pub empty_syntax : ℕ
empty_syntax = 76

abbrev pub for_in_syntax : ℕ
for_in_syntax = 81

abbrev pub bare_continue_syntax : ℕ
bare_continue_syntax = 82

abbrev pub bare_break_syntax : ℕ
bare_break_syntax = 84

-- "The syntax tree": nothing; a part with its kind, its mark and what is in it, in at most two pieces; or one after the other
pub data Syntax : Type 0 where
  nil : Syntax
  node : ℕ → ℕ → Syntax → Syntax → Syntax
  snoc : Syntax → Syntax → Syntax

-- the number of its records
abbrev pub size : Syntax → ℕ
size nil = 0
size (node kind mark left right) = size left + size right + 1
size (snoc before last) = size before + size last

-- its records, "parts before the whole and in text order"
unfoldable pub syntax_records : Syntax → List ℕ
syntax_records nil = []
syntax_records (node kind mark left right) =
    syntax_records left ++ (syntax_records right ++ (kind ∷ mark ∷ (size left + size right + 1) ∷ []))
syntax_records (snoc before last) = syntax_records before ++ syntax_records last

-- "20 program (number of tree records)"
abbrev pub program_tree : ℕ → Syntax → Syntax
program_tree trees parts = node program_syntax trees parts nil

-- the marks of a tree, in the order of its records
abbrev pub marks_of : Syntax → List ℕ
marks_of nil = []
marks_of (node kind mark left right) = marks_of left ++ (marks_of right ++ (mark ∷ []))
marks_of (snoc before last) = marks_of before ++ marks_of last

-- no two are the same
pub data Distinct : List ℕ → Type 0 where
  distinct_none : Distinct []
  distinct_more : {x : ℕ} {xs : List ℕ} → (Memᴰ x xs → ⊥) → Distinct xs → Distinct (x ∷ xs)
