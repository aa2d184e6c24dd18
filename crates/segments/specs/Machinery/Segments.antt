-- A part of the tree table: whole tree records, as they stand in the text or inside a group, and their tokens. Machinery: the
-- tokens of a reading's records are those of its elements, as records show them.
use Rattle.std.specs.Prelude.{ℕ, zero, suc, ◌+◌, ◌-◌, ◌*◌, ◌/◌, ◌≤◌, ◌<◌, Bool, false, Option, None, Some, cond, ◌||◌, List, [], ◌∷◌, ◌++◌, eqb, ltb, leb, length, get_or, take, drop}
use Rattle.text.specs.Quoted.{byte}
use Rattle.elements.specs.Elements.{name_kind, word_kind, number_kind, string_kind, pattern_kind, sign_kind}
use Rattle.rule.specs.Trees.{paren_kind, object_kind, block_kind, bracket_kind, before_kind, after_kind, answer_kind}
use Rattle.tables.specs.Records.{tree_width, most_trees}
use Rattle.machine.specs.Tokens.{name, number, open_brace, open_paren, pattern, Spot, string, Token, token, and_assign, assign, at_least, at_most, bit_and, bit_or, bit_xor, break_word, case_word, catch_word, colon, comma, complement, continue_word, debugger_word, decrement, default_word, delete_word, divide, divide_assign, dot, do_word, else_word, equal, false_word, finally_word, for_word, function_word, greater, identical, if_word, increment, instanceof_word, in_word, left_shift, left_shift_assign, less, logical_and, logical_or, minus, minus_assign, multiply, multiply_assign, negation, new_word, null_word, open_bracket, or_assign, plus, plus_assign, question, remainder, remainder_assign, return_word, right_shift, right_shift_assign, semicolon, switch_word, this_word, throw_word, true_word, try_word, typeof_word, unequal, unidentical, unsigned_shift, unsigned_shift_assign, var_word, void_word, while_word, with_word, xor_assign}
use Rattle.machine.specs.Machinery.Classes.{is_opener}
use Rattle.segments.specs.declared.Segment as code

-- the number of records among cells
abbrev pub count_of : List ℕ → ℕ
count_of cells = length cells / tree_width

-- a number of a record, or what stands for it past the last record
abbrev pub cell_or : ℕ → List ℕ → ℕ → ℕ → ℕ
cell_or default cells i place = cond (ltb i (count_of cells)) (get_or cells (i * tree_width + place) 0) default

-- the numbers of a record: "kind; first byte; byte after the last; records in it with itself; 1 if a line end lies between it
-- and the element before". Past the last record they are 0, and the first byte is that of the closer around it.
unfoldable pub kind_at : List ℕ → ℕ → ℕ
kind_at cells i = cell_or 0 cells i 0

unfoldable pub place_at : List ℕ → ℕ → ℕ → ℕ
place_at cells close i = cell_or close cells i 1

unfoldable pub end_at : List ℕ → ℕ → ℕ
end_at cells i = cell_or 0 cells i 2

unfoldable pub size_at : List ℕ → ℕ → ℕ
size_at cells i = cell_or 0 cells i 3

unfoldable pub line_at : List ℕ → ℕ → Bool
line_at cells i = eqb (cell_or 0 cells i 4) 1

-- the closer of a group is its last byte
unfoldable pub closer_at : List ℕ → ℕ → ℕ
closer_at cells i = end_at cells i - 1

-- Words that are taken, and signs, differ in their lengths and their first and last bytes: the classes of a length by a byte
pub data Entry : Type 0 where
  entry : ℕ → ℕ → Entry

abbrev pub look_up : List Entry → ℕ → ℕ
look_up [] b = 0
look_up (entry x class ∷ rest) b = cond (eqb b x) class (look_up rest b)

-- signs of one byte, up to `?` and above it; of two that end with `=`, and of two bytes that are the same; of three that end with `=`
abbrev pub low_singles : List Entry
low_singles =
    entry (byte "!") negation
    ∷ entry (byte "%") remainder
    ∷ entry (byte "&") bit_and
    ∷ entry (byte "*") multiply
    ∷ entry (byte "+") plus
    ∷ entry (byte ",") comma
    ∷ entry (byte "-") minus
    ∷ entry (byte ".") dot
    ∷ entry (byte "/") divide
    ∷ entry (byte ":") colon
    ∷ entry (byte ";") semicolon
    ∷ entry (byte "<") less
    ∷ entry (byte "=") assign
    ∷ entry (byte ">") greater
    ∷ entry (byte "?") question
    ∷ []

abbrev pub high_singles : List Entry
high_singles =
    entry (byte "^") bit_xor
    ∷ entry (byte "|") bit_or
    ∷ entry (byte "~") complement
    ∷ []

abbrev pub assigned : List Entry
assigned =
    entry (byte "=") equal
    ∷ entry (byte "!") unequal
    ∷ entry (byte "<") at_most
    ∷ entry (byte ">") at_least
    ∷ entry (byte "+") plus_assign
    ∷ entry (byte "-") minus_assign
    ∷ entry (byte "*") multiply_assign
    ∷ entry (byte "/") divide_assign
    ∷ entry (byte "%") remainder_assign
    ∷ entry (byte "&") and_assign
    ∷ entry (byte "|") or_assign
    ∷ entry (byte "^") xor_assign
    ∷ []

abbrev pub doubled : List Entry
doubled =
    entry (byte "&") logical_and
    ∷ entry (byte "|") logical_or
    ∷ entry (byte "+") increment
    ∷ entry (byte "-") decrement
    ∷ entry (byte "<") left_shift
    ∷ entry (byte ">") right_shift
    ∷ []

abbrev pub compared : List Entry
compared =
    entry (byte "=") identical
    ∷ entry (byte "!") unidentical
    ∷ entry (byte "<") left_shift_assign
    ∷ entry (byte ">") right_shift_assign
    ∷ []

-- words of two letters, by the last, and of more, by the first; `this` and `true` have the last too
abbrev pub two_letters : List Entry
two_letters =
    entry (byte "o") do_word
    ∷ entry (byte "f") if_word
    ∷ entry (byte "n") in_word
    ∷ []

abbrev pub three_letters : List Entry
three_letters =
    entry (byte "n") new_word
    ∷ entry (byte "v") var_word
    ∷ entry (byte "f") for_word
    ∷ entry (byte "t") try_word
    ∷ []

abbrev pub four_letters : List Entry
four_letters =
    entry (byte "c") case_word
    ∷ entry (byte "e") else_word
    ∷ entry (byte "n") null_word
    ∷ entry (byte "v") void_word
    ∷ entry (byte "w") with_word
    ∷ []

abbrev pub five_letters : List Entry
five_letters =
    entry (byte "b") break_word
    ∷ entry (byte "c") catch_word
    ∷ entry (byte "f") false_word
    ∷ entry (byte "t") throw_word
    ∷ entry (byte "w") while_word
    ∷ []

abbrev pub six_letters : List Entry
six_letters =
    entry (byte "r") return_word
    ∷ entry (byte "t") typeof_word
    ∷ entry (byte "d") delete_word
    ∷ entry (byte "s") switch_word
    ∷ []

abbrev pub eight_letters : List Entry
eight_letters =
    entry (byte "f") function_word
    ∷ entry (byte "c") continue_word
    ∷ entry (byte "d") debugger_word
    ∷ []

abbrev pub four_by : ℕ → ℕ → ℕ
four_by b last = cond (eqb b (byte "t")) (cond (eqb last (byte "s")) this_word true_word) (look_up four_letters b)

abbrev pub single_by : ℕ → ℕ
single_by b = cond (ltb (byte "?") b) (look_up high_singles b) (look_up low_singles b)

abbrev pub pair_by : ℕ → ℕ → ℕ
pair_by b last = cond (eqb last (byte "=")) (look_up assigned b) (look_up doubled b)

abbrev pub triple_by : ℕ → ℕ → ℕ
triple_by b last = cond (eqb last (byte "=")) (look_up compared b) unsigned_shift

-- the class of a sign, and of a word, by its length and its first and last bytes
unfoldable pub sign_by : ℕ → ℕ → ℕ → ℕ
sign_by len b last =
    cond (eqb len 1) (single_by b)
    (cond (eqb len 2) (pair_by b last)
    (cond (eqb len 3) (triple_by b last)
    unsigned_shift_assign))

unfoldable pub word_by : ℕ → ℕ → ℕ → ℕ
word_by len b last =
    cond (eqb len 8) (look_up eight_letters b)
    (cond (eqb len 6) (look_up six_letters b)
    (cond (eqb len 4) (four_by b last)
    (cond (eqb len 2) (look_up two_letters last)
    (cond (eqb len 3) (look_up three_letters b)
    (cond (eqb len 5) (look_up five_letters b)
    (cond (eqb len 10) instanceof_word
    (cond (eqb len 7) (cond (eqb b (byte "d")) default_word finally_word)
    0)))))))

-- by the kind alone; 0 for that of words and of signs
unfoldable pub kind_by : ℕ → ℕ
kind_by kind =
    cond (eqb kind name_kind) name
    (cond (eqb kind number_kind) number
    (cond (eqb kind string_kind) string
    (cond (eqb kind pattern_kind) pattern
    (cond (eqb kind paren_kind) open_paren
    (cond (eqb kind object_kind) open_brace
    (cond (eqb kind block_kind) open_brace
    (cond (eqb kind bracket_kind) open_bracket
    (cond (eqb kind answer_kind) colon
    0))))))))

-- whether a record of a kind is a sign that its bytes tell
abbrev pub is_spelled : ℕ → Bool
is_spelled kind = eqb kind sign_kind || (eqb kind before_kind || eqb kind after_kind)

-- the class of a record's token, by its kind, its length and its first and last bytes
unfoldable pub class_by : ℕ → ℕ → ℕ → ℕ → ℕ
class_by kind len b last = cond (is_spelled kind) (sign_by len b last) (cond (eqb kind word_kind) (word_by len b last) (kind_by kind))

-- of a text and cells; 0 past the last record
unfoldable pub class_at : List ℕ → List ℕ → ℕ → ℕ
class_at text cells i =
    class_by (kind_at cells i) (end_at cells i - place_at cells 0 i) (get_or text (place_at cells 0 i) 0) (get_or text (end_at cells i - 1) 0)

-- the class of a record that is an operand, as its kind alone tells it: a name, number, string or regular expression; 0 for others
unfoldable pub leaf_at : List ℕ → ℕ → ℕ
leaf_at cells i = cond (leb (kind_by (kind_at cells i)) pattern) (kind_by (kind_at cells i)) 0

-- the class, where it is one
abbrev pub leaf_of : ℕ → Option ℕ
leaf_of class = cond (eqb class 0) None (Some class)

-- the cells of a group's content: those of the records behind its own, as far as its size says
unfoldable pub content_of : List ℕ → ℕ → List ℕ
content_of cells i = take ((i + size_at cells i) * tree_width - (i + 1) * tree_width) (drop ((i + 1) * tree_width) cells)

-- A part: the text, the cells, the index of the first record in the whole table, and the place of the closer around it, or the
-- text's length where there is none.
pub record Segment : Type 0 where
  pub text : List ℕ
  pub cells : List ℕ
  pub base : ℕ
  pub close : ℕ

abbrev pub segment : List ℕ → List ℕ → ℕ → ℕ → Segment
segment text cells base close = record { text = text; cells = cells; base = base; close = close }

-- a part as the code has it
abbrev pub segment_of : code.Segment → Segment
segment_of s = segment s.text.now s.trees.now s.base s.close

-- the part inside a group
abbrev pub inside : Segment → ℕ → Segment
inside p i = segment p.text (content_of p.cells i) (p.base + i + 1) (closer_at p.cells i)

-- where a record stands, and where a group's closer does: it has no record, and no newline flag
abbrev pub spot_at : Segment → ℕ → Spot
spot_at p i = record { newline = line_at p.cells i; mark = p.base + i; first = place_at p.cells p.close i }

abbrev pub closer_spot : Segment → ℕ → Spot
closer_spot p i = record { newline = false; mark = p.base + i + size_at p.cells i; first = closer_at p.cells i }

-- the tokens of a part from a record on, with as many steps as `fuel`
abbrev pub tokens_by : ℕ → Segment → ℕ → List Token
tokens_by zero p i = []
tokens_by (suc fuel) p i =
    cond (ltb i (count_of p.cells))
    (token (class_at p.text p.cells i) (spot_at p i)
    ∷ cond (is_opener (class_at p.text p.cells i))
    (tokens_by fuel (inside p i) 0
    ++ (token (class_at p.text p.cells i + 1) (closer_spot p i) ∷ tokens_by fuel p (i + size_at p.cells i)))
    (tokens_by fuel p (i + 1)))
    []

-- the tokens of a part from a record on, closers included
unfoldable pub tokens_at : Segment → ℕ → List Token
tokens_at p i = tokens_by (suc (count_of p.cells)) p i

-- what a record of a part that can be parsed has: a class, and a size that fits, also within the groups around it
pub record FineAt (text cells : List ℕ) (i : ℕ) : Type 0 where
  pub known : 1 ≤ class_at text cells i
  pub some : 1 ≤ size_at cells i
  pub fits : i + size_at cells i ≤ count_of cells
  pub nested : (j : ℕ) → i < j → j < i + size_at cells i → j + size_at cells j ≤ i + size_at cells i

pub record Fine (p : Segment) : Type 0 where
  pub few : p.base + count_of p.cells ≤ most_trees
  pub at : (i : ℕ) → i < count_of p.cells → FineAt p.text p.cells i
