-- Document 01, Records: "Syntax record, three numbers, at most 16,385, parts before the whole and in text order: kind; index of its marking tree record;
-- syntax records in it with itself. Kinds with marks: ..", and those that document 02 adds (docs/KINDS.md): the records of a tree as parts, the tokens that
-- mark them, and their order.
use Rattle.std.specs.Prelude.{ℕ, ◌<◌, ◌≡◌, cond, T, eqb, leb}
use mathlib.Core.List.{List, [], ◌∷◌, ◌++◌, Memᴰ}
use Rattle.machine.specs.Tokens.{Token, token, Spot, name, new_word, plus, minus, increment, decrement, for_word, continue_word, break_word, debugger_word, semicolon, open_paren, open_brace, open_bracket, return_word, function_word, if_word, word_name}
use Rattle.machine.specs.Operators.{is_among}
use Rattle.machine.specs.Syntax.{
  Syntax,
  nil,
  node,
  snoc,
  object_syntax,
  parenthesised_syntax,
  function_syntax,
  member_syntax,
  call_syntax,
  expression_syntax,
  bare_return_syntax,
  full_return_syntax,
  block_syntax,
  label_syntax,
  if_syntax,
  declaration_syntax,
  array_syntax,
  index_syntax,
  construct_syntax,
  incremented_syntax,
  decremented_syntax,
  positive_syntax,
  negative_syntax,
  variable_syntax,
  empty_syntax,
  for_in_syntax,
  bare_continue_syntax,
  bare_break_syntax,
  marks_of,
}

-- a record's kind and mark, and what is in it
pub data Part : Type 0 where
  part : ℕ → ℕ → Syntax → Part

-- those of a tree, in the order of its records, which they are (`parts_written` of PartRecords.antt)
abbrev pub parts_of : Syntax → List Part
parts_of nil = []
parts_of (node kind mark left right) = parts_of left ++ (parts_of right ++ (part kind mark (snoc left right) ∷ []))
parts_of (snoc before last) = parts_of before ++ parts_of last

-- "Kinds with marks": the classes of the tokens that mark parts of a kind
pub data Marker : Type 0 where
  marker : ℕ → List ℕ → Marker

-- "5 object, 6 parenthesised (itself or its group); 7 function expression and 19 declaration (`function`); 8 member (name after the dot); 9 call (its group);
-- .. 13 expression statement (`;`); 14 bare and 15 full return (word); 16 block (group); 17 label (name); 18 if (word)"; document 02, U2: "21 array and 22 index
-- are marked by their group"; a group stands at its opener. 27 is marked by `new`, as 28 is, 29 and 30 by `++` and `--` after their operand, 36 and 37 by `+` and `-`
-- before it; 75, a variable, by its name, 76 by its `;`, 81 by `for`, 82 and 84 by `continue` and `break`
abbrev pub markers : List Marker
markers =
    marker object_syntax (open_brace ∷ []) ∷
    marker parenthesised_syntax (open_paren ∷ []) ∷
    marker function_syntax (function_word ∷ []) ∷
    marker member_syntax (name ∷ word_name ∷ []) ∷
    marker call_syntax (open_paren ∷ []) ∷
    marker expression_syntax (semicolon ∷ []) ∷
    marker bare_return_syntax (return_word ∷ []) ∷
    marker full_return_syntax (return_word ∷ []) ∷
    marker block_syntax (open_brace ∷ []) ∷
    marker label_syntax (name ∷ []) ∷
    marker if_syntax (if_word ∷ []) ∷
    marker declaration_syntax (function_word ∷ []) ∷
    marker array_syntax (open_bracket ∷ []) ∷
    marker index_syntax (open_bracket ∷ []) ∷
    marker construct_syntax (new_word ∷ []) ∷
    marker incremented_syntax (increment ∷ []) ∷
    marker decremented_syntax (decrement ∷ []) ∷
    marker positive_syntax (plus ∷ []) ∷
    marker negative_syntax (minus ∷ []) ∷
    marker variable_syntax (name ∷ []) ∷
    marker empty_syntax (semicolon ∷ []) ∷
    marker for_in_syntax (for_word ∷ []) ∷
    marker bare_continue_syntax (continue_word ∷ []) ∷
    marker bare_break_syntax (break_word ∷ []) ∷
    []

-- of all other kinds the class is the kind's own number: names, numbers, strings and regular expressions, value words, operators and words of statements; no kind
-- is above the last
abbrev pub last_kind : ℕ
last_kind = debugger_word

abbrev pub classes_in : List Marker → ℕ → List ℕ
classes_in [] kind = cond (leb kind last_kind) (kind ∷ []) []
classes_in (marker k classes ∷ rest) kind = cond (eqb kind k) classes (classes_in rest kind)

abbrev pub marking : ℕ → List ℕ
marking kind = classes_in markers kind

-- among all tokens is one with this mark, of a class that marks parts of the kind
pub record MarkedByToken (all : List Token) (kind mark : ℕ) : Type 0 where
  pub class : ℕ
  pub spot : Spot
  pub among : Memᴰ (token class spot) all
  pub own : spot.mark ≡ mark
  pub marks : T (is_among (marking kind) class)

-- "in text order": all marks of the first piece of a part, and of what stands before another, are before all of the second
pub data InOrder : Syntax → Type 0 where
  order_none : InOrder nil
  order_part : {kind mark : ℕ} {left right : Syntax} → InOrder left → InOrder right
      → ((m n : ℕ) → Memᴰ m (marks_of left) → Memᴰ n (marks_of right) → m < n) → InOrder (node kind mark left right)
  order_both : {before last : Syntax} → InOrder before → InOrder last
      → ((m n : ℕ) → Memᴰ m (marks_of before) → Memᴰ n (marks_of last) → m < n) → InOrder (snoc before last)
