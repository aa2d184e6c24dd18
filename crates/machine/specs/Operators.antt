-- ES5.1 chapter 11, as document 01 has it and document 02, U4 and U6, adds to it: operators and their precedences, by the table of words and signs.
use Rattle.std.specs.Prelude.{ℕ, zero, suc, Bool, true, false, cond, ◌&&◌, List, [], ◌∷◌, ◌++◌, eqb, leb}
use Rattle.vocabulary.specs.Vocabulary.{Row, words, signs, token_class, precedence_of}
use Rattle.machine.specs.Tokens.{plus, minus, increment, decrement, complement, negation, delete_word, void_word, typeof_word, in_word}
use Rattle.machine.specs.Syntax.{positive_syntax, negative_syntax, incremented_syntax, decremented_syntax}

-- an operator between two operands: its class, which is the kind of its part, and its precedence
pub data Operator : Type 0 where
  operator : ℕ → ℕ → Operator

-- the words and signs that have a precedence
abbrev with_precedence : ℕ → ℕ → List Operator → List Operator
with_precedence zero class rest = rest
with_precedence (suc precedence) class rest = operator class (suc precedence) ∷ rest

abbrev pub operators_in : List Row → List Operator
operators_in [] = []
operators_in (row ∷ rows) = with_precedence (precedence_of row) (token_class row) (operators_in rows)

abbrev pub operators : List Operator
operators = operators_in (words ++ signs)

abbrev pub precedence_among : List Operator → ℕ → ℕ
precedence_among [] class = 0
precedence_among (operator x precedence ∷ rest) class = cond (eqb class x) precedence (precedence_among rest class)

abbrev pub precedence : ℕ → ℕ
precedence class = precedence_among operators class

-- the classes of operators whose precedence passes a test
abbrev kept : Bool → ℕ → List ℕ → List ℕ
kept true class rest = class ∷ rest
kept false class rest = rest

abbrev pub classes_where : (ℕ → Bool) → List Operator → List ℕ
classes_where test [] = []
classes_where test (operator class precedence ∷ rest) = kept (test precedence) class (classes_where test rest)

-- 11.13: `=` and the eleven others; 11.5 to 11.11: the binary operators, from `||` up
abbrev pub assignment_precedence : ℕ
assignment_precedence = 2

abbrev pub least_binary : ℕ
least_binary = 3

abbrev pub assignment_operators : List ℕ
assignment_operators = classes_where (eqb assignment_precedence) operators

abbrev pub binary_operators : List ℕ
binary_operators = classes_where (leb least_binary) operators

-- a list but for one class
abbrev pub without : ℕ → List ℕ → List ℕ
without x [] = []
without x (class ∷ rest) = cond (eqb class x) (without x rest) (class ∷ without x rest)

-- 12.6, NoIn: before the first `;` or the `in` of the head of a `for`, `in` is no operator
abbrev pub binary_operators_by : Bool → List ℕ
binary_operators_by true = binary_operators
binary_operators_by false = without in_word binary_operators

-- 11.4: the operators before one operand, and the kinds of their parts
abbrev pub prefix_operators : List ℕ
prefix_operators = delete_word ∷ void_word ∷ typeof_word ∷ increment ∷ decrement ∷ plus ∷ minus ∷ complement ∷ negation ∷ []

abbrev pub prefix_kind : ℕ → ℕ
prefix_kind class = cond (eqb class plus) positive_syntax (cond (eqb class minus) negative_syntax class)

-- 11.3: those after one
abbrev pub postfix_operators : List ℕ
postfix_operators = increment ∷ decrement ∷ []

abbrev pub postfix_kind : ℕ → ℕ
postfix_kind class = cond (eqb class increment) incremented_syntax decremented_syntax

-- a class is in a list
abbrev pub is_among : List ℕ → ℕ → Bool
is_among [] class = false
is_among (x ∷ rest) class = cond (eqb class x) true (is_among rest class)

-- a test holds of each class of a list
abbrev pub each_class : (ℕ → Bool) → List ℕ → Bool
each_class test [] = true
each_class test (x ∷ rest) = test x && each_class test rest
