-- What a derivation says of its slashes, reserved words, braces, `++`, `--` and `:`, and what tree records show of them.
use Rattle.std.specs.Prelude.{ℕ, ◌+◌, ◌*◌, ◌≤◌, ◌≡◌, Bool, false, cond, ◌&&◌, ◌||◌, T, eqb, length, get_or}
use mathlib.Core.List.{List, [], ◌∷◌, ◌++◌, Memᴰ}
use Rattle.elements.specs.Elements.{word_kind, pattern_kind, sign_kind, delimiter_kind, paren_opener, brace_opener, bracket_opener}
use Rattle.elements.specs.declared.Element.{Element}
use Rattle.rule.specs.Trees.{paren_kind, bracket_kind, before_kind, after_kind}
use Rattle.rule.specs.Rule.{increment_sign, decrement_sign}
use Rattle.tables.specs.Records.{tree_width}
use Rattle.derivations.specs.Tokens.{Token, increment, decrement}
use Rattle.machine.specs.Syntax.{Syntax, incremented_syntax, decremented_syntax}
use Rattle.derivations.specs.Cuts.{is_closer, Cuts, cut_end, cut_element, cut_slash, cut_word}
use Rattle.grammar.specs.Grammar.{
  Form,
  Derives,
  no_statements,
  add_statement,
  add_declaration,
  block_all,
  statement_block,
  statement_expression,
  statement_var,
  no_variables,
  add_variable,
  variable_bare,
  variable_initialised,
  statement_empty,
  statement_if,
  statement_else,
  statement_do,
  statement_head,
  statement_for,
  statement_for_var,
  left_out,
  not_left_out,
  statement_for_in,
  statement_for_var_in,
  statement_bare_jump,
  statement_jump,
  statement_bare_return,
  statement_full_return,
  statement_switch,
  no_clauses,
  add_case,
  add_default,
  statement_throw,
  statement_try,
  statement_try_finally,
  statement_try_all,
  catch_all,
  finally_all,
  statement_debugger,
  statement_label,
  function_all,
  expression_assign,
  expression_comma,
  assign_binary,
  assign_to,
  assign_conditional,
  binary_unary,
  binary_operator,
  unary_target,
  unary_prefix,
  unary_postfix,
  target_chain,
  target_new,
  chain_leaf,
  chain_array,
  chain_object,
  chain_parens,
  chain_function,
  chain_unnamed,
  chain_index,
  chain_call,
  chain_new,
  chain_member,
  is_among,
  postfix_operators,
  no_items,
  add_item,
  add_hole,
  list_empty,
  list_items,
  list_last,
}
use Rattle.recorded.specs.Parts.{part, parts_of}
use Rattle.derivations.specs.Derivations.{Derivation, count_trees}
use Rattle.derivations.specs.TreeElements.{unsettled_kind}
use Rattle.derivations.specs.Senses.{Sense, object_at, block_at, before_at, after_at, answer_at, sense_of}

-- Document 01, Grammar: a slash "is taken as a regular expression or as the longest sign at that place": the first bytes of those
-- that a choice takes as regular expressions
unfoldable pub patterns_of : {text : List ℕ} {place : ℕ} {choice : List Bool} {es : List Element} → Cuts text place choice es → List ℕ
patterns_of (cut_end left) = []
patterns_of (cut_element slash word found rest) = patterns_of rest
patterns_of (cut_slash {e = e} {answer = answer} met found rest) = cond answer (e.first ∷ []) [] ++ patterns_of rest
patterns_of (cut_word met found rest) = patterns_of rest

-- the first bytes of the reserved words that a choice takes as words; the others it takes as names
unfoldable pub words_of : {text : List ℕ} {place : ℕ} {choice : List Bool} {es : List Element} → Cuts text place choice es → List ℕ
words_of (cut_end left) = []
words_of (cut_element slash word found rest) = words_of rest
words_of (cut_slash met found rest) = words_of rest
words_of (cut_word {e = e} {answer = answer} met found rest) = cond answer [] (e.first ∷ []) ++ words_of rest

-- The senses of a derivation, in text order. The braces of a Chain with properties, or none, are objects; the "block holding a body" of a
-- Function, the "block of statements" and the clauses of a `switch` are blocks; `++` or `--` of a Unary stands before it or after it; the `:` of a conditional is an answer, and
-- any other has no sense. A derivation says so by its steps: nothing of the prefix rule is here.
unfoldable pub senses_of : {form : Form} {before after : List Token} {value : Syntax} → Derives form before after value → List Sense
senses_of no_statements = []
senses_of (add_statement statements last) = senses_of statements ++ senses_of last
senses_of (add_declaration statements function) = senses_of statements ++ senses_of function
senses_of (block_all {opener = opener} statements) = block_at opener.first ∷ senses_of statements
senses_of (statement_block inner) = senses_of inner
senses_of (statement_expression allowed value) = senses_of value
senses_of (statement_var variables last) = senses_of variables ++ senses_of last
senses_of no_variables = []
senses_of (add_variable variables last) = senses_of variables ++ senses_of last
senses_of variable_bare = []
senses_of (variable_initialised value) = senses_of value
senses_of statement_empty = []
senses_of (statement_if alone condition inner) = senses_of condition ++ senses_of inner
senses_of (statement_else condition first second) = senses_of condition ++ (senses_of first ++ senses_of second)
senses_of (statement_do inner condition) = senses_of inner ++ senses_of condition
senses_of (statement_head word head inner) = senses_of head ++ senses_of inner
senses_of (statement_for start condition step inner) = senses_of start ++ (senses_of condition ++ (senses_of step ++ senses_of inner))
senses_of (statement_for_var variables last condition step inner) =
    senses_of variables ++ (senses_of last ++ (senses_of condition ++ (senses_of step ++ senses_of inner)))
senses_of left_out = []
senses_of (not_left_out value) = senses_of value
senses_of (statement_for_in target object inner) = senses_of target ++ (senses_of object ++ senses_of inner)
senses_of (statement_for_var_in variable object inner) = senses_of variable ++ (senses_of object ++ senses_of inner)
senses_of (statement_bare_jump word) = []
senses_of (statement_jump word same) = []
senses_of statement_bare_return = []
senses_of (statement_full_return same value) = senses_of value
senses_of (statement_switch {opener = opener} subject clauses) = senses_of subject ++ (block_at opener.first ∷ senses_of clauses)
senses_of no_clauses = []
senses_of (add_case clauses test statements) = senses_of clauses ++ (senses_of test ++ senses_of statements)
senses_of (add_default clauses statements) = senses_of clauses ++ senses_of statements
senses_of (statement_throw same value) = senses_of value
senses_of (statement_try alone inner handler) = senses_of inner ++ senses_of handler
senses_of (statement_try_finally inner last) = senses_of inner ++ senses_of last
senses_of (statement_try_all inner handler last) = senses_of inner ++ (senses_of handler ++ senses_of last)
senses_of (catch_all inner) = senses_of inner
senses_of (finally_all inner) = senses_of inner
senses_of statement_debugger = []
senses_of (statement_label inner) = senses_of inner
senses_of (function_all {openBody = openBody} _ statements) = block_at openBody.first ∷ senses_of statements
senses_of (expression_assign value) = senses_of value
senses_of (expression_comma left right) = senses_of left ++ senses_of right
senses_of (assign_binary binary) = senses_of binary
senses_of (assign_to op target value) = senses_of target ++ senses_of value
senses_of (assign_conditional {answer = answer} condition first second) = senses_of condition ++ (senses_of first ++ (answer_at answer.first ∷ senses_of second))
senses_of (binary_unary unary) = senses_of unary
senses_of (binary_operator op tight left right) = senses_of left ++ senses_of right
senses_of (unary_target target) = senses_of target
senses_of (unary_prefix {class = class} {sign = sign} op value) = cond (is_among postfix_operators class) (before_at sign.first ∷ []) [] ++ senses_of value
senses_of (unary_postfix {sign = sign} op same target) = senses_of target ++ (after_at sign.first ∷ [])
senses_of (target_chain chain) = senses_of chain
senses_of (target_new target) = senses_of target
senses_of (chain_leaf leaf) = []
senses_of (chain_array values) = senses_of values
senses_of (chain_object {opener = opener} values) = object_at opener.first ∷ senses_of values
senses_of (chain_parens value) = senses_of value
senses_of (chain_function function) = senses_of function
senses_of (chain_unnamed function) = senses_of function
senses_of (chain_index object value) = senses_of object ++ senses_of value
senses_of (chain_call callee values) = senses_of callee ++ senses_of values
senses_of (chain_new callee values) = senses_of callee ++ senses_of values
senses_of (chain_member called object) = senses_of object
senses_of no_items = []
senses_of (add_item values begins last) = senses_of values ++ senses_of last
senses_of (add_hole values) = senses_of values
senses_of list_empty = []
senses_of (list_items allowed values) = senses_of values
senses_of (list_last values begins last) = senses_of values ++ senses_of last

-- Document 01, Records: "Tree record, five numbers ..: kind; first byte; ..": what records show, each by its kind and first byte
unfoldable pub shown_in : {A : Type 0} → (ℕ → ℕ → List A) → List ℕ → List A
shown_in show [] = []
shown_in show (kind ∷ []) = []
shown_in show (kind ∷ first ∷ []) = []
shown_in show (kind ∷ first ∷ end ∷ []) = []
shown_in show (kind ∷ first ∷ end ∷ number ∷ []) = []
shown_in show (kind ∷ first ∷ end ∷ number ∷ newline ∷ rest) = show kind first ++ shown_in show rest

-- "5 regular expression"
abbrev pub pattern_of : ℕ → ℕ → List ℕ
pattern_of kind first = cond (eqb kind pattern_kind) (first ∷ []) []

-- "2 word"
abbrev pub word_of : ℕ → ℕ → List ℕ
word_of kind first = cond (eqb kind word_kind) (first ∷ []) []

-- the record of an index in cells is that of an element or, if it is an opener, of its group: the group of a `(` is of kind 7, that of a `[` of kind 10 (of a `{`: `senses`
-- of `Shown`), and where a group ends is no part of its opener. A sign is of kind 6, 11, 12 or 13 (which: `senses` of `Shown`)
pub record RecordOf (cells : List ℕ) (index : ℕ) (e : Element) : Type 0 where
  pub within : tree_width * index + tree_width ≤ length cells
  pub kind : (e.kind ≡ delimiter_kind → ⊥) → unsettled_kind (get_or cells (tree_width * index) 0) ≡ e.kind
  pub parens : e.kind ≡ delimiter_kind → e.which ≡ paren_opener → get_or cells (tree_width * index) 0 ≡ paren_kind
  pub brackets : e.kind ≡ delimiter_kind → e.which ≡ bracket_opener → get_or cells (tree_width * index) 0 ≡ bracket_kind
  pub first : get_or cells (tree_width * index + 1) 0 ≡ e.first
  pub end : (e.kind ≡ delimiter_kind → ⊥) → get_or cells (tree_width * index + 2) 0 ≡ e.end
  pub newline : get_or cells (tree_width * index + 4) 0 ≡ cond e.newline 1 0

-- Document 01, Grammar: "Its tree records, for the marks, are its elements other than closers, in text order, a group standing at its
-- opener": the index of an element's record is the number of those before it, which is its token's mark (`token_marked` of
-- `derivations/proofs/Theorems.antt`)
abbrev pub Indexed : List Element → List ℕ → Type 0
Indexed es cells =
    (before : List Element) (e : Element) (after : List Element) → es ≡ before ++ (e ∷ after) → is_closer e ≡ false → RecordOf cells (count_trees before) e

-- each part of one of these syntax kinds is marked by a record of this tree kind
abbrev pub MarkedBy : List ℕ → ℕ → Syntax → List ℕ → Type 0
MarkedBy kinds tree parts cells =
    (kind mark : ℕ) (inside : Syntax) → Memᴰ (part kind mark inside) (parts_of parts) → T (is_among kinds kind) → get_or cells (tree_width * mark) 0 ≡ tree

-- Demand 3, of tree records in cells: those of kind 5 stand at exactly the slashes that the derivation takes as regular expressions; those of
-- kind 2 at exactly the reserved words that it takes as words; those of kind 8 at its objects, and those of kind 9 at all its other braces; those of kind
-- 11 and 12 at the `++` and `--` that stand before and after their operands in it, and those of kind 13 at the `:` of its conditionals; each element
-- but a closer has its record at its index; and a part of `++` or `--` is marked by a record of kind 12 if it is of kind 29 or 30, and by one of kind 11 if
-- its kind is their class, 34 or 35
pub record Shown {text : List ℕ} (d : Derivation text) (cells : List ℕ) : Type 0 where
  pub patterns : shown_in pattern_of cells ≡ patterns_of d.cut
  pub words : shown_in word_of cells ≡ words_of d.cut
  pub senses : shown_in sense_of cells ≡ senses_of d.steps
  pub indices : Indexed d.elements cells
  pub afters : MarkedBy (incremented_syntax ∷ decremented_syntax ∷ []) after_kind d.parts cells
  pub befores : MarkedBy (increment ∷ decrement ∷ []) before_kind d.parts cells

-- the first bytes of what has a sense, but for answers; and of the elements that are a `{`, `++` or `--`
unfoldable pub places_of : List Sense → List ℕ
places_of [] = []
places_of (object_at first ∷ senses) = first ∷ places_of senses
places_of (block_at first ∷ senses) = first ∷ places_of senses
places_of (before_at first ∷ senses) = first ∷ places_of senses
places_of (after_at first ∷ senses) = first ∷ places_of senses
places_of (answer_at first ∷ senses) = places_of senses

abbrev pub is_sensed : Element → Bool
is_sensed e =
    (eqb e.kind delimiter_kind && eqb e.which brace_opener)
    || (eqb e.kind sign_kind && (eqb e.which increment_sign || eqb e.which decrement_sign))

unfoldable pub sensed_in : List Element → List ℕ
sensed_in [] = []
sensed_in (e ∷ es) = cond (is_sensed e) (e.first ∷ []) [] ++ sensed_in es
