-- Document 02, U4: "each added operator and value word makes one syntax record", in which its operands are; and U6, whose variables and heads of `for` have a
-- `=` and an `in` that are no operators.
use Rattle.std.specs.Prelude.{ℕ, ◌+◌, ◌<◌, ◌≡◌, Bool, false, T}
use mathlib.Core.List.{List, [], ◌∷◌, ◌++◌, map, Memᴰ}
use Rattle.machine.specs.Tokens.{Token, token, Spot, name, number, string, pattern, comma, colon, semicolon, dot, assign, in_word, this_word, null_word, true_word, false_word, new_word, question}
use Rattle.machine.specs.Operators.{assignment_operators, binary_operators, binary_operators_by, prefix_operators, prefix_kind, postfix_operators, postfix_kind, without, is_among}
use Rattle.machine.specs.Syntax.{Syntax, nil, snoc, member_syntax, call_syntax, index_syntax, construct_syntax, variable_syntax, for_in_syntax, marks_of}
use Rattle.recorded.specs.Parts.{Part, part, marking}

-- "`this`, `null`, `true`, `false`"
abbrev pub value_words : List ℕ
value_words = this_word ∷ null_word ∷ true_word ∷ false_word ∷ []

-- The tokens that mark a part wherever they stand: value words and operators, those of document 01 too, but `,`, which is an operator only "where
-- ES5.1 has Expression", and `=` and `in`, which behind the name of a variable and behind the start of a `for` are no operators (`Assigns` and `Relates`
-- below). `?` marks the conditional
abbrev pub recorded_classes : List ℕ
recorded_classes =
    value_words ++ (new_word ∷ question ∷ (prefix_operators ++ (postfix_operators ++ (binary_operators_by false ++ without assign assignment_operators))))

abbrev pub is_recorded : ℕ → Bool
is_recorded class = is_among recorded_classes class

-- an operand before a mark: it has marks, and all are before the given one
pub record StandsBefore (mark : ℕ) (operand : Syntax) : Type 0 where
  pub some : ℕ
  pub has : Memᴰ some (marks_of operand)
  pub before : (m : ℕ) → Memᴰ m (marks_of operand) → m < mark

-- an operand behind a mark: it has the next, and all its marks are behind the given one
pub record StandsBehind (mark : ℕ) (operand : Syntax) : Type 0 where
  pub next : Memᴰ (mark + 1) (marks_of operand)
  pub behind : (m : ℕ) → Memᴰ m (marks_of operand) → mark < m

-- the kinds of parts that are one token; of operators before their operand, and of `new` without arguments; of those after it; of those between two
abbrev pub leaf_kinds : List ℕ
leaf_kinds = name ∷ number ∷ string ∷ pattern ∷ value_words

abbrev pub prefix_kinds : List ℕ
prefix_kinds = new_word ∷ map prefix_kind prefix_operators

abbrev pub postfix_kinds : List ℕ
postfix_kinds = map postfix_kind postfix_operators

abbrev pub infix_kinds : List ℕ
infix_kinds = comma ∷ (binary_operators ++ assignment_operators)

abbrev pub operand_kinds : List ℕ
operand_kinds =
    leaf_kinds ++ (prefix_kinds ++ (postfix_kinds ++ (member_syntax ∷ call_syntax ∷ index_syntax ∷ construct_syntax ∷ question ∷ infix_kinds)))

-- all marks of a list of arguments, which may have none, are behind a mark
abbrev pub AllBehind : ℕ → Syntax → Type 0
AllBehind mark arguments = (m : ℕ) → Memᴰ m (marks_of arguments) → mark < m

-- What a part of such a kind holds: nothing; its operand; what is constructed, called or indexed, or what a member is of, and the arguments or the index; both
-- operands; or the three of a conditional, of which the last two stand before and behind a mark that is in neither
pub data Operands : ℕ → ℕ → Syntax → Type 0 where
  no_operand : {kind mark : ℕ} → T (is_among leaf_kinds kind) → Operands kind mark (snoc nil nil)
  operand_behind : {kind mark : ℕ} {operand : Syntax} → T (is_among prefix_kinds kind) → StandsBehind mark operand → Operands kind mark (snoc nil operand)
  operand_before : {kind mark : ℕ} {operand : Syntax} → T (is_among postfix_kinds kind) → StandsBefore mark operand → Operands kind mark (snoc operand nil)
  member_of : {mark : ℕ} {object : Syntax} → StandsBefore mark object → Operands member_syntax mark (snoc object nil)
  callee_before : {mark : ℕ} {callee arguments : Syntax} → StandsBefore mark callee → AllBehind mark arguments → Operands call_syntax mark (snoc callee arguments)
  object_and_index : {mark : ℕ} {object value : Syntax} → StandsBefore mark object → StandsBehind mark value → Operands index_syntax mark (snoc object value)
  callee_behind : {mark : ℕ} {callee arguments : Syntax} → StandsBehind mark callee → AllBehind mark arguments
      → Operands construct_syntax mark (snoc callee arguments)
  two_operands : {kind mark : ℕ} {left right : Syntax} → T (is_among infix_kinds kind) → StandsBefore mark left → StandsBehind mark right
      → Operands kind mark (snoc left right)
  three_operands : {mark between : ℕ} {condition first second : Syntax} → StandsBefore mark condition → StandsBehind mark first → StandsBefore between first
      → StandsBehind between second → Operands question mark (snoc (snoc condition first) second)

-- a token of this class makes a part with this mark, of a kind that tokens of this class mark (Parts.antt), which holds what such a part must
pub record Makes (class mark : ℕ) (parts : List Part) : Type 0 where
  pub kind : ℕ
  pub inside : Syntax
  pub among : Memᴰ (part kind mark inside) parts
  pub marks : T (is_among (marking kind) class)
  pub holds : Operands kind mark inside

-- the tokens that mark no part wherever they stand, but for closers: `:`, that of a conditional too, and `.`
abbrev pub unrecorded_classes : List ℕ
unrecorded_classes = colon ∷ dot ∷ []

-- no part has this mark
abbrev pub Unmarked : ℕ → List Part → Type 0
Unmarked mark parts = (kind : ℕ) (inside : Syntax) → Memᴰ (part kind mark inside) parts → ⊥

-- Document 02, U6, "as in ES5.1 chapter 12"; 12.2, a variable with an Initialiser: the `=` stands directly behind the name, which marks the variable, and
-- before the value
pub record Initialises (called mark : ℕ) (value : Syntax) : Type 0 where
  pub beside : called + 1 ≡ mark
  pub value_behind : StandsBehind mark value

-- a `,` makes a record as other operators do, the comma operator's; or it makes none
pub data Joins (mark : ℕ) (parts : List Part) : Type 0 where
  joins : Makes comma mark parts → Joins mark parts
  separates : Unmarked mark parts → Joins mark parts

-- a `=` makes a record as other operators do; or it makes none and initialises a variable
pub data Assigns (mark : ℕ) (parts : List Part) : Type 0 where
  assigns : Makes assign mark parts → Assigns mark parts
  initialises : {called : ℕ} {value : Syntax} → Memᴰ (part variable_syntax called (snoc nil value)) parts → Initialises called mark value
      → Unmarked mark parts → Assigns mark parts

-- 12.6.4: "for ( LeftHandSideExpression in Expression ) Statement", or `var` and one variable before the `in`. That `in` stands behind all marks of the
-- start, which begins behind `for (`, and before all others in the part, of which the object has the next. Each such part has one (`ForIn` below) and no
-- second (`one_in` of proofs/Recorded.antt): an operator `in` of its start is not behind them all, nor one of its object or statement before the others
pub record Iterates (word mark : ℕ) (start object inner : Syntax) : Type 0 where
  pub begins : Memᴰ (word + 2) (marks_of start)
  pub before : (m : ℕ) → Memᴰ m (marks_of start) → m < mark
  pub next : Memᴰ (mark + 1) (marks_of object)
  pub behind : (m : ℕ) → Memᴰ m (marks_of object ++ marks_of inner) → mark < m

-- an `in` makes a record as other operators do; or it makes none and is that of a `for`
pub data Relates (mark : ℕ) (parts : List Part) : Type 0 where
  relates : Makes in_word mark parts → Relates mark parts
  iterates : {word : ℕ} {start object inner : Syntax} → Memᴰ (part for_in_syntax word (snoc (snoc (snoc nil start) object) inner)) parts
      → Iterates word mark start object inner → Unmarked mark parts → Relates mark parts

-- The other way round: each part of a variable has its `=` among all tokens, which makes no record; or it is bare, and the token directly behind its name,
-- which has the next mark, is a `,`, a `;` or an `in`
abbrev pub behind_bare : List ℕ
behind_bare = comma ∷ semicolon ∷ in_word ∷ []

pub data Variable (all : List Token) (parts : List Part) (called : ℕ) : Syntax → Type 0 where
  initialised_variable : {sign : Spot} {value : Syntax} → Memᴰ (token assign sign) all → Initialises called sign.mark value
      → Unmarked sign.mark parts → Variable all parts called (snoc nil value)
  bare_variable : {class : ℕ} {next : Spot} → Memᴰ (token class next) all → T (is_among behind_bare class) → called + 1 ≡ next.mark
      → Variable all parts called (snoc nil nil)

-- and each of a `for` with an `in` has that `in` there, which makes none
pub data ForIn (all : List Token) (parts : List Part) (word : ℕ) : Syntax → Type 0 where
  for_in : {sign : Spot} {start object inner : Syntax} → Memᴰ (token in_word sign) all → Iterates word sign.mark start object inner
      → Unmarked sign.mark parts → ForIn all parts word (snoc (snoc (snoc nil start) object) inner)
