-- Document 01, Prefix rule, and document 02, U1, U2, U4 and U6: over the trees before on the same level. "Last" is the tree before, on the same level.
use Rattle.std.specs.Prelude.{ℕ, ◌+◌, ◌-◌, Bool, true, false, not, cond, ◌&&◌, ◌||◌, List, [], ◌∷◌, eqb, ltb}
use Rattle.elements.specs.Elements.{name_kind, word_kind, sign_kind, number_of_sign}
use Rattle.signs.specs.Signs.{longest_sign}
use Rattle.text.specs.Quoted.{bytes}
use Rattle.elements.specs.declared.Element.{Element}
use Rattle.vocabulary.specs.Vocabulary.{words, signs, rule_class, row_at}
pub use Rattle.vocabulary.specs.RuleClasses.{Class, name, value, operator, question, answer, colon, dot, comma, semicolon, other, return_word, function_word, head_word, parens, brackets, object, block, rank}
use Rattle.rule.specs.Trees.{Trees, none, leaf, group, paren_kind, object_kind, bracket_kind, before_kind, after_kind, answer_kind}

-- the class of the reserved word, and of the sign, of a number
abbrev pub word_class : ℕ → Class
word_class which = rule_class (row_at words which)

abbrev pub sign_class : ℕ → Class
sign_class which = rule_class (row_at signs which)

-- the class of an element that is no delimiter, by its kind: 1, 2, 6, 11 and 13; else it is a number, string or regular expression, or `++` or
-- `--` after its operand, kind 12
unfoldable pub element_class : Element → Class
unfolding row_at
element_class e =
    cond (eqb e.kind name_kind) name
    (cond (eqb e.kind word_kind) (word_class e.which)
    (cond (eqb e.kind sign_kind) (sign_class e.which)
    (cond (eqb e.kind before_kind) operator
    (cond (eqb e.kind answer_kind) answer
    value))))

-- the class of a group: kinds 7, 8 and 10, and else a block, kind 9
unfoldable pub group_class : ℕ → Class
group_class kind = cond (eqb kind paren_kind) parens (cond (eqb kind object_kind) object (cond (eqb kind bracket_kind) brackets block))

-- a tree before, and whether a line end lies before it
pub data Before : Type 0 where
  tree : Class → Bool → Before

-- the trees before, last first
unfoldable pub backwards : Trees → List Before
backwards none = []
backwards (leaf before e) = tree (element_class e) e.newline ∷ backwards before
backwards (group before kind first end newline within) = tree (group_class kind) newline ∷ backwards before

-- "`{` opens an object when: .. last is `/`, `+` or `=`; last is `:` on an expression level; last is `return` and no line
-- end lies between. Otherwise it opens a block." Document 02, U2: "A `{` after `,` opens an object". U4: "`{` opens an object after kinds 11 and 13,
-- after any other added operator, and never after kind 12." U6: "`{` after `;` on an expression level opens an object. After `case` it does so too, and
-- after `throw` as after `return`." `newline` says whether a line end lies between last and the brace.
abbrev pub object_after : Bool → Class → Bool → Bool
object_after expression name newline = false
object_after expression value newline = false
object_after expression operator newline = true
object_after expression question newline = true
object_after expression answer newline = true
object_after expression colon newline = expression
object_after expression dot newline = false
object_after expression comma newline = true
object_after expression semicolon newline = expression
object_after expression other newline = false
object_after expression return_word newline = not newline
object_after expression function_word newline = false
object_after expression head_word newline = false
object_after expression parens newline = false
object_after expression brackets newline = false
object_after expression object newline = false
object_after expression block newline = false

-- ".. there is no last and the level is an expression level"
unfoldable pub opens_object : Bool → List Before → Bool → Bool
opens_object expression [] newline = expression
opens_object expression (tree last l ∷ before) newline = object_after expression last newline

-- a tree of a class
abbrev pub is : Class → Class → Bool
is class c = eqb (rank c) (rank class)

-- the last tree is of a class
abbrev pub ends_with : Class → List Before → Bool
ends_with class [] = false
ends_with class (tree last l ∷ before) = is class last

-- "`/` opens a regular expression when: .. last is a sign or a reserved word; last is `( )` preceded by `if`; last is a
-- block. It divides after a name, number, string, regular expression, object or other `( )`." Document 02, U2: "a `/` after a bracket group
-- divides"; `,` is a sign. U4: "The four value words are followed by a divide."; "a slash divides after 12, not after 11 or 13". U6: "A slash after `( )`
-- preceded by `while`, `for` or `with` opens a pattern."
abbrev pub pattern_after : Class → List Before → Bool
pattern_after name before = false
pattern_after value before = false
pattern_after operator before = true
pattern_after question before = true
pattern_after answer before = true
pattern_after colon before = true
pattern_after dot before = true
pattern_after comma before = true
pattern_after semicolon before = true
pattern_after other before = true
pattern_after return_word before = true
pattern_after function_word before = true
pattern_after head_word before = true
pattern_after parens before = ends_with head_word before
pattern_after brackets before = false
pattern_after object before = false
pattern_after block before = true

-- ".. there is no last"
abbrev pub plainly : List Before → Bool
plainly [] = true
plainly (tree last l ∷ before) = pattern_after last before

-- "Exception: if the level ends with `function`, name, `( )`, `{ }`, the slash divides exactly when a `{` standing in place of that
-- `function`, with the same line ends before it, would open an object.": one clause over the last four trees. Behind `( )` a brace is a block
abbrev pub excepted : Bool → List Before → Bool → Bool
excepted expression [] plain = plain
excepted expression (one ∷ []) plain = plain
excepted expression (two ∷ one ∷ []) plain = plain
excepted expression (three ∷ two ∷ one ∷ []) plain = plain
excepted expression (tree four k ∷ tree three l ∷ tree two m ∷ tree one newline ∷ before) plain =
    cond (is block four && (is parens three && (is name two && is function_word one))) (not (opens_object expression before newline)) plain

-- Document 02, U2: "the function exception covers the unnamed form": the level ends with `function`, `( )`, `{ }`
abbrev pub unnamed_excepted : Bool → List Before → Bool → Bool
unnamed_excepted expression [] plain = plain
unnamed_excepted expression (one ∷ []) plain = plain
unnamed_excepted expression (two ∷ one ∷ []) plain = plain
unnamed_excepted expression (tree three k ∷ tree two l ∷ tree one newline ∷ before) plain =
    cond (is block three && (is parens two && is function_word one)) (not (opens_object expression before newline)) plain

-- whether a slash opens a regular expression: by the last tree, but for the two forms of the function exception
unfoldable pub opens_pattern : Bool → List Before → Bool
opens_pattern expression ts = excepted expression ts (unnamed_excepted expression ts (plainly ts))

-- Document 02, U2: "In an object brace a reserved word standing first or after `,` is a name, without 7."
abbrev pub stands_as_property : List Before → Bool
stands_as_property [] = true
stands_as_property (tree last l ∷ before) = is comma last

-- Document 02, U1: "A reserved word whose last tree is the sign `.` becomes a name". `inObject` says whether the level is that of an object brace
unfoldable pub names_word : Bool → List Before → Bool
names_word inObject ts = ends_with dot ts || (inObject && stands_as_property ts)

-- how many `?`s of a level are unanswered behind a tree of a class, of so many before it. Document 02, U4: "`;` forgets open ones"
abbrev pub leaving : Class → ℕ → ℕ
leaving class questions =
    cond (is semicolon class) 0
    (cond (is question class) (questions + 1)
    (cond (is answer class) (questions - 1)
    questions))

-- "an unanswered `?` of its level": how many there are
unfoldable pub unanswered : List Before → ℕ
unanswered [] = 0
unanswered (tree class l ∷ before) = leaving class (unanswered before)

-- the numbers of `++`, `--` and `:` among the signs
abbrev pub increment_sign : ℕ
increment_sign = number_of_sign (longest_sign (bytes "++"))

abbrev pub decrement_sign : ℕ
decrement_sign = number_of_sign (longest_sign (bytes "--"))

abbrev pub colon_sign : ℕ
colon_sign = number_of_sign (longest_sign (bytes ":"))

-- Document 02, U4: "`++` or `--` is kind 12 (after) when a slash in its place would divide and no line end precedes it, else kind 11 (before)"; "A
-- `:` answering an unanswered `?` of its level is kind 13". Every other sign is of kind 6
abbrev pub settled_sign : Bool → ℕ → Bool → ℕ → ℕ
settled_sign opens questions newline which =
    cond (eqb which increment_sign || eqb which decrement_sign) (cond (opens || newline) before_kind after_kind)
    (cond (eqb which colon_sign && ltb 0 questions) answer_kind
    sign_kind)

-- the kind of an element behind trees of its level
unfoldable pub settled_kind : Bool → List Before → Element → ℕ
settled_kind expression ts e =
    cond (eqb e.kind sign_kind) (settled_sign (opens_pattern expression ts) (unanswered ts) e.newline e.which) e.kind
