-- Classes of tokens that are trees by themselves, with the classes that these trees have for the prefix rule, and of delimiters.
use mathlib.Core.Path.{◌≡◌, refl}
use mathlib.Core.Bool.{Bool, true, false, not, cond, ◌&&◌, ◌||◌}
use mathlib.Core.List.{List, [], ◌∷◌, ◌++◌}
use Prim.Native.Nat.{ℕ}
use lib.Dec.{T, T_not, eqb}
use Rattle.text.proofs.Members.{all_in, at, is_in, found}
use Rattle.vocabulary.specs.Vocabulary.{Row, words, signs, rule_class, token_class}
use Rattle.rule.specs.Trees.{paren_kind, object_kind, block_kind, bracket_kind}
use Rattle.rule.specs.Rule.{Class}
use Rattle.machine.specs.Tokens.{name, number, string, pattern, colon, open_paren, close_paren, open_brace, close_brace, open_bracket, close_bracket, word_name}
use Rattle.machine.specs.Operators.{postfix_operators, is_among}

-- a test that passes
pub holds : (b : Bool) → T b → b ≡ true
holds true t = refl
holds false t = absurd t

-- a test that fails
pub fails : (b : Bool) → T (not b) → b ≡ false
fails true t = absurd t
fails false t = refl

-- a class of tokens that are trees by themselves, and the class of these trees
pub data TreeRow : Type 0 where
  is : ℕ → Class → TreeRow

-- delimiters by their classes
abbrev pub opens_group : ℕ → Bool
opens_group class = eqb class open_paren || eqb class open_bracket || eqb class open_brace

abbrev pub closes_group : ℕ → Bool
closes_group class = eqb class close_paren || eqb class close_bracket || eqb class close_brace

-- words and signs by their rows; a delimiter is no tree by itself
abbrev with_row : ℕ → Class → List TreeRow → List TreeRow
with_row class tree rest = cond (eqb class 0 || (opens_group class || closes_group class)) rest (is class tree ∷ rest)

abbrev tree_rows : List Row → List TreeRow
tree_rows [] = []
tree_rows (row ∷ rows) = with_row (token_class row) (rule_class row) (tree_rows rows)

abbrev leaves : List TreeRow
leaves =
    is name Class.name
    ∷ is number Class.value
    ∷ is string Class.value
    ∷ is pattern Class.value
    ∷ is word_name Class.name
    ∷ tree_rows (words ++ signs)

abbrev classes_of : List TreeRow → List ℕ
classes_of [] = []
classes_of (is x tree ∷ rows) = x ∷ classes_of rows

abbrev tree_in : List TreeRow → ℕ → Class
tree_in [] class = Class.other
tree_in (is x tree ∷ rows) class = cond (eqb class x) tree (tree_in rows class)

unfoldable pub is_leaf : ℕ → Bool
is_leaf class = is_in (classes_of leaves) class

unfoldable pub tree_class : ℕ → Class
tree_class class = tree_in leaves class

-- the kind of the group that an opener opens, by whether a brace opens an object there
abbrev pub opened_kind : Bool → ℕ → ℕ
opened_kind object class = cond (eqb class open_paren) paren_kind (cond (eqb class open_bracket) bracket_kind (cond object object_kind block_kind))

-- whether a closer closes a group of a kind
abbrev pub closes_kind : ℕ → ℕ → Bool
closes_kind class kind =
    cond (eqb class close_paren) (eqb kind paren_kind)
    (cond (eqb class close_bracket) (eqb kind bracket_kind)
    (eqb kind object_kind || eqb kind block_kind))

-- what each leaf's class passes
pub each_leaf : (test : ℕ → Bool) → T (all_in test (classes_of leaves)) → (class : ℕ) → T (is_leaf class) → T (test class)
unfolding is_leaf
each_leaf test all class l = at test (found (classes_of leaves) class l) all

-- a class that passes a test which no leaf's class passes is no leaf's
pub no_leaf : (test : ℕ → Bool) → T (all_in (λ class. not (test class)) (classes_of leaves)) → (class : ℕ) → T (is_leaf class) → T (test class) → ⊥
unfolding is_leaf
no_leaf test none class l t = T_not (test class) (at (λ class. not (test class)) (found (classes_of leaves) class l) none) t

-- `++` and `--`, whose trees the rule tells apart by what stands before them
abbrev pub is_update : ℕ → Bool
is_update class = is_among postfix_operators class

-- the class of the tree that a token of a class makes, by whether `++` or `--` there stands before its operand, and whether a `?` is open there
unfoldable pub settled_class : Bool → Bool → ℕ → Class
settled_class before asked class =
    cond (is_update class) (cond before Class.operator Class.value)
    (cond (eqb class colon && asked) Class.answer
    (tree_class class))
