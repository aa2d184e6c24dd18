-- Classes of trees that have the same rank are the same.
use mathlib.Core.Path.{◌≡◌, refl, ap, sym, ◌∙◌}
use mathlib.Core.Bool.{Bool}
use mathlib.Core.List.{[], ◌∷◌}
use Prim.Native.Nat.{ℕ}
use lib.Dec.{T, eqb, eqb→eq}
use lib.ListN.{get_or}
use Rattle.vocabulary.specs.RuleClasses.{Class, name, value, operator, question, answer, colon, dot, comma, semicolon, other, return_word, function_word, head_word, parens, brackets, object, block, rank}

abbrev pub is_class : Class → Class → Bool
is_class class x = eqb (rank x) (rank class)

class_at : ℕ → Class
class_at n = get_or (name ∷ value ∷ operator ∷ question ∷ answer ∷ colon ∷ dot ∷ comma ∷ semicolon ∷ other ∷ return_word ∷ function_word ∷ head_word ∷ parens ∷ brackets ∷ object ∷ block ∷ []) n other

at_rank : (x : Class) → class_at (rank x) ≡ x
unfolding class_at
at_rank name = refl
at_rank value = refl
at_rank operator = refl
at_rank question = refl
at_rank answer = refl
at_rank colon = refl
at_rank dot = refl
at_rank comma = refl
at_rank semicolon = refl
at_rank other = refl
at_rank return_word = refl
at_rank function_word = refl
at_rank head_word = refl
at_rank parens = refl
at_rank brackets = refl
at_rank object = refl
at_rank block = refl

pub is-class : (class x : Class) → T (is_class class x) → x ≡ class
is-class class x t = sym (at_rank x) ∙ ap class_at (eqb→eq (rank x) (rank class) t) ∙ at_rank class
