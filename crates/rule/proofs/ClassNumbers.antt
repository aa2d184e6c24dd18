-- The classes of words and signs by their numbers, as the code of the rule compares them. One test over the rows ties each comparison to them.
use mathlib.Core.Path.{◌≡◌, refl, sym}
use mathlib.Core.Bool.{Bool, true, false}
use Prim.Native.Nat.{ℕ, suc, ◌-◌, ◌≤◌, ◌<◌}
use native.Mathlib.Omega.{arith}
use lib.Dec.{T, eqb, ltb}
use borrow.Author.Tests.{eq-eqb, le-ltb, ltb-true, ltb-false}
use Rattle.text.proofs.Range.{every, within, constant}
use Rattle.vocabulary.specs.Vocabulary.{words, signs, rule_class, row_at}
use Rattle.vocabulary.proofs.RowLaws.{at_other}
use Rattle.vocabulary.proofs.ClassLaws.{is_class, is-class}
use Rattle.rule.specs.Rule.{Class, rank, word_class, sign_class}

-- signs whose numbers lie in a range
in_range : (class : Class) (lo hi n : ℕ) → T (every (λ k. eqb (rank class) (rank (sign_class k))) lo (suc hi - lo)) → lo ≤ n → n ≤ hi → sign_class n ≡ class
in_range class lo hi n t l h =
    is-class class (sign_class n) (rw (eq-eqb (rank (sign_class n)) (rank class) (sym (constant (λ k. rank (sign_class k)) (rank class) lo hi n t l h))) tt)

-- no sign stands before the delimiters or behind the last, and no delimiter has a class of its own
pub first_signs : (which : ℕ) → which ≤ 9 → (which ≡ 7 → ⊥) → (which ≡ 8 → ⊥) → (which ≡ 9 → ⊥) → sign_class which ≡ Class.other
unfolding row_at
first_signs which h dot semicolon comma = in_range Class.other 0 6 which tt (omega arith) (omega arith)

pub past_signs : (which : ℕ) → 48 < which → sign_class which ≡ Class.other
past_signs which h =
    is-class Class.other (sign_class which)
    (at_other (λ row. is_class Class.other (rule_class row)) (λ number. ltb number 49) signs tt tt which (le-ltb which 49 (omega arith)))

-- from `<` on there are operators, but for `?` and `:`
pub operator_signs : (which : ℕ) → 9 < which → (which ≡ 34 → ⊥) → (which ≡ 35 → ⊥) → which ≤ 48 → sign_class which ≡ Class.operator
unfolding row_at
operator_signs which l q c h = go (ltb which 34) refl
  where
    go : (b : Bool) → ltb which 34 ≡ b → sign_class which ≡ Class.operator
    go true low = in_range Class.operator 10 33 which tt (omega arith) (omega (arith, ltb-true which 34 low))
    go false high = in_range Class.operator 36 48 which tt (omega (arith, ltb-false which 34 high)) (omega arith)

-- words whose numbers lie in a range, and none behind the last
pub words_in : (class : Class) (lo hi n : ℕ) → T (every (λ k. is_class class (word_class k)) lo (suc hi - lo)) → lo ≤ n → n ≤ hi → word_class n ≡ class
words_in class lo hi n t l h = is-class class (word_class n) (within (λ k. is_class class (word_class k)) lo hi n t l h)

pub past_words : (which : ℕ) → 36 < which → word_class which ≡ Class.other
past_words which h =
    is-class Class.other (word_class which)
    (at_other (λ row. is_class Class.other (rule_class row)) (λ number. ltb number 37) words tt tt which (le-ltb which 37 (omega arith)))
