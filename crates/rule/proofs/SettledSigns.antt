-- The kind that the rule settles for a sign, by its number, as the code compares it.
use mathlib.Core.Path.{◌≡◌, refl}
use mathlib.Core.Bool.{Bool, true, false, cond, ◌||◌}
use Prim.Native.Nat.{ℕ, ◌≤◌, ◌<◌}
use native.Mathlib.Omega.{arith}
use lib.Dec.{eqb}
use borrow.Author.Tests.{eq-eqb, ne_eqb, eqb-false, lt-ltb, le-ltb}
use Rattle.text.specs.Runs.{same}
use Rattle.signs.specs.Signs.{longest_sign, longest_of}
use Rattle.elements.specs.Elements.{sign_kind}
use Rattle.rule.specs.Trees.{before_kind, after_kind, answer_kind}
use Rattle.rule.specs.Machinery.Summary.{one_question}
use Rattle.rule.specs.Machinery.LevelCodes.{slash_by_level, questions_in, settled_by_level}

module _ (level : ℕ) (newline : Bool) (which : ℕ) where
  -- `++` and `--`
  either : 22 ≤ which → which ≤ 23 → (eqb which 22 || eqb which 23) ≡ true
  either l h = go (eqb which 22) refl
    where
      go : (b : Bool) → eqb which 22 ≡ b → (b || eqb which 23) ≡ true
      go true e = refl
      go false e = eq-eqb which 23 (let n = eqb-false which 22 e in omega arith)

  settled_step : 22 ≤ which → which ≤ 23 → settled_by_level level newline which ≡ cond (slash_by_level level || newline) before_kind after_kind
  unfolding settled_by_level longest_sign longest_of same
  settled_step l h = rw (either l h)

  module _ (l : 22 ≤ which) (h : which ≤ 23) where
    pub settled_newline : newline ≡ true → before_kind ≡ settled_by_level level newline which
    settled_newline e = rw (settled_step l h, e) (go (slash_by_level level))
      where
        go : (b : Bool) → before_kind ≡ cond (b || true) before_kind after_kind
        go true = refl
        go false = refl

    pub settled_opens : slash_by_level level ≡ true → before_kind ≡ settled_by_level level newline which
    settled_opens e = rw (settled_step l h, e)

    pub settled_after : newline ≡ false → slash_by_level level ≡ false → after_kind ≡ settled_by_level level newline which
    settled_after n e = rw (settled_step l h, n, e)

  -- `:`
  module _ (colon : which ≡ 35) where
    pub settled_answer : one_question ≤ level → answer_kind ≡ settled_by_level level newline which
    unfolding settled_by_level longest_sign longest_of same
    settled_answer h = rw (colon, lt-ltb 0 (questions_in level) (omega arith))

    pub settled_colon : level < one_question → sign_kind ≡ settled_by_level level newline which
    unfolding settled_by_level longest_sign longest_of same
    settled_colon h = rw (colon, le-ltb 0 (questions_in level) (omega arith))

  -- any other
  settled_plain : (which ≡ 22 → ⊥) → (which ≡ 23 → ⊥) → (which ≡ 35 → ⊥) → sign_kind ≡ settled_by_level level newline which
  unfolding settled_by_level longest_sign longest_of same
  settled_plain a b c = rw (ne_eqb which 22 a, ne_eqb which 23 b, ne_eqb which 35 c)

  pub settled_low : which < 22 → sign_kind ≡ settled_by_level level newline which
  settled_low h = settled_plain (λ e. omega arith) (λ e. omega arith) (λ e. omega arith)

  pub settled_high : 23 < which → (which ≡ 35 → ⊥) → sign_kind ≡ settled_by_level level newline which
  settled_high h c = settled_plain (λ e. omega arith) (λ e. omega arith) c
