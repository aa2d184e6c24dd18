-- Tests of classes, proved by one test that antt computes over a range, or over a list.
use mathlib.Core.Path.{◌≡◌, refl, sym, ◌∙◌, ap, subst}
use mathlib.Core.Bool.{Bool, true, false, cond, ◌&&◌, ◌||◌}
use mathlib.Core.List.{List, [], ◌∷◌}
use Prim.Native.Nat.{ℕ, zero, suc, ◌+◌, ◌≤◌, ◌<◌}
use native.Mathlib.Omega.{arith}
use borrow.Author.Tests.{ne_eqb, eqb-true, eqb-false, ltb-false, le-leb, lt-leb}
use lib.Dec.{T, eqb, ltb, ltb→lt}
use Rattle.text.proofs.Range.{and_left, and_right, alike, alike→eq}
use Rattle.text.proofs.Members.{all_in}
use Rattle.machine.specs.Tokens.{name, new_word, question}
use Rattle.machine.specs.Operators.{Operator, operator, operators, precedence_among, precedence, is_among}
use Rattle.machine.specs.Machinery.Machine.{tightness, values}
use Rattle.machine.specs.Machinery.Classes.{is_leaf}

-- a test passes at a number and those behind it, so many
module _ (P : ℕ → Bool) where
  abbrev pub each_from : ℕ → ℕ → Bool
  each_from first zero = true
  each_from first (suc n) = P first && each_from (first + 1) n

  pub at_number : (first n : ℕ) → T (each_from first n) → (k : ℕ) → first ≤ k → k < first + n → T (P k)
  at_number first zero t k low high = absurd (omega arith)
  at_number first (suc n) t k low high = go (eqb k first) refl (at_number (first + 1) n (and_right (P first) (each_from (first + 1) n) t) k)
    where
      go : (b : Bool) → eqb k first ≡ b → (first + 1 ≤ k → k < first + 1 + n → T (P k)) → T (P k)
      go true e later = rw (eqb-true k first e) (and_left (P first) (each_from (first + 1) n) t)
      go false e later = let other = eqb-false k first e in later (omega (arith, other)) (omega arith)

module _ (class : ℕ) where
  -- a class in a list passes a test that all of it pass, and is none that is not in it
  pub among_all : (test : ℕ → Bool) (classes : List ℕ) → T (all_in test classes) → is_among classes class ≡ true → T (test class)
  among_all test [] t is = absurd (subst T (sym is) tt)
  among_all test (x ∷ classes) t is = go (eqb class x) refl is (among_all test classes (and_right (test x) (all_in test classes) t))
    where
      go : (b : Bool) → eqb class x ≡ b → cond b true (is_among classes class) ≡ true → (is_among classes class ≡ true → T (test class)) → T (test class)
      go true e is later = rw (eqb-true class x e) (and_left (test x) (all_in test classes) t)
      go false e is later = later is

  pub among_apart : (classes : List ℕ) (x : ℕ) → is_among classes x ≡ false → is_among classes class ≡ true → eqb class x ≡ false
  among_apart classes x none is = ne_eqb class x (λ e. subst T (sym is ∙ ap (is_among classes) e ∙ none) tt)

-- a class past all of a list is not in it
pub not_among : (classes : List ℕ) (past : ℕ) → T (all_in (λ x. ltb x past) classes) → (k : ℕ) → past ≤ k → is_among classes k ≡ false
not_among [] past t k high = refl
not_among (x ∷ rest) past t k high =
    let less = ltb→lt x past (and_left (ltb x past) (all_in (λ x. ltb x past) rest) t) in
    rw (ne_eqb k x (λ e. omega (arith, less))) (not_among rest past (and_right (ltb x past) (all_in (λ x. ltb x past) rest) t) k high)

-- a test by ranges from a number on, of which all from a later one on fail
pub test_from : (f : ℕ → Bool) (classes : List ℕ) (first n : ℕ) → T (each_from (λ k. alike (f k) (is_among classes k)) first n)
    → T (all_in (λ x. ltb x (first + n)) classes) → (k : ℕ) → first ≤ k → (first + n ≤ k → f k ≡ false) → f k ≡ is_among classes k
test_from f classes first n t l k low fails = go (ltb k (first + n)) refl
  where
    go : (b : Bool) → ltb k (first + n) ≡ b → f k ≡ is_among classes k
    go true e =
        let within = at_number (λ i. alike (f i) (is_among classes i)) first n t k low (ltb→lt k (first + n) (rw e tt)) in
        alike→eq (f k) (is_among classes k) within
    go false e =
        let high = ltb-false k (first + n) e in
        rw (fails high, not_among classes (first + n) l k high)

-- nor does it bind
below : ℕ → Operator → Bool
below past (operator class tight) = ltb class past

binds_not : (all : List Operator) (past : ℕ) → T (all_in (below past) all) → (k : ℕ) → past ≤ k → precedence_among all k ≡ 0
unfolding below
binds_not [] past t k high = refl
binds_not (operator class tight ∷ rest) past t k high =
    let less = ltb→lt class past (and_left (ltb class past) (all_in (below past) rest) t) in
    rw (ne_eqb k class (λ e. omega (arith, less))) (binds_not rest past (and_right (ltb class past) (all_in (below past) rest) t) k high)

pub no_precedence : (k : ℕ) → 74 ≤ k → precedence k ≡ 0
unfolding below
no_precedence k high = binds_not operators 74 tt k high

-- from `*` on, `?` alone has another tightness than its precedence
module _ (k : ℕ) where
  pub late_tightness : 40 ≤ k → (k ≡ question → ⊥) → tightness k ≡ precedence k
  late_tightness past other =
      rw (ne_eqb k new_word (λ e. omega arith), le-leb 31 k (omega arith), lt-leb k 39 (omega arith), ne_eqb k question other)

  -- leaves, in one list
  pub leaf_among : is_leaf k ≡ is_among (name ∷ values) k
  leaf_among = go (eqb k name)
    where
      go : (b : Bool) → b || is_among values k ≡ cond b true (is_among values k)
      go true = refl
      go false = refl
