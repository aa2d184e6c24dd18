-- Laws of runs and of the comparison of two texts, at a place.
use mathlib.Core.Path.{◌≡◌, refl, ap, ◌∙◌}
use mathlib.Core.List.{List, [], ◌∷◌, ◌++◌}
use mathlib.Core.Bool.{Bool, true, false, cond}
use Prim.Native.Nat.{ℕ, suc, zero, ◌+◌, ◌<◌, ◌≤◌}
use native.Mathlib.Nat.{add-zero}
use native.Mathlib.Omega.{arith}
use borrow.Author.Tests.{eq-eqb, ltb-true, ltb-false}
use lib.Dec.{T, eqb, eqb→eq, ltb}
use lib.Pointwise.{pointwise}
use lib.ListN.{length, get_or, take, drop, drop_of_length-le, length-drop}
use Rattle.text.specs.Runs.{run, same}
use Rattle.text.proofs.Lists.{drop_at}
use Rattle.text.proofs.Range.{and_left, and_right}

pub run_le : (class : ℕ → Bool) (s : List ℕ) → run class s ≤ length s
unfolding run
run_le class [] = omega arith
run_le class (b ∷ s) = go (class b) (run_le class s)
  where
    go : (t : Bool) → run class s ≤ length s → cond t (suc (run class s)) zero ≤ suc (length s)
    go true h = omega arith
    go false h = omega arith

-- a run that has its first byte
pub run_some : (class : ℕ → Bool) (b : ℕ) (s : List ℕ) → class b ≡ true → 1 ≤ run class (b ∷ s)
unfolding run
run_some class b s e = rw e (omega arith)

-- a run is the same where the text is cut behind it and goes on with a byte of another class
pub run_own : (class : ℕ → Bool) (x : ℕ) (v : List ℕ) → class x ≡ false → (s : List ℕ) (k : ℕ) → run class s ≤ k
    → run class (take k s ++ x ∷ v) ≡ run class s
unfolding run
run_own class x v e [] zero h = rw e
run_own class x v e [] (suc k) h = rw e
run_own class x v e (b ∷ s) zero h = rw e (go (class b) h)
  where
    go : (t : Bool) → cond t (suc (run class s)) zero ≤ 0 → 0 ≡ cond t (suc (run class s)) zero
    go true p = omega arith
    go false p = refl
run_own class x v e (b ∷ s) (suc k) h = go (class b) (run_own class x v e s k) h
  where
    go : (t : Bool) → (run class s ≤ k → run class (take k s ++ x ∷ v) ≡ run class s) → cond t (suc (run class s)) zero ≤ suc k
        → cond t (suc (run class (take k s ++ x ∷ v))) zero ≡ cond t (suc (run class s)) zero
    go true f p = ap suc (f (omega arith))
    go false f p = refl

-- the end of a run of a class of bytes, from a place on
module _ (class : ℕ → Bool) (s : List ℕ) (i : ℕ) where
  pub run_within : i ≤ length s → i + run class (drop i s) ≤ length s
  run_within h = omega (arith, run_le class (drop i s), length-drop i s)

  pub run_past : length s ≤ i → i + run class (drop i s) ≡ i
  unfolding run
  run_past h = rw (drop_of_length-le s h) (add-zero i)

  module _ (h : i < length s) where
    pub run_stop : class (get_or s i 0) ≡ false → i + run class (drop i s) ≡ i
    unfolding run
    run_stop e = rw (drop_at s i h) (rw (e, run) (add-zero i))

    pub run_more : class (get_or s i 0) ≡ true → i + run class (drop i s) ≡ i + 1 + run class (drop (i + 1) s)
    unfolding run
    run_more e = rw (drop_at s i h) (rw (e, run) (omega arith))

-- what each byte of a run hands on to the next place holds at the run's end
module _ {A : Type 0} (class : ℕ → Bool) (s : List ℕ) (f : ℕ → A)
    (more : (i : ℕ) → i < length s → class (get_or s i 0) ≡ true → f i ≡ f (i + 1)) where
  passed_within : (n i : ℕ) → length s ≤ i + n → f i ≡ f (i + run class (drop i s))
  passed_within zero i h = rw (run_past class s i (omega arith))
  passed_within (suc n) i h = go (ltb i (length s)) refl (class (get_or s i 0)) refl (passed_within n (i + 1) (omega arith))
    where
      go : (b : Bool) → ltb i (length s) ≡ b → (t : Bool) → class (get_or s i 0) ≡ t → f (i + 1) ≡ f (i + 1 + run class (drop (i + 1) s))
          → f i ≡ f (i + run class (drop i s))
      go false e t d next = rw (run_past class s i (ltb-false i (length s) e))
      go true e false d next = rw (run_stop class s i (ltb-true i (length s) e) d)
      go true e true d next =
          let l = ltb-true i (length s) e in
          rw (run_more class s i l d) (more i l d ∙ next)

  pub run_passed : (i end : ℕ) → end ≡ i + run class (drop i s) → f i ≡ f end
  run_passed i end e = rw e (passed_within (length s) i (omega arith))

-- no byte of the class stands at the end of its run
pub run_ends : (class : ℕ → Bool) (s : List ℕ) (i end : ℕ) → end ≡ i + run class (drop i s) → end < length s → class (get_or s end 0) ≡ false
run_ends class s i end e h = go (class (get_or s end 0)) refl
  where
    go : (t : Bool) → class (get_or s end 0) ≡ t → t ≡ false
    go false d = refl
    go true d =
        absurd
        (omega (arith, run_passed class s (λ j. j + run class (drop j s)) (run_more class s) i end e, run_more class s end h d))

-- the comparison of two slices, as `==` has it
pub same_pointwise : (a b : List ℕ) → pointwise eqb a b ≡ same a b
unfolding same
same_pointwise [] [] = refl
same_pointwise [] (y ∷ b) = refl
same_pointwise (x ∷ a) [] = refl
same_pointwise (x ∷ a) (y ∷ b) = rw (same_pointwise a b)

pub same→eq : (a b : List ℕ) → T (same a b) → a ≡ b
unfolding same
same→eq [] [] t = refl
same→eq [] (y ∷ b) t = absurd t
same→eq (x ∷ a) [] t = absurd t
same→eq (x ∷ a) (y ∷ b) t =
    rw (eqb→eq x y (and_left (eqb x y) (same a b) t), same→eq a b (and_right (eqb x y) (same a b) t))

pub same_self : (a : List ℕ) → same a a ≡ true
unfolding same
same_self [] = refl
same_self (x ∷ a) = rw (eq-eqb x x refl, same_self a)
