-- Laws of the longest sign: it lies within the text, and its own bytes determine it where a blank or a line end follows.
use mathlib.Core.Path.{◌≡◌, refl, sym, ap, ◌∙◌}
use mathlib.Core.List.{List, [], ◌∷◌, ◌++◌}
use mathlib.Core.Bool.{Bool, true, false, cond, not, and-false, and_assoc, ◌&&◌, ◌||◌}
use Prim.Native.Nat.{ℕ, zero, suc, ◌+◌, ◌<◌, ◌≤◌}
use native.Mathlib.Omega.{arith}
use borrow.Author.Tests.{le-leb, ne_eqb, ltb-false}
use lib.Dec.{T, eqb, leb, ltb, ltb→lt, leb-zero, leb-suc-zero, leb-suc-suc}
use lib.ListN.{length, take, get_or}
use Rattle.std.specs.Cmp.Lexicographic.{pointwise}
use Rattle.text.specs.Bytes.{blank, line_end}
use Rattle.text.specs.Runs.{same}
use Rattle.text.proofs.Range.{and_left, and_right}
use Rattle.vocabulary.specs.Vocabulary.{Row, spelling, signs, no_row, row_at}
use Rattle.signs.specs.Signs.{starts_with, size, longer, longest_of, longest_sign, found}
use Rattle.signs.specs.declared.Sign.{Sign}
use Rattle.std.specs.Prelude.{Option, None, Some}

-- std compares bytes place by place
pub same_pointwise : (p s : List ℕ) → pointwise eqb p s ≡ same p s
unfolding same
same_pointwise [] [] = refl
same_pointwise [] (b ∷ s) = refl
same_pointwise (a ∷ p) [] = refl
same_pointwise (a ∷ p) (b ∷ s) = ap (λ t. eqb a b && t) (same_pointwise p s)

-- what a text starts with is no longer than the text
starts_within : (p s : List ℕ) → T (starts_with p s) → length p ≤ length s
unfolding same
starts_within [] s t = omega arith
starts_within (a ∷ p) [] t = absurd t
starts_within (a ∷ p) (b ∷ s) t = let h = starts_within p s (and_right (eqb a b) (starts_with p s) t) in omega arith

module _ (s : List ℕ) where
  -- what holds of the sign found so far, and of each longer sign that the text starts with, holds of the longest
  module _ (P : Option Sign → Type 0)
      (taken : (number : ℕ) (best : Option Sign) (g : Row) → P best → size best < length (spelling g) →
      T (starts_with (spelling g) s) → P (found number (length (spelling g)))) where
    longer_keeps : (number : ℕ) (best : Option Sign) (g : Row) → P best → P (longer s number best g)
    longer_keeps number best g kept =
        go (ltb (size best) (length (spelling g))) (starts_with (spelling g) s)
        (ltb→lt (size best) (length (spelling g))) (λ t. t)
      where
        go : (t u : Bool) → (T t → size best < length (spelling g)) → (T u → T (starts_with (spelling g) s)) →
            P (cond (t && u) (found number (length (spelling g))) best)
        go true true f e = taken number best g kept (f tt) (e tt)
        go true false f e = kept
        go false u f e = kept

    longest_of_keeps : (gs : List Row) (number : ℕ) (best : Option Sign) → P best → P (longest_of s number best gs)
    unfolding longest_of
    longest_of_keeps [] number best h = h
    longest_of_keeps (g ∷ gs) number best h = longest_of_keeps gs (number + 1) (longer s number best g) (longer_keeps number best g h)

  -- a sign that was found has a byte, and lies within the text
  abbrev Within : Option Sign → Type 0
  Within None = Unit
  Within (Some sign) = (1 ≤ sign.len) × (sign.len ≤ length s)

  pub longest_fits : (sign : Sign) → longest_sign s ≡ Some sign → (1 ≤ sign.len) × (sign.len ≤ length s)
  unfolding longest_sign
  longest_fits sign e =
      rw e at (longest_of_keeps Within (λ number best g h f t. (omega arith, starts_within (spelling g) s t)) signs 1 None tt)

  longest_of_size : (gs : List Row) (number : ℕ) (best : Option Sign) → size best ≤ size (longest_of s number best gs)
  longest_of_size gs number best = longest_of_keeps (λ b. size best ≤ size b) (λ m b g h f t. omega arith) gs number best (omega arith)

  -- and no sign that the text starts with is longer than the longest
  longer_covers : (number : ℕ) (best : Option Sign) (g : Row) → T (starts_with (spelling g) s) → length (spelling g) ≤ size (longer s number best g)
  longer_covers number best g t = go (ltb (size best) (length (spelling g))) refl (starts_with (spelling g) s) t
    where
      go : (a : Bool) → ltb (size best) (length (spelling g)) ≡ a → (b : Bool) → T b
          → length (spelling g) ≤ size (cond (a && b) (found number (length (spelling g))) best)
      go true e true t = omega arith
      go false e true t = ltb-false (size best) (length (spelling g)) e
      go a e false t = absurd t

  longest_of_covers : (gs : List Row) (number : ℕ) (best : Option Sign) (k : ℕ) → T (starts_with (spelling (get_or gs k no_row)) s)
      → length (spelling (get_or gs k no_row)) ≤ size (longest_of s number best gs)
  unfolding longest_of
  longest_of_covers [] number best k t = omega arith
  longest_of_covers (g ∷ gs) number best zero t =
      let next = longer s number best g in
      omega (arith, longer_covers number best g t, longest_of_size gs (number + 1) next)
  longest_of_covers (g ∷ gs) number best (suc k) t = longest_of_covers gs (number + 1) (longer s number best g) k t

  pub longest_covers : (number : ℕ) → T (starts_with (spelling (row_at signs number)) s) → length (spelling (row_at signs number)) ≤ size (longest_sign s)
  unfolding longest_sign row_at
  longest_covers zero t = omega arith
  longest_covers (suc k) t = longest_of_covers signs 1 None k t

-- no blank or line end is among the bytes
abbrev unbroken : List ℕ → Bool
unbroken [] = true
unbroken (b ∷ p) = not (blank b || line_end b) && unbroken p

abbrev all_unbroken : List Row → Bool
all_unbroken [] = true
all_unbroken (g ∷ gs) = unbroken (spelling g) && all_unbroken gs

-- a text that goes on, after n bytes, with a blank or a line end
module _ (x : ℕ) (u : List ℕ) (gap : (blank x || line_end x) ≡ true) where
  differs : (a : ℕ) → T (not (blank a || line_end a)) → eqb a x ≡ false
  differs a t = ne_eqb a x (λ e. absurd (rw (e, gap) at t))

  starts_own : (p s : List ℕ) (n : ℕ) → n ≤ length s → T (unbroken p) →
      starts_with p (take n s ++ x ∷ u) ≡ (starts_with p s && leb (length p) n)
  unfolding same
  starts_own [] s n h t = sym (leb-zero n)
  starts_own (a ∷ p) s zero h t =
      rw (differs a (and_left (not (blank a || line_end a)) (unbroken p) t), leb-suc-zero) (sym (and-false (starts_with (a ∷ p) s)))
  starts_own (a ∷ p) [] (suc n) h t = absurd (omega arith)
  starts_own (a ∷ p) (b ∷ s) (suc n) h t =
      rw (starts_own p s n (omega arith) (and_right (not (blank a || line_end a)) (unbroken p) t), leb-suc-suc)
      (sym (and_assoc (eqb a b) (starts_with p s) (leb (length p) n)))

  module _ (s : List ℕ) (n : ℕ) (h : n ≤ length s) where
    longer_own : (number : ℕ) (best : Option Sign) (g : Row) → T (unbroken (spelling g)) → size (longer s number best g) ≤ n →
        longer (take n s ++ x ∷ u) number best g ≡ longer s number best g
    longer_own number best g t f =
        rw (starts_own (spelling g) s n h t) (go (ltb (size best) (length (spelling g))) (starts_with (spelling g) s) f)
      where
        go : (t u : Bool) → size (cond (t && u) (found number (length (spelling g))) best) ≤ n →
            cond (t && (u && leb (length (spelling g)) n)) (found number (length (spelling g))) best
            ≡ cond (t && u) (found number (length (spelling g))) best
        go true true e = rw (le-leb (length (spelling g)) n e)
        go true false e = refl
        go false u e = refl

    longest_of_own : (gs : List Row) (number : ℕ) (best : Option Sign) → T (all_unbroken gs) → size (longest_of s number best gs) ≤ n →
        longest_of (take n s ++ x ∷ u) number best gs ≡ longest_of s number best gs
    unfolding longest_of
    longest_of_own [] number best t f = refl
    longest_of_own (g ∷ gs) number best t f =
        let next = longer s number best g in
        let k : size next ≤ n = omega (arith, longest_of_size s gs (number + 1) next) in
        rw (longer_own number best g (and_left (unbroken (spelling g)) (all_unbroken gs) t) k)
        (longest_of_own gs (number + 1) next (and_right (unbroken (spelling g)) (all_unbroken gs) t) f)

-- where a blank or a line end follows, a sign is determined by its own bytes: no sign has one in it
pub longest_own : (s : List ℕ) (sign : Sign) → longest_sign s ≡ Some sign →
    (x : ℕ) → (blank x || line_end x) ≡ true → (u : List ℕ) → longest_sign (take sign.len s ++ x ∷ u) ≡ Some sign
unfolding longest_sign blank line_end
longest_own s sign e x gap u =
    longest_of_own x u gap s sign.len (longest_fits s sign e).1 signs 1 None tt (omega (arith, ap size e)) ∙ e
