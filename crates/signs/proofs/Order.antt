-- The table's order: the first of its signs that a text starts with is the longest.
use mathlib.Core.Path.{◌≡◌, refl, ap, sym, ◌∙◌}
use mathlib.Core.List.{List, [], ◌∷◌}
use mathlib.Core.Bool.{Bool, true, false, cond, not, ◌&&◌, ◌||◌}
use Prim.Native.Nat.{ℕ, zero, suc, ◌+◌, ◌≤◌}
use native.Mathlib.Omega.{arith}
use borrow.Author.Tests.{eq-eqb, eqb-true, leb-false, lt-leb}
use lib.Dec.{T, eqb, eqb→eq, leb, leb→le, leb-zero}
use lib.ListN.{length, take}
use Rattle.text.specs.Runs.{same}
use Rattle.text.proofs.Laws.{same→eq}
use Rattle.text.proofs.Members.{is_in}
use Rattle.text.proofs.Range.{and_left, and_right}
use Rattle.vocabulary.specs.Vocabulary.{Row, spelling, signs, row_at}
use Rattle.vocabulary.proofs.RowLaws.{each_row, at_row}
use Rattle.signs.specs.Signs.{starts_with, size, longest_sign, found}
use Rattle.signs.specs.Machinery.Rows.{sign, order, first_of}
use Rattle.signs.specs.declared.Sign.{Sign}
use Rattle.std.specs.Prelude.{Option, None, Some}
use Rattle.signs.proofs.Laws.{longest_covers, longest_fits}
use Rattle.signs.proofs.Spellings.{longest_spelled}

-- the number of the sign that a text is
abbrev number_in : List ℕ → ℕ → List Row → ℕ
number_in p number [] = 0
number_in p number (g ∷ gs) = cond (same p (spelling g)) number (number_in p (number + 1) gs)

-- the second of two tests, if the first fails
second : (a b : Bool) → a ≡ false → T (a || b) → T b
second true b e t = let z : ◌≡◌ {A = ℕ} 0 1 = cc in absurd (omega arith)
second false b e t = t

-- no two signs are spelled alike
abbrev own : ℕ → Row → Bool
own m g = leb (length (spelling g)) 0 || eqb (number_in (spelling g) 1 signs) m

own_number : (m : ℕ) → 1 ≤ length (sign m) → number_in (sign m) 1 signs ≡ m
unfolding same
own_number m h =
    eqb→eq (number_in (sign m) 1 signs) m
    (second (leb (length (sign m)) 0) _ (lt-leb (length (sign m)) 0 h) (at_row own signs tt m tt))

same_number : (m n : ℕ) → sign m ≡ sign n → 1 ≤ length (sign n) → m ≡ n
same_number m n e h = sym (own_number m (rw e h)) ∙ ap (λ (p : List ℕ). number_in p 1 signs) e ∙ own_number n h

starts_take : (p s : List ℕ) (n : ℕ) → length p ≤ n → T (starts_with p s) → T (starts_with p (take n s))
unfolding same
starts_take [] s n h t = tt
starts_take (a ∷ p) [] n h t = absurd t
starts_take (a ∷ p) (b ∷ s) zero h t = absurd (omega arith)
starts_take (a ∷ p) (b ∷ s) (suc n) h t = go (eqb a b) (starts_take p s n (omega arith)) t
  where
    go : (r : Bool) → (T (starts_with p s) → T (starts_with p (take n s))) → T (r && starts_with p s) → T (r && starts_with p (take n s))
    go true later u = later u
    go false later u = u

starts_self : (s : List ℕ) (n : ℕ) → T (starts_with (take n s) s)
unfolding same
starts_self s zero = tt
starts_self [] (suc n) = tt
starts_self (b ∷ s) (suc n) = rw (eq-eqb b b refl) (starts_self s n)

-- a sign stands behind those that are longer and start with it
abbrev behind : List ℕ → ℕ → ℕ → Row → Bool
behind before n m g = leb (length (spelling g)) (length (sign n)) || not (starts_with (sign n) (spelling g)) || is_in before m

-- the signs from a place of the order on, each behind those; at the end, where none is left, all signs are before it
abbrev ordered : List ℕ → List ℕ → Bool
ordered before [] = each_row (behind before 0) 1 signs
ordered before (n ∷ numbers) = leb 1 (length (sign n)) && (each_row (behind before n) 1 signs && ordered (n ∷ before) numbers)

module _ (s : List ℕ) where
  abbrev none_of : List ℕ → Type 0
  none_of before = (m : ℕ) → T (is_in before m) → T (starts_with (sign m) s) → ⊥

  -- no sign is longer than one that the text starts with, if no sign before that one is there
  most : (before : List ℕ) (n : ℕ) → T (each_row (behind before n) 1 signs) → none_of before → T (starts_with (sign n) s)
      → size (longest_sign s) ≤ length (sign n)
  most before n t none starts = go (longest_sign s) refl
    where
      one : (k : ℕ) (a b c : Bool) → (T a → length (sign k) ≤ length (sign n)) → (T (not a) → T b) → (T c → ⊥) → T (a || not b || c)
          → length (sign k) ≤ length (sign n)
      one k true b c is starts apart u = is tt
      one k false true true is starts apart u = absurd (apart tt)
      one k false true false is starts apart u = absurd u
      one k false false c is starts apart u = absurd (starts tt)

      over : (k len : ℕ) → T (not (leb len (length (sign n)))) → length (sign n) ≤ len
      over k len h = go (leb len (length (sign n))) refl h
        where
          go : (a : Bool) → leb len (length (sign n)) ≡ a → T (not a) → length (sign n) ≤ len
          go true e h = absurd h
          go false e h = let l = leb-false len (length (sign n)) e in omega arith

      go : (r : Option Sign) → longest_sign s ≡ r → size r ≤ length (sign n)
      go None e = omega arith
      go (Some g) e =
          let is = longest_spelled s g e in
          let there : T (starts_with (sign g.number) s) = rw is.own at (starts_self s g.len) in
          rw is.long
          (one g.number (leb (length (sign g.number)) (length (sign n))) (starts_with (sign n) (sign g.number)) (is_in before g.number)
          (leb→le (length (sign g.number)) (length (sign n)))
          (λ h. rw is.own at (starts_take (sign n) s g.len (rw is.long (over g.number (length (sign g.number)) h)) starts))
          (λ h. none g.number h there)
          (at_row (behind before n) signs t g.number (rw (leb-zero (length (sign n))) tt)))

  -- the number 0 stands for none, and every text starts with no sign
  at_end : (before : List ℕ) → T (each_row (behind before 0) 1 signs) → none_of before → size (longest_sign s) ≤ 0
  unfolding row_at same
  at_end before t none = most before 0 t none tt

  first : (before numbers : List ℕ) → T (ordered before numbers) → none_of before → first_of s numbers ≡ longest_sign s
  unfolding first_of
  first before [] t none = go (longest_sign s) refl
    where
      go : (r : Option Sign) → longest_sign s ≡ r → None ≡ r
      go None e = refl
      go (Some g) e =
          let l : g.len ≤ 0 = rw e at (at_end before t none) in
          let h = (longest_fits s g e).0 in
          absurd (omega arith)
  first before (n ∷ numbers) t none =
      go (starts_with (sign n) s) refl
      (λ k. first (n ∷ before) numbers (and_right (each_row (behind before n) 1 signs) (ordered (n ∷ before) numbers) later) (other k))
    where
      later : T (each_row (behind before n) 1 signs && ordered (n ∷ before) numbers)
      later = and_right (leb 1 (length (sign n))) (each_row (behind before n) 1 signs && ordered (n ∷ before) numbers) t

      some : 1 ≤ length (sign n)
      some = leb→le 1 (length (sign n)) (and_left (leb 1 (length (sign n))) (each_row (behind before n) 1 signs && ordered (n ∷ before) numbers) t)

      other : starts_with (sign n) s ≡ false → none_of (n ∷ before)
      other k m is there = at (eqb m n) refl is
        where
          at : (a : Bool) → eqb m n ≡ a → T (cond a true (is_in before m)) → ⊥
          at true e is = rw (eqb-true m n e, k) at there
          at false e is = none m is there

      first_found : T (starts_with (sign n) s) → (r : Option Sign) → longest_sign s ≡ r → found n (length (sign n)) ≡ r
      first_found starts None e = let l : length (sign n) ≤ 0 = rw e at (longest_covers s n starts) in absurd (omega (arith, some))
      first_found starts (Some g) e =
          let is = longest_spelled s g e in
          let least : length (sign n) ≤ g.len = rw e at (longest_covers s n starts) in
          let most : g.len ≤ length (sign n) = rw e at (most before n (and_left (each_row (behind before n) 1 signs) (ordered (n ∷ before) numbers) later) none starts) in
          let long : g.len ≡ length (sign n) = omega arith in
          let same : sign g.number ≡ sign n = sym is.own ∙ (rw long (sym (same→eq (sign n) (take (length (sign n)) s) starts))) in
          rw (same_number g.number n same some, long)

      go : (a : Bool) → starts_with (sign n) s ≡ a → (starts_with (sign n) s ≡ false → first_of s numbers ≡ longest_sign s)
          → cond a (found n (length (sign n))) (first_of s numbers) ≡ longest_sign s
      go true e rest = first_found (rw e tt) (longest_sign s) refl
      go false e rest = rest e

pub first_longest : (s : List ℕ) → first_of s order ≡ longest_sign s
unfolding same row_at
first_longest s = first s [] order tt (λ m is there. is)
