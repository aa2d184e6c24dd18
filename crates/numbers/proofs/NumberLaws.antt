-- Laws of the parts of numbers: each lies within the text, and its own bytes determine it where no part goes on with the byte behind.
use mathlib.Core.Path.{◌≡◌, refl, ap, sym}
use mathlib.Core.List.{List, [], ◌∷◌, ◌++◌}
use mathlib.Core.Bool.{Bool, true, false, cond, ◌&&◌, ◌||◌, and-false}
use Prim.Native.Nat.{ℕ, zero, suc, ◌+◌, ◌-◌, ◌≤◌}
use native.Mathlib.Omega.{arith}
use borrow.Author.Tests.{eqb-true, ne_eqb}
use lib.Dec.{eqb}
use lib.ListN.{length, get_or, take, drop, length-drop}
use Rattle.text.specs.Quoted.{byte}
use Rattle.text.specs.Bytes.{digit}
use Rattle.text.specs.Runs.{run}
use Rattle.text.proofs.Laws.{run_le, run_some, run_own}
use Rattle.numbers.specs.Numbers.{hex_digit, exponent_indicator, plus_or_minus, hex_indicator, run_behind, hex_length, integer_length, fraction_length, exponent_length, followed_by, decimal_length, number_length}

-- each part lies within the text
behind_within : (n : ℕ) (class : ℕ → Bool) (s : List ℕ) → run_behind n class s ≤ n + run class s
behind_within n class s = go (eqb (run class s) 0)
  where
    go : (t : Bool) → cond t 0 (n + run class s) ≤ n + run class s
    go true = omega arith
    go false = omega arith

-- or there is none
behind_short : (n : ℕ) (class : ℕ → Bool) (s : List ℕ) → length s ≤ 0 → run_behind n class s ≡ 0
behind_short n class s h = let z : run class s ≡ 0 = omega (arith, run_le class s) in rw z

choose_within : (t : Bool) (a m : ℕ) → a ≤ m → cond t a 0 ≤ m
choose_within true a m h = h
choose_within false a m h = omega arith

hex_within : (s : List ℕ) → hex_length s ≤ length s
unfolding hex_length run
hex_within [] = omega arith
hex_within (a ∷ []) = choose_within (eqb a (byte "0") && hex_indicator 0) (run_behind 2 hex_digit []) 1 (omega arith)
hex_within (a ∷ b ∷ s) =
    choose_within (eqb a (byte "0") && hex_indicator b) (run_behind 2 hex_digit s) (suc (suc (length s)))
    (omega (arith, behind_within 2 hex_digit s, run_le hex_digit s))

integer_within : (s : List ℕ) → integer_length s ≤ length s
unfolding integer_length run
integer_within [] = omega arith
integer_within (b ∷ s) = go (eqb b (byte "0"))
  where
    go : (t : Bool) → cond t 1 (run digit (b ∷ s)) ≤ suc (length s)
    go true = omega arith
    go false = run_le digit (b ∷ s)

fraction_within : (s : List ℕ) → fraction_length s ≤ length s
unfolding fraction_length
fraction_within [] = omega arith
fraction_within (b ∷ s) = choose_within (eqb b (byte ".")) (1 + run digit s) (suc (length s)) (omega (arith, run_le digit s))

exponent_within : (s : List ℕ) → exponent_length s ≤ length s
unfolding exponent_length run
exponent_within [] = omega arith
exponent_within (a ∷ []) = choose_within (exponent_indicator a) 0 1 (omega arith)
exponent_within (a ∷ b ∷ s) =
    choose_within (exponent_indicator a) (cond (plus_or_minus b) (run_behind 2 digit s) (run_behind 1 digit (b ∷ s))) (suc (suc (length s))) (go (plus_or_minus b))
  where
    go : (t : Bool) → cond t (run_behind 2 digit s) (run_behind 1 digit (b ∷ s)) ≤ suc (suc (length s))
    go true = omega (arith, behind_within 2 digit s, run_le digit s)
    go false = omega (arith, behind_within 1 digit (b ∷ s), run_le digit (b ∷ s))

-- and so do two, one behind the other
both_within : (f g : List ℕ → ℕ) → ((s : List ℕ) → f s ≤ length s) → ((s : List ℕ) → g s ≤ length s) → (s : List ℕ) → followed_by f g s ≤ length s
both_within f g p q s = omega (arith, p s, q (drop (f s) s), length-drop (f s) s)

pub number_within : (s : List ℕ) → number_length s ≤ length s
unfolding number_length decimal_length
number_within s = go (eqb (hex_length s) 0)
  where
    go : (t : Bool) → cond t (decimal_length s) (hex_length s) ≤ length s
    go true = both_within (followed_by integer_length fraction_length) exponent_length (both_within integer_length fraction_length integer_within fraction_within) exponent_within s
    go false = hex_within s

suc_some : (n : ℕ) → eqb (suc n) 0 ≡ false
suc_some n = ne_eqb (suc n) 0 (omega arith)

-- a number that starts with a digit, or with a dot, has a byte
integer_some : (b : ℕ) (s : List ℕ) → digit b ≡ true → 1 ≤ integer_length (b ∷ s)
unfolding integer_length
integer_some b s d = go (eqb b (byte "0"))
  where
    go : (t : Bool) → 1 ≤ cond t 1 (run digit (b ∷ s))
    go true = omega arith
    go false = run_some digit b s d

dot_some : (s : List ℕ) → 1 ≤ followed_by integer_length fraction_length (byte "." ∷ s)
unfolding integer_length fraction_length run digit
dot_some s = omega arith

whole_some : (b : ℕ) (s : List ℕ) → (digit b || eqb b (byte ".")) ≡ true → 1 ≤ followed_by integer_length fraction_length (b ∷ s)
whole_some b s h = go (digit b) refl h
  where
    go : (t : Bool) → digit b ≡ t → (t || eqb b (byte ".")) ≡ true → 1 ≤ followed_by integer_length fraction_length (b ∷ s)
    go true e h = omega (arith, integer_some b s e)
    go false e h = rw (eqb-true b (byte ".") h) (dot_some s)

pub number_some : (b : ℕ) (s : List ℕ) → (digit b || eqb b (byte ".")) ≡ true → 1 ≤ number_length (b ∷ s)
unfolding number_length decimal_length
number_some b s h = go (hex_length (b ∷ s))
  where
    go : (n : ℕ) → 1 ≤ cond (eqb n 0) (decimal_length (b ∷ s)) n
    go zero = omega (arith, whole_some b s h)
    go (suc n) = rw (suc_some n) (omega arith)

-- and one that starts with a dot directly before a digit has both
dot_two : (c : ℕ) (s : List ℕ) → digit c ≡ true → 2 ≤ number_length (byte "." ∷ c ∷ s)
unfolding number_length hex_length decimal_length integer_length fraction_length run digit
dot_two c s d = rw d (omega arith)

pub dotted_two : (b : ℕ) (s : List ℕ) → (eqb b (byte ".") && digit (get_or s 0 0)) ≡ true → 2 ≤ number_length (b ∷ s)
unfolding digit
dotted_two b s h = go (eqb b (byte ".")) refl s h
  where
    go : (t : Bool) → eqb b (byte ".") ≡ t → (s : List ℕ) → (t && digit (get_or s 0 0)) ≡ true → 2 ≤ number_length (b ∷ s)
    go true e [] h = absurd (let z : ◌≡◌ {A = ℕ} 0 1 = cc in omega arith)
    go true e (c ∷ s) h = rw (eqb-true b (byte ".") e) (dot_two c s h)
    go false e s h = absurd (let z : ◌≡◌ {A = ℕ} 0 1 = cc in omega arith)

-- a byte with which no part of a number goes on
pub record Breaks (x : ℕ) : Type 0 where
  pub decimal : digit x ≡ false
  pub hex : hex_digit x ≡ false
  pub zero : eqb x (byte "0") ≡ false
  pub dot : eqb x (byte ".") ≡ false
  pub exponent : exponent_indicator x ≡ false
  pub sign : plus_or_minus x ≡ false
  pub indicator : hex_indicator x ≡ false

drop_cut : (n k : ℕ) (s w : List ℕ) → n ≤ k → k ≤ length s → drop n (take k s ++ w) ≡ take (k - n) (drop n s) ++ w
drop_cut zero k s w h l = let e : k - 0 ≡ k = omega arith in rw e
drop_cut (suc n) zero s w h l = absurd (omega arith)
drop_cut (suc n) (suc k) [] w h l = absurd (omega arith)
drop_cut (suc n) (suc k) (b ∷ s) w h l = let e : suc k - suc n ≡ k - n = omega arith in rw e (drop_cut n k s w (omega arith) (omega arith))

-- a run behind n bytes has more than n bytes, if it is there
abbrev counted : ℕ → ℕ → ℕ
counted n r = cond (eqb r 0) 0 (n + r)

counted_over : (n r k : ℕ) → counted n r ≤ n + k → r ≤ k
counted_over n zero k h = omega arith
counted_over n (suc r) k h = let l : n + suc r ≤ n + k = rw (suc_some r) at h in omega arith

counted_none : (n r : ℕ) → counted n r ≤ n → counted n r ≡ 0
counted_none n zero h = refl
counted_none n (suc r) h = let l : n + suc r ≤ n = rw (suc_some r) at h in absurd (omega arith)

module _ (x : ℕ) (v : List ℕ) (breaks : Breaks x) where
  -- a part is the same where the text is cut behind it, or later, and goes on with such a byte
  abbrev Steady : (List ℕ → ℕ) → Type 0
  Steady f = (s : List ℕ) (k : ℕ) → k ≤ length s → f s ≤ k → f (take k s ++ x ∷ v) ≡ f s

  behind_own : (class : ℕ → Bool) → class x ≡ false → (n : ℕ) (s : List ℕ) (k : ℕ) → run_behind n class s ≤ n + k
      → run_behind n class (take k s ++ x ∷ v) ≡ run_behind n class s
  behind_own class e n s k h = ap (counted n) (run_own class x v e s k (counted_over n (run class s) k h))

  behind_none : (class : ℕ → Bool) → class x ≡ false → (n : ℕ) → run_behind n class (x ∷ v) ≡ 0
  unfolding run
  behind_none class e n = rw e

  integer_steady : Steady integer_length
  unfolding integer_length run
  integer_steady [] zero p h = rw (breaks.zero, breaks.decimal)
  integer_steady [] (suc k) p h = absurd (omega arith)
  integer_steady (b ∷ s) zero p h = rw (breaks.zero, breaks.decimal) (omega arith)
  integer_steady (b ∷ s) (suc k) p h = go (eqb b (byte "0")) h
    where
      go : (t : Bool) → cond t 1 (run digit (b ∷ s)) ≤ suc k → cond t 1 (run digit (b ∷ take k s ++ x ∷ v)) ≡ cond t 1 (run digit (b ∷ s))
      go true h = refl
      go false h = run_own digit x v breaks.decimal (b ∷ s) (suc k) h

  fraction_steady : Steady fraction_length
  unfolding fraction_length
  fraction_steady [] zero p h = rw breaks.dot
  fraction_steady [] (suc k) p h = absurd (omega arith)
  fraction_steady (b ∷ s) zero p h = rw breaks.dot (omega arith)
  fraction_steady (b ∷ s) (suc k) p h = go (eqb b (byte ".")) h
    where
      go : (t : Bool) → cond t (1 + run digit s) 0 ≤ suc k → cond t (1 + run digit (take k s ++ x ∷ v)) 0 ≡ cond t (1 + run digit s) 0
      go true h = ap (◌+◌ 1) (run_own digit x v breaks.decimal s k (omega arith))
      go false h = refl

  exponent_steady : Steady exponent_length
  unfolding exponent_length
  exponent_steady [] zero p h = rw breaks.exponent
  exponent_steady [] (suc k) p h = absurd (omega arith)
  exponent_steady (b ∷ s) zero p h = rw breaks.exponent (omega arith)
  exponent_steady (b ∷ []) (suc zero) p h = rw (breaks.sign, behind_none digit breaks.decimal 1, behind_short 1 digit [] (omega arith))
  exponent_steady (b ∷ []) (suc (suc k)) p h = absurd (omega arith)
  exponent_steady (b ∷ c ∷ s) (suc zero) p h =
      rw (breaks.sign, behind_none digit breaks.decimal 1) (go (exponent_indicator b) (plus_or_minus c) h)
    where
      go : (t u : Bool) → cond t (cond u (run_behind 2 digit s) (run_behind 1 digit (c ∷ s))) 0 ≤ 1
          → cond t 0 0 ≡ cond t (cond u (run_behind 2 digit s) (run_behind 1 digit (c ∷ s))) 0
      go true true h = sym (counted_none 2 (run digit s) (omega arith))
      go true false h = sym (counted_none 1 (run digit (c ∷ s)) h)
      go false u h = refl
  exponent_steady (b ∷ c ∷ s) (suc (suc k)) p h = go (exponent_indicator b) (plus_or_minus c) h
    where
      go : (t u : Bool) → cond t (cond u (run_behind 2 digit s) (run_behind 1 digit (c ∷ s))) 0 ≤ suc (suc k)
          → cond t (cond u (run_behind 2 digit (take k s ++ x ∷ v)) (run_behind 1 digit (c ∷ take k s ++ x ∷ v))) 0
          ≡ cond t (cond u (run_behind 2 digit s) (run_behind 1 digit (c ∷ s))) 0
      go true true h = behind_own digit breaks.decimal 2 s k (omega arith)
      go true false h = behind_own digit breaks.decimal 1 (c ∷ s) (suc k) (omega arith)
      go false u h = refl

  hex_steady : Steady hex_length
  unfolding hex_length
  hex_steady [] zero p h = rw breaks.zero
  hex_steady [] (suc k) p h = absurd (omega arith)
  hex_steady (b ∷ s) zero p h = rw breaks.zero (omega arith)
  hex_steady (b ∷ []) (suc zero) p h = rw (breaks.indicator, and-false (eqb b (byte "0")))
  hex_steady (b ∷ []) (suc (suc k)) p h = absurd (omega arith)
  hex_steady (b ∷ c ∷ s) (suc zero) p h =
      rw (breaks.indicator, and-false (eqb b (byte "0"))) (go (eqb b (byte "0") && hex_indicator c) h)
    where
      go : (t : Bool) → cond t (run_behind 2 hex_digit s) 0 ≤ 1 → 0 ≡ cond t (run_behind 2 hex_digit s) 0
      go true h = sym (counted_none 2 (run hex_digit s) (omega arith))
      go false h = refl
  hex_steady (b ∷ c ∷ s) (suc (suc k)) p h = go (eqb b (byte "0") && hex_indicator c) h
    where
      go : (t : Bool) → cond t (run_behind 2 hex_digit s) 0 ≤ suc (suc k) → cond t (run_behind 2 hex_digit (take k s ++ x ∷ v)) 0 ≡ cond t (run_behind 2 hex_digit s) 0
      go true h = behind_own hex_digit breaks.hex 2 s k (omega arith)
      go false h = refl

  both_steady : (f g : List ℕ → ℕ) → Steady f → Steady g → Steady (followed_by f g)
  both_steady f g p q s k h l =
      rw (p s k h (omega arith), drop_cut (f s) k s (x ∷ v) (omega arith) h)
      (ap (◌+◌ (f s)) (q (drop (f s) s) (k - f s) (omega (arith, length-drop (f s) s)) (omega arith)))

  pub number_steady : Steady number_length
  unfolding number_length decimal_length
  number_steady s k p h = go (hex_length s) refl h
    where
      decimal : decimal_length s ≤ k → decimal_length (take k s ++ x ∷ v) ≡ decimal_length s
      decimal h = both_steady (followed_by integer_length fraction_length) exponent_length (both_steady integer_length fraction_length integer_steady fraction_steady) exponent_steady s k p h

      go : (n : ℕ) → hex_length s ≡ n → cond (eqb n 0) (decimal_length s) n ≤ k
          → cond (eqb (hex_length (take k s ++ x ∷ v)) 0) (decimal_length (take k s ++ x ∷ v)) (hex_length (take k s ++ x ∷ v)) ≡ cond (eqb n 0) (decimal_length s) n
      go zero e h = rw (hex_steady s k p (omega arith), e) (decimal h)
      go (suc n) e h =
          let l : suc n ≤ k = rw (suc_some n) at h in
          rw (hex_steady s k p (omega arith), e, suc_some n)
