-- Numbers and lines of them, as the code goes through them, and how long they are.
use mathlib.Core.Path.{◌≡◌, refl, sym, ap}
use mathlib.Core.Bool.{Bool, true, false, cond}
use mathlib.Core.List.{List, [], ◌∷◌, ◌++◌, append_assoc}
use Prim.Native.Nat.{ℕ, zero, suc, ◌+◌, ◌*◌, ◌/◌, ◌%◌, ◌^◌, ◌<◌, ◌≤◌}
use native.Mathlib.Omega.{arith}
use native.Mathlib.Nat.{suc-add}
use borrow.Author.Tests.{lt-ltb, le-ltb, ltb-true, ltb-false}
use lib.Dec.{ltb}
use lib.ListN.{length, get_or, take, drop, length-append}
use Rattle.text.specs.Quoted.{byte}
use Rattle.writing.specs.Numbers.{digit_byte, digits, decimal, after, line}

-- a digit alone
pub decimal_one : (n : ℕ) → n < 10 → decimal n ≡ digit_byte (n % 10) ∷ []
unfolding decimal digits
decimal_one n h = rw (lt-ltb n 10 h)

higher : (b : Bool) {x y : List ℕ} → (b ≡ false → x ≡ y) → cond b [] x ≡ cond b [] y
higher true e = refl
higher false e = e refl

-- any number of digits that suffices gives the same
enough : (k m n : ℕ) → n < k → n < m → digits k n ≡ digits m n
unfolding digits
enough zero m n h g = absurd (omega arith)
enough (suc k) zero n h g = absurd (omega arith)
enough (suc k) (suc m) n h g =
    ap (λ (l : List ℕ). l ++ (digit_byte (n % 10) ∷ []))
    (higher (ltb n 10) (λ e. let t : 10 ≤ n = ltb-false n 10 e in enough k m (n / 10) (omega arith) (omega arith)))

-- a last digit byte, and those before it
pub decimal_more : (n : ℕ) → 10 ≤ n → decimal n ≡ decimal (n / 10) ++ (digit_byte (n % 10) ∷ [])
unfolding decimal digits
decimal_more n h = rw (le-ltb n 10 h, enough n (suc (n / 10)) (n / 10) (omega arith) (omega arith))

-- a line's numbers: the first, and what stands behind it
line_cons : (n : ℕ) (rest : List ℕ) → line (n ∷ rest) ≡ (decimal n ++ (after rest ∷ [])) ++ line rest
unfolding line
line_cons n rest = sym (append_assoc (decimal n) (after rest ∷ []) (line rest))

pub line_none : (cells : List ℕ) → length cells ≡ 0 → line cells ≡ []
unfolding line
line_none [] e = refl
line_none (n ∷ rest) e = absurd (omega arith)

pub line_one : (n : ℕ) → line (n ∷ []) ≡ decimal n ++ (byte "\n" ∷ [])
unfolding line
line_one n = refl

pub line_two : (n m : ℕ) → line (n ∷ m ∷ []) ≡ (decimal n ++ (byte "," ∷ [])) ++ (decimal m ++ (byte "\n" ∷ []))
line_two n m = rw (line_cons n (m ∷ []), line_one m) refl

-- and so from any place of a line on, but the last
pub line_step : (others : List ℕ) (last i : ℕ) → i < length others
    → line (drop i (others ++ (last ∷ []))) ≡ (decimal (get_or others i 0) ++ (byte "," ∷ [])) ++ line (drop (i + 1) (others ++ (last ∷ [])))
line_step [] last i h = absurd (omega arith)
line_step (n ∷ []) last zero h = line_cons n (last ∷ [])
line_step (n ∷ m ∷ others) last zero h = line_cons n (m ∷ others ++ (last ∷ []))
line_step (n ∷ others) last (suc i) h = rw (suc-add i 1) (line_step others last i (omega arith))

pub line_last : (others : List ℕ) (last : ℕ) → line (drop (length others) (others ++ (last ∷ []))) ≡ decimal last ++ (byte "\n" ∷ [])
line_last [] last = line_one last
line_last (n ∷ others) last = line_last others last

-- a number below 10^k has at most k digits
pub decimal-length : (k n : ℕ) → n < 10 ^ suc k → length (decimal n) ≤ suc k
decimal-length zero n h = rw (decimal_one n (omega arith)) (omega arith)
decimal-length (suc k) n h = go (ltb n 10) refl (decimal-length k (n / 10) (omega arith))
  where
    go : (b : Bool) → ltb n 10 ≡ b → length (decimal (n / 10)) ≤ suc k → length (decimal n) ≤ suc (suc k)
    go true e l = rw (decimal_one n (ltb-true n 10 e)) (omega arith)
    go false e l = rw (decimal_more n (ltb-false n 10 e)) (omega (arith, length-append (decimal (n / 10)) (digit_byte (n % 10) ∷ [])))

-- cells that are 32-bit numbers
abbrev pub Small : List ℕ → Type 0
Small cells = (i : ℕ) → get_or cells i 0 < 2 ^ 32

pub small_take : (n : ℕ) (cells : List ℕ) → Small cells → Small (take n cells)
small_take zero cells h i = omega arith
small_take (suc n) [] h i = omega arith
small_take (suc n) (x ∷ cells) h zero = h 0
small_take (suc n) (x ∷ cells) h (suc i) = small_take n cells (λ j. h (suc j)) i

pub small_drop : (n : ℕ) (cells : List ℕ) → Small cells → Small (drop n cells)
small_drop zero cells h = h
small_drop (suc n) [] h = h
small_drop (suc n) (x ∷ cells) h = small_drop n cells (λ j. h (suc j))

-- so a line has at most 11 bytes for each of its numbers
pub line_length : (cells : List ℕ) → Small cells → length (line cells) ≤ 11 * length cells
unfolding line
line_length [] h = omega arith
line_length (n ∷ rest) h =
    omega (
      arith,
      length-append (decimal n) (after rest ∷ line rest),
      decimal-length 9 n (omega (arith, h 0)),
      line_length rest (λ i. h (suc i)),
    )
