-- A rule of the numbers of a range, proved by one test that antt computes over all of them.
use mathlib.Core.Bool.{Bool, true, false, ◌&&◌}
use mathlib.Core.Path.{◌≡◌, refl}
use Prim.Native.Nat.{ℕ, zero, suc, ◌+◌, ◌-◌, ◌≤◌, ◌<◌}
use native.Mathlib.Omega.{arith}
use lib.Dec.{T, eqb, eqb→eq}

abbrev pub and_left : (a b : Bool) → T (a && b) → T a
and_left true b t = tt
and_left false b t = t

abbrev pub and_right : (a b : Bool) → T (a && b) → T b
and_right true b t = t
and_right false b t = absurd t

-- the test passes at the n numbers from lo on
abbrev pub every : (ℕ → Bool) → ℕ → ℕ → Bool
every test lo zero = true
every test lo (suc n) = test lo && every test (suc lo) n

from : (test : ℕ → Bool) (n lo k : ℕ) → T (every test lo n) → k < n → T (test (lo + k))
from test zero lo k t h = absurd (omega arith)
from test (suc n) lo zero t h =
    let e : lo + 0 ≡ lo = omega arith in
    rw e (and_left (test lo) (every test (suc lo) n) t)
from test (suc n) lo (suc k) t h =
    let e : lo + suc k ≡ suc lo + k = omega arith in
    rw e (from test n (suc lo) k (and_right (test lo) (every test (suc lo) n) t) (omega arith))

-- each number from lo to hi passes the test
pub within : (test : ℕ → Bool) (lo hi b : ℕ) → T (every test lo (suc hi - lo)) → lo ≤ b → b ≤ hi → T (test b)
within test lo hi b t h k =
    let e : lo + (b - lo) ≡ b = omega arith in
    rw e at (from test (suc hi - lo) lo (b - lo) t (omega arith))

-- two Booleans are the same
abbrev pub alike : Bool → Bool → Bool
alike true b = b
alike false true = false
alike false false = true

pub alike→eq : (a b : Bool) → T (alike a b) → a ≡ b
alike→eq true true t = refl
alike→eq true false t = absurd t
alike→eq false true t = absurd t
alike→eq false false t = refl

-- two tests agree on a range
pub agree : (f g : ℕ → Bool) (lo hi b : ℕ) → T (every (λ k. alike (f k) (g k)) lo (suc hi - lo)) → lo ≤ b → b ≤ hi → f b ≡ g b
agree f g lo hi b t h k = alike→eq (f b) (g b) (within (λ j. alike (f j) (g j)) lo hi b t h k)

-- a number has one value on a range
pub constant : (f : ℕ → ℕ) (v lo hi b : ℕ) → T (every (λ k. eqb v (f k)) lo (suc hi - lo)) → lo ≤ b → b ≤ hi → v ≡ f b
constant f v lo hi b t h k = eqb→eq v (f b) (within (λ j. eqb v (f j)) lo hi b t h k)
