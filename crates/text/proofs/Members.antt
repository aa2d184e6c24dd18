-- A rule of all members of a list, proved by one test that antt computes over them.
use mathlib.Core.Bool.{Bool, true, false, ◌&&◌, cond}
use mathlib.Core.List.{List, [], ◌∷◌}
use Prim.Native.Nat.{ℕ}
use lib.Dec.{T, eqb, eqb→eq}
use Rattle.text.proofs.Range.{and_left, and_right}

module _ {A : Type 0} where
  pub data Has (x : A) : List A → Type 0 where
    here : {xs : List A} → Has x (x ∷ xs)
    there : {y : A} {xs : List A} → Has x xs → Has x (y ∷ xs)

  abbrev pub all_in : (A → Bool) → List A → Bool
  all_in P [] = true
  all_in P (x ∷ xs) = P x && all_in P xs

  pub at : (P : A → Bool) {x : A} {xs : List A} → Has x xs → T (all_in P xs) → T (P x)
  at P {x} (here {xs = xs}) t = and_left (P x) (all_in P xs) t
  at P (there {y = y} {xs = xs} h) t = at P h (and_right (P y) (all_in P xs) t)

-- numbers are looked for by a test
abbrev pub is_in : List ℕ → ℕ → Bool
is_in [] n = false
is_in (x ∷ xs) n = cond (eqb n x) true (is_in xs n)

pub found : (xs : List ℕ) (n : ℕ) → T (is_in xs n) → Has n xs
found [] n t = absurd t
found (x ∷ xs) n t = go (eqb n x) (λ s. s) (found xs n) t
  where
    go : (b : Bool) → (T b → T (eqb n x)) → (T (is_in xs n) → Has n xs) → T (cond b true (is_in xs n)) → Has n (x ∷ xs)
    go true s r u = rw (eqb→eq n x (s tt)) here
    go false s r u = there (r u)
