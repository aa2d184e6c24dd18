-- The part of a text between two places, where the text may end before them.
use mathlib.Core.Path.{◌≡◌, refl, ap, sym}
use mathlib.Core.List.{List, [], ◌∷◌}
use Prim.Native.Nat.{ℕ, zero, suc, ◌-◌, min}
use native.Mathlib.Nat.{zero-sub}
use native.Mathlib.Numerals.{unary_clauses}
use lib.ListN.{length, take, drop}

take_nil : (n : ℕ) → take {A = ℕ} n [] ≡ []
take_nil zero = refl
take_nil (suc n) = refl

-- no more is taken than is there
take_least : (n : ℕ) (s : List ℕ) → take (min n (length s)) s ≡ take n s
take_least zero s = simp unary_clauses refl
take_least (suc n) [] = take_nil (min (suc n) zero)
take_least (suc n) (x ∷ s) = simp unary_clauses (ap {B = List ℕ} (λ r. x ∷ r) (take_least n s))

-- the part between two places is the part between them as far as the text goes
pub lexeme_clipped : (first end : ℕ) (s : List ℕ)
    → take (min end (length s) - min first (min end (length s))) (drop (min first (min end (length s))) s)
    ≡ take (end - first) (drop first s)
lexeme_clipped zero end s = simp unary_clauses (take_least end s)
lexeme_clipped (suc first) zero s = simp (unary_clauses, zero-sub) refl
lexeme_clipped (suc first) (suc end) [] = simp unary_clauses (sym (take_nil (end - first)))
lexeme_clipped (suc first) (suc end) (x ∷ s) = simp unary_clauses (lexeme_clipped first end s)
