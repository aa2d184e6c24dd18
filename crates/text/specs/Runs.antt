-- Runs of bytes of one class, and two texts compared byte for byte.
use Rattle.std.specs.Prelude.{ℕ, suc, zero, List, [], ◌∷◌, Bool, true, false, cond, ◌&&◌, eqb}

-- how many bytes from the first on are of the class
unfoldable pub run : (ℕ → Bool) → List ℕ → ℕ
run class [] = zero
run class (b ∷ s) = cond (class b) (suc (run class s)) zero

-- two texts are the same, byte for byte
unfoldable pub same : List ℕ → List ℕ → Bool
same [] [] = true
same [] (b ∷ t) = false
same (a ∷ s) [] = false
same (a ∷ s) (b ∷ t) = eqb a b && same s t
