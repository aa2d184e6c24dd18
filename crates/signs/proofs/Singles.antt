-- What follows the first byte of a text does not matter to its longest sign, where no sign goes on with the byte behind it.
use mathlib.Core.Path.{◌≡◌, refl}
use mathlib.Core.List.{List, [], ◌∷◌}
use mathlib.Core.Bool.{Bool, true, false, ◌&&◌}
use Prim.Native.Nat.{ℕ, ◌+◌}
use borrow.Author.Tests.{ne_eqb}
use lib.Dec.{T, eqb}
use lib.ListN.{length, take, get_or}
use Rattle.text.specs.Runs.{same}
use Rattle.text.proofs.Range.{and_left, and_right}
use Rattle.vocabulary.specs.Vocabulary.{Row, spelling, signs}
use Rattle.signs.specs.Signs.{starts_with, longer, longest_of, longest_sign}
use Rattle.signs.specs.Machinery.Rows.{goes_on}
use Rattle.signs.specs.declared.Sign.{Sign}
use Rattle.std.specs.Prelude.{Option, None}

-- the second byte of a sign is one with which signs go on
abbrev second_goes_on : List ℕ → Bool
second_goes_on [] = true
second_goes_on (a ∷ []) = true
second_goes_on (a ∷ c ∷ p) = goes_on c

abbrev all_go_on : List Row → Bool
all_go_on [] = true
all_go_on (g ∷ gs) = second_goes_on (spelling g) && all_go_on gs

module _ (b : ℕ) (t : List ℕ) (apart : goes_on (get_or t 0 0) ≡ false) where
  starts_single : (p : List ℕ) → T (second_goes_on p) → starts_with p (b ∷ t) ≡ starts_with p (b ∷ [])
  unfolding same
  starts_single [] h = refl
  starts_single (a ∷ []) h = refl
  starts_single (a ∷ c ∷ p) h = behind t apart
    where
      behind : (t : List ℕ) → goes_on (get_or t 0 0) ≡ false
          → (eqb a b && same (c ∷ p) (take (length (c ∷ p)) t)) ≡ (eqb a b && same (c ∷ p) (take (length (c ∷ p)) []))
      behind [] apart = refl
      behind (x ∷ t) apart = rw (ne_eqb c x (λ e. absurd (rw (e, apart) at h))) (refl)

  longest_of_single : (gs : List Row) (number : ℕ) (best : Option Sign) → T (all_go_on gs)
      → longest_of (b ∷ t) number best gs ≡ longest_of (b ∷ []) number best gs
  unfolding longest_of
  longest_of_single [] number best h = refl
  longest_of_single (g ∷ gs) number best h =
      rw (starts_single (spelling g) (and_left (second_goes_on (spelling g)) (all_go_on gs) h))
      (longest_of_single gs (number + 1) (longer (b ∷ []) number best g) (and_right (second_goes_on (spelling g)) (all_go_on gs) h))

  pub longest_single : longest_sign (b ∷ t) ≡ longest_sign (b ∷ [])
  unfolding longest_sign
  longest_single = longest_of_single signs 1 None tt
