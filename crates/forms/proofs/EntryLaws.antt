-- Rows that have an entry for each class of a list.
use mathlib.Core.Path.{◌≡◌, refl, sym, subst}
use mathlib.Core.Bool.{Bool, true, false, cond}
use mathlib.Core.List.{List, [], ◌∷◌}
use Prim.Native.Nat.{ℕ}
use borrow.Author.Tests.{eqb-true}
use lib.Dec.{T, eqb}
use Rattle.machine.specs.Operators.{is_among}
use Rattle.machine.specs.Machinery.Machine.{Action, Entry, look, for_each}

module _ (class : ℕ) where
  -- the entry of a class that is in the list, and of one that is not
  pub among_entry : (action : ℕ → Action) (classes : List ℕ) (rest : List Entry) → is_among classes class ≡ true
      → look class (for_each action classes rest) ≡ action class
  among_entry action [] rest is = absurd (subst T (sym is) tt)
  among_entry action (x ∷ classes) rest is = go (eqb class x) refl is (among_entry action classes rest)
    where
      go : (b : Bool) → eqb class x ≡ b → cond b true (is_among classes class) ≡ true
          → (is_among classes class ≡ true → look class (for_each action classes rest) ≡ action class)
          → cond b (action x) (look class (for_each action classes rest)) ≡ action class
      go true e is later = rw (eqb-true class x e)
      go false e is later = later is

  pub other_entry : (action : ℕ → Action) (classes : List ℕ) (rest : List Entry) → is_among classes class ≡ false
      → look class (for_each action classes rest) ≡ look class rest
  other_entry action [] rest none = refl
  other_entry action (x ∷ classes) rest none = go (eqb class x) none (other_entry action classes rest)
    where
      go : (b : Bool) → cond b true (is_among classes class) ≡ false
          → (is_among classes class ≡ false → look class (for_each action classes rest) ≡ look class rest)
          → cond b (action x) (look class (for_each action classes rest)) ≡ look class rest
      go true none later = absurd (subst T none tt)
      go false none later = later none
