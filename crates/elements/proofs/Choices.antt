-- Laws of a choice between two values by a test.
use mathlib.Core.Path.{◌≡◌, refl}
use mathlib.Core.Bool.{Bool, true, false, cond}

module _ {A : Type 0} (P : A → Type 0) where
  -- what holds of both values holds of the one that is chosen
  pub cond_both : (t : Bool) {x y : A} → P x → P y → P (cond t x y)
  cond_both true p q = p
  cond_both false p q = q

  -- the same, where each value is known under its answer only
  pub cond_known : (t : Bool) {x y : A} → (t ≡ true → P x) → (t ≡ false → P y) → P (cond t x y)
  cond_known true p q = p refl
  cond_known false p q = q refl

-- a function goes under a choice
pub cond_map : {A B : Type 0} (f : A → B) (t : Bool) {x y : A} {a b : B} → a ≡ f x → b ≡ f y → cond t a b ≡ f (cond t x y)
cond_map f true p q = p
cond_map f false p q = q

-- two choices by one test: what the first chooses settles what the second does, where each of its values settles it
pub cond_follow : {A B : Type 0} (t : Bool) {x y r : A} {a b q : B} → (x ≡ r → a ≡ q) → (y ≡ r → b ≡ q)
    → cond t x y ≡ r → cond t a b ≡ q
cond_follow true f g = f
cond_follow false f g = g
