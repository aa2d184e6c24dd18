-- Which pending operators `reduce` closes.
use mathlib.Core.Path.{◌≡◌, refl}
use mathlib.Core.Bool.{Bool, true, false, not, cond}
use mathlib.Core.List.{List, [], ◌∷◌}
use Prim.Native.Nat.{ℕ, ◌≤◌, ◌<◌}
use native.Mathlib.Omega.{arith}
use lib.Dec.{T, leb, leb→le, nleb→lt}
use Rattle.machine.specs.Syntax.{Syntax, node}
use Rattle.machine.specs.Machinery.Machine.{Pending, pending, frame, reduce, tightness}

-- the pending operator next to the operand, if there is one, binds less tight than a number says
abbrev pub Looser : ℕ → List Pending → Type 0
Looser least [] = Unit {0}
Looser least (pending class mark left ∷ waiting) = tightness class < least

pub looser_up : (least more : ℕ) (waiting : List Pending) → Looser least waiting → least ≤ more → Looser more waiting
looser_up least more [] loose up = tt
looser_up least more (pending class mark left ∷ waiting) loose up = omega arith

pub clash : {A : Type 0} (a b : ℕ) → a ≤ b → b < a → A
clash {A} a b below above = absurd (go a b below above)
  where
    go : (a b : ℕ) → a ≤ b → b < a → ⊥
    go a b below above = omega arith

pub reduce_stops : (least : ℕ) (done : Syntax) (starts waiting : List Pending) (operand : Syntax) → Looser least waiting
    → reduce least done starts waiting operand ≡ frame done starts waiting operand
reduce_stops least done starts [] operand loose = refl
reduce_stops least done starts (pending class mark left ∷ waiting) operand loose = go (leb least (tightness class)) (λ t. t)
  where
    go : (b : Bool) → (T b → T (leb least (tightness class)))
        → cond b (reduce least done starts waiting (node class mark left operand)) (frame done starts (pending class mark left ∷ waiting) operand)
        ≡ frame done starts (pending class mark left ∷ waiting) operand
    go true t = clash least (tightness class) (leb→le least (tightness class) (t tt)) loose
    go false t = refl

pub reduce_closes : (least : ℕ) (done : Syntax) (starts : List Pending) (class mark : ℕ) (left : Syntax) (waiting : List Pending)
    (operand : Syntax) → least ≤ tightness class
    → reduce least done starts (pending class mark left ∷ waiting) operand ≡ reduce least done starts waiting (node class mark left operand)
reduce_closes least done starts class mark left waiting operand tight = go (leb least (tightness class)) (λ t. t)
  where
    go : (b : Bool) → (T (not b) → T (not (leb least (tightness class))))
        → cond b (reduce least done starts waiting (node class mark left operand)) (frame done starts (pending class mark left ∷ waiting) operand)
        ≡ reduce least done starts waiting (node class mark left operand)
    go true t = refl
    go false t = clash least (tightness class) tight (nleb→lt least (tightness class) (t tt))
