-- How tight what waits binds: what binds as an operator leaves room on the stack for numbers of its own.
use Prim.Native.Nat.{ℕ, ◌+◌, ◌≤◌, ◌<◌}
use mathlib.Core.Path.{◌≡◌, refl, ◌∙◌}
use mathlib.Core.Bool.{Bool, true, false}
use native.Mathlib.Omega.{arith}
use borrow.Author.Tests.{leb-true, leb-false, le-leb, lt-leb}
use lib.Dec.{leb, leb→le}
use Rattle.machine.specs.Machinery.Machine.{new_precedence, tightness}
use Rattle.controls.proofs.ClassLaws.{at_number, no_precedence, late_tightness}
use Rattle.waiting.specs.Machinery.Waiting.{nest_kind, binding}

-- kinds that no operator has
none_tight : (kind : ℕ) → 74 ≤ kind → tightness kind ≡ 0
none_tight kind many = late_tightness kind (omega arith) (λ e. omega arith) ∙ no_precedence kind many

pub tightness_small : (kind : ℕ) → tightness kind ≤ new_precedence
tightness_small kind = go (leb 74 kind) refl
  where
    go : (b : Bool) → leb 74 kind ≡ b → tightness kind ≤ new_precedence
    go true e = omega (arith, none_tight kind (leb-true 74 kind e))
    go false e =
        leb→le (tightness kind) new_precedence
        (at_number (λ (k : ℕ). leb (tightness k) new_precedence) 0 74 tt kind (omega arith) (omega (arith, leb-false 74 kind e)))

pub operator_small : (kind : ℕ) → 1 ≤ tightness kind → kind < nest_kind
operator_small kind some = go (leb 74 kind) refl
  where
    go : (b : Bool) → leb 74 kind ≡ b → kind < nest_kind
    go true e = absurd (omega (arith, some, none_tight kind (leb-true 74 kind e)))
    go false e = omega (arith, leb-false 74 kind e)

-- how tight each of what waits binds
pub binding_nest : (kind : ℕ) → nest_kind ≤ kind → binding kind ≡ 0
unfolding binding
binding_nest kind many = rw (le-leb nest_kind kind many)

pub binding_other : (kind : ℕ) → kind < nest_kind → binding kind ≡ tightness kind + 1
unfolding binding
binding_other kind few = rw (lt-leb nest_kind kind few)

pub binding_operator : (kind : ℕ) → 1 ≤ tightness kind → binding kind ≡ tightness kind + 1
binding_operator kind some = binding_other kind (operator_small kind some)
