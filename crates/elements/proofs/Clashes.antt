-- A fault is no result, so from a fault that is one anything follows.
use Rattle.std.specs.Prelude.{Result, Ok, Err}
use mathlib.Core.Path.{◌≡◌}
use Prim.Native.Nat.{ℕ}
use native.Mathlib.Omega.{arith}

pub no_result : {A T E : Type 0} {fault : E} {x : T} → ◌≡◌ {A = Result T E} (Err fault) (Ok x) → A
no_result e = absurd (let z : ◌≡◌ {A = ℕ} 0 1 = cc in omega arith)
