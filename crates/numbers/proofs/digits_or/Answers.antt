-- `digits_or` is the end of digits, if there are any.
use native.Mathlib.Omega.{arith}
use borrow.Author.Tests.{ne_eqb}
use mathlib.Core.Path.{◌≡◌}
use lib.ListN.{drop}
use Rattle.text.specs.Bytes.{digit}
use Rattle.text.specs.Runs.{run}
use Rattle.numbers.proofs.digits_or.Goals as goal

pub returns-then-end-digits : goal.returns-then-end-digits
returns-then-end-digits c = let a = c.args in
    let z : run digit (drop a.digits a.text.now) ≡ 0 = omega (arith, c.digits_end-end.ensures) in
    rw z

pub returns-else-end-digits : goal.returns-else-end-digits
returns-else-end-digits c = let a = c.args in
    let n : run digit (drop a.digits a.text.now) ≡ 0 → ⊥ = λ z. c.if-end-digits.false (omega (arith, c.digits_end-end.ensures)) in
    rw (ne_eqb _ _ n) c.digits_end-end.ensures
