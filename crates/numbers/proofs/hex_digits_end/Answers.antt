-- `hex_digits_end` is the end of the run of hexadecimal digits, byte by byte.
use native.Mathlib.Omega.{arith}
use mathlib.Core.Path.{refl, sym, ◌∙◌}
use Rattle.text.proofs.Laws.{run_stop, run_more, run_past}
use Rattle.numbers.specs.Numbers.{hex_digit}
use Rattle.numbers.proofs.NumberPlaces.{hex_known}
use Rattle.numbers.proofs.hex_digits_end.Goals as goal

pub loop-i-init : goal.loop-i-init
loop-i-init c = (refl, omega arith)

pub returns-then-not-is_ascii_hexdigit : goal.returns-then-not-is_ascii_hexdigit
returns-then-not-is_ascii_hexdigit c = sym (c.loop-i.invariant.0 ∙ run_stop hex_digit _ c.loop-i.i c.loop-i-test.true (sym (hex_known _) ∙ sym c.is_ascii_hexdigit.ensures.value ∙ c.if-not-is_ascii_hexdigit.true))

pub loop-i-preserved : goal.loop-i-preserved
loop-i-preserved c = (c.loop-i.invariant.0 ∙ run_more hex_digit _ c.loop-i.i c.loop-i-test.true (sym (hex_known _) ∙ sym c.is_ascii_hexdigit.ensures.value ∙ c.if-not-is_ascii_hexdigit.false), omega arith)

pub returns : goal.returns
returns c = omega (arith, c.loop-i.invariant.0 ∙ run_past hex_digit _ c.loop-i.i c.loop-i-test.false)
