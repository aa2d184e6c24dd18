-- `hex_digits_end` is the end of the run of hexadecimal digits, byte by byte.
use mathlib.Core.Path.{◌≡◌}
use Prim.Native.Nat.{◌+◌, ◌≤◌, max}
use lib.ListN.{length, drop}
use Rattle.text.specs.Runs.{run}
use Rattle.numbers.specs.Numbers.{hex_digit}
use Rattle.numbers.proofs.hex_digits_end.Given as goal

abbrev pub invariant-loop-i : goal.invariant-loop-i
invariant-loop-i l =
    (l.from + run hex_digit (drop l.from l.text) ≡ l.i + run hex_digit (drop l.i l.text)) × (l.i ≤ max l.from (length l.text))
