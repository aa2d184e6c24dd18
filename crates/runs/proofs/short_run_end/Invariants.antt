-- `short_run_end` is the end of the run: what is left of it starts at the place where the loop stands.
use mathlib.Core.Path.{◌≡◌}
use Prim.Native.Nat.{◌+◌, ◌≤◌, max}
use lib.ListN.{length, drop}
use Rattle.text.specs.Machinery.Codes.{code_over}
use Rattle.text.specs.Runs.{run}
use Rattle.runs.proofs.short_run_end.Given as goal

abbrev pub invariant-loop-i : goal.invariant-loop-i
invariant-loop-i l =
    (l.from + run (code_over l.limit) (drop l.from l.text) ≡ l.i + run (code_over l.limit) (drop l.i l.text)) × (l.i ≤ max l.from (length l.text))
