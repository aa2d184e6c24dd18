-- Each turn closes what waits uppermost.
use mathlib.Core.Path.{◌≡◌}
use mathlib.Core.List.{List}
use Prim.Native.Nat.{ℕ}
use Rattle.machine.specs.Syntax.{Syntax}
use Rattle.machine.specs.Machinery.Machine.{Pending}
use Rattle.waiting.specs.Machinery.Waiting.{Holds, Backed}
use Rattle.waiting.proofs.CloseLaws.{Closing}
use Rattle.waiting.proofs.Level.closed.Given as goal

abbrev pub invariant-loop-l : goal.invariant-loop-l
invariant-loop-l l = (l.l.floor ≡ l.fn.self.floor) × (l.l.held ≡ l.fn.self.held) × Backed l.l l.waiting l.syntax
    × ((table : List ℕ) (first : ℕ) (done : Syntax) (ps : List Pending) (operand : Syntax)
    → Holds table first done ps operand l.fn.self l.waiting l.initial.syntax → Closing l.least table first done ps operand l.l l.waiting l.syntax)

abbrev pub decreases-loop-l : goal.decreases-loop-l
decreases-loop-l l = l.l.top
