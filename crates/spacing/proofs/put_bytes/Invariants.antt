-- The bytes before the one at which the loop stands are written.
use Rattle.std.proofs.Common.{ℕ, ◌≡◌, ◌+◌, List, ◌++◌, length, take}
use Rattle.spacing.specs.Machinery.Over.{over}
use Rattle.spacing.proofs.put_bytes.Given as goal

abbrev pub invariant-loop-b : goal.invariant-loop-b
invariant-loop-b l = (l.to ≡ l.at + l.b-index) × (length l.output ≡ length l.initial.output)
    × ((written old : List ℕ) → l.at ≡ length written → l.initial.output ≡ over written old → l.output ≡ over (written ++ take l.b-index l.bytes) old)
