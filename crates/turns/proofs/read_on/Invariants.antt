-- The loop: the levels of which something is kept read the rest of the text as the whole is read.
use mathlib.Core.Path.{◌≡◌}
use Prim.Native.Nat.{◌-◌}
use lib.ListN.{length}
use Rattle.keeping.specs.Machinery.Keeping.{lent}
use Rattle.turns.proofs.RunLaws.{At}
use Rattle.turns.proofs.read_on.Given as goal

abbrev pub invariant-loop-e : goal.invariant-loop-e
invariant-loop-e l = (l.keeper.trees.ghost_name ≡ l.initial.keeper.trees.ghost_name)
    × (l.keeper.output.ghost_name ≡ l.initial.keeper.output.ghost_name)
    × (l.keeper.text.now ≡ l.text)
    × (l.keeper.spaced ≡ l.spaced)
    × At l.spaced l.text (lent l.initial.keeper.trees.now l.initial.keeper.output.now l.initial.stack) (lent l.keeper.trees.now l.keeper.output.now l.stack) l.room l.at l.place

abbrev pub decreases-loop-e : goal.decreases-loop-e
decreases-loop-e l = length l.text - l.place
