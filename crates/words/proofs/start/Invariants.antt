-- `start` is `letters_before`: what stands before the fourth word below the index, with the lengths of the words from there up to the index.
use mathlib.Core.Path.{◌≡◌}
use Prim.Native.Nat.{◌+◌, ◌*◌, ◌/◌}
use Rattle.words.specs.Machinery.Run.{letters_before}
use Rattle.words.proofs.start.Given as goal

abbrev pub invariant-loop-len : goal.invariant-loop-len
invariant-loop-len l = l.at ≡ letters_before (4 * (l.index / 4) + l.len-index)
