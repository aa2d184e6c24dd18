-- Three stores are one record.
use mathlib.Core.Path.{refl}
use Prim.Native.Nat.{ℕ, ◌+◌, ◌*◌, ◌/◌, ◌≤◌, ◌<◌}
use native.Mathlib.Omega.{arith}
use borrow.Author.Tests.{lt-ltb, le-ltb}
use Rattle.controls.specs.Machinery.Written.{put_record}
use Rattle.controls.proofs.records.put.Goals as goal
use Rattle.controls.proofs.records.put.Goals.{then-at-syntax, else-at-syntax}

no_room : (number count : ℕ) → number < count * 3 + 3 → number / 3 ≤ count
no_room number count short = omega arith

room : (number count : ℕ) → count * 3 + 3 ≤ number → count < number / 3
room number count long = omega arith

pub returns : goal.returns
unfolding put_record
returns c = (
  refl,
  elim c.if-at-syntax.branch [
    | then-at-syntax w ↦ rw w.syntax-is (simp (lt-ltb _ _ (room _ _ w.if-at-syntax.true)))
    | else-at-syntax w ↦ rw w.syntax-is (simp (le-ltb _ _ (no_room _ _ w.if-at-syntax.false)))
  ],
)
