-- `jump_row` is the machine's row behind `continue` and `break`, entry by entry.
use Prim.Native.Nat.{ℕ}
use mathlib.Core.Path.{◌≡◌}
use mathlib.Core.Bool.{Bool, true, false}
use mathlib.Core.List.{[], ◌∷◌}
use Rattle.std.specs.Prelude.{None}
use native.Mathlib.Omega.{arith}
use borrow.Author.Tests.{ne_eqb}
use Rattle.machine.specs.Tokens.{name, semicolon}
use Rattle.machine.specs.Machinery.Machine.{Control, Action, on, look, unless_line}
use Rattle.controls.specs.Machinery.Steps.{Means, to_bare_jump, to_jump_label, means_fail}
use Rattle.rows.proofs.jump_row.Goals as goal

none : {from : Control} (class : ℕ) (newline : Bool) (to : Action) → (class ≡ name → ⊥) → Means from class None (look class (unless_line newline (on name to ∷ [])))
none class true to other = means_fail
none class false to other = rw (ne_eqb class name other) means_fail

pub returns-in-130 : goal.returns-in-130
returns-in-130 c = rw c.in-130.is (c.end_statement.ensures _ _ tt to_bare_jump)

pub returns-in-1 : goal.returns-in-1
returns-in-1 c = rw (c.if-not-newline.true, c.in-1.is) (c.goto.ensures _ _ tt to_jump_label)

pub returns-in_default : goal.returns-in_default
returns-in_default c = rw (c.if-not-newline.false, c.in-1.is) means_fail

pub returns-in_default-2 : goal.returns-in_default-2
returns-in_default-2 c = let a = c.args in
    rw (ne_eqb a.class semicolon (omega arith)) (none a.class a.newline _ (omega arith))
