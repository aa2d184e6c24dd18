-- A record alone, test for test.
use Prim.Native.Nat.{ℕ}
use native.Mathlib.Omega.{arith}
use mathlib.Core.Path.{◌≡◌, sym, ◌∙◌, ap}
use mathlib.Core.Bool.{Bool, true, false}
use Rattle.std.proofs.Common.{Some}
use Rattle.brief.specs.Machinery.Brief.{lone_parameter, lone_operand, lone_more}
use Rattle.brief.proofs.alone.Goals as goal
use Rattle.brief.proofs.alone.Goals.{in-Parameter, in_default-matches}

pub returns-in_default : goal.returns-in_default
returns-in_default c = lone_more

pub returns-then-holds_operand : goal.returns-then-holds_operand
returns-then-holds_operand c = lone_operand c.in-Some.is (c.holds_operand.ensures c.if-holds_operand.true)

pub returns-then-class-eq-NAME : goal.returns-then-class-eq-NAME
returns-then-class-eq-NAME c =
    elim c.match-matches.branch [
      | in-Parameter w ↦ lone_parameter (c.in-Some.is ∙ ap Some c.if-class-eq-NAME.true) c.if-closer-eq-CLOSE_PAREN.true (rw w.in-Parameter.is)
      | in_default-matches w ↦ absurd (let q : ◌≡◌ {A = Bool} false true = sym w.matches-is ∙ c.if-matches.true in let z : ◌≡◌ {A = ℕ} 0 1 = cc in omega arith)
    ]

pub returns : goal.returns
returns c = lone_more
