-- `string_rest` is `string_rest`: the rest of the string, from the place where the loop stands, is what is left to cut.
use native.Mathlib.Omega.{arith}
use mathlib.Core.Path.{refl, sym, ◌∙◌}
use Rattle.literals.proofs.StringLaws.{string_past, string_passed, string_newline, string_stray, string_taken, string_close, string_more}
use Rattle.literals.proofs.strings.string_rest.Goals as goal
use Rattle.literals.proofs.strings.string_rest.Goals.{then-taken, else-taken+else-b-q}

pub loop-i-init : goal.loop-i-init
loop-i-init c = refl

pub loop-i-preserved-then-code-gt-TURNING : goal.loop-i-preserved-then-code-gt-TURNING
loop-i-preserved-then-code-gt-TURNING c = c.loop-i.invariant
    ∙ string_passed _ _ _ _ (omega arith) c.requires (omega arith) _ _ c.run_end-i.ensures

pub returns-then-code-eq-LINE_END : goal.returns-then-code-eq-LINE_END
returns-then-code-eq-LINE_END c = sym (c.loop-i.invariant ∙ string_newline _ _ _ _ (omega arith) _ (omega arith))

pub returns-then-code-eq-ILLEGAL : goal.returns-then-code-eq-ILLEGAL
returns-then-code-eq-ILLEGAL c = sym (c.loop-i.invariant ∙ string_stray _ _ _ _ (omega arith) _ (omega arith))

pub returns-then-b-q : goal.returns-then-b-q
returns-then-b-q c = sym (rw c.if-taken.false at c.loop-i.invariant ∙ string_close _ _ _ _ (omega arith) (omega arith) (omega arith))

pub loop-i-preserved : goal.loop-i-preserved
loop-i-preserved c = elim c.if-taken.branch [
  | then-taken w ↦ rw w.taken-is (rw w.if-taken.true at c.loop-i.invariant ∙ string_taken _ _ _ _ (omega arith) (omega arith))
  | else-taken+else-b-q w ↦ rw w.taken-is (rw w.if-taken.false at c.loop-i.invariant ∙ string_more _ _ _ _ (omega arith) (omega arith) (omega arith))
]

pub returns : goal.returns
returns c = sym (c.loop-i.invariant ∙ string_past _ _ _ _ _ c.loop-i-test.false)
