-- `gap_from` is `gap`: the rest of the gap, from the place where the loop stands, is what is left to pass.
use native.Mathlib.Omega.{arith}
use mathlib.Core.Path.{refl, sym, ◌∙◌}
use Rattle.text.proofs.CodeLaws.{code_line_end, code_no_line_end, by_blank, coded_in, coded_out}
use Rattle.gaps.proofs.GapLaws.{gap_past, gap_space, gap_over_slash, gap_blank, gap_line_end, gap_other}
use Rattle.gaps.proofs.gap_from.Goals as goal

pub loop-i-init : goal.loop-i-init
loop-i-init c = refl

pub loop-i-preserved-then-b-eq32 : goal.loop-i-preserved-then-b-eq32
loop-i-preserved-then-b-eq32 c = c.loop-i.invariant ∙ gap_space _ _ _ (omega arith) (omega arith)

pub returns-then-b-gt47 : goal.returns-then-b-gt47
returns-then-b-gt47 c = sym (c.loop-i.invariant ∙ gap_over_slash _ _ _ (omega arith) (omega arith))

pub loop-i-preserved-then-code-eq-BLANK : goal.loop-i-preserved-then-code-eq-BLANK
loop-i-preserved-then-code-eq-BLANK c = c.loop-i.invariant ∙ gap_blank _ _ _ (omega arith) (coded_in by_blank _ (omega arith))

pub loop-i-preserved-then-code-eq-LINE_END : goal.loop-i-preserved-then-code-eq-LINE_END
loop-i-preserved-then-code-eq-LINE_END c = c.loop-i.invariant ∙ gap_line_end _ _ _ (omega arith) (code_line_end _ (omega arith))

pub returns-then-b-ne47 : goal.returns-then-b-ne47
returns-then-b-ne47 c = sym
    (c.loop-i.invariant
    ∙ gap_other _ _ _ (omega arith)
    (coded_out by_blank _ (omega arith))
    (code_no_line_end _ (omega arith))
    c.if-b-ne47.true)

pub returns-after-loop-i : goal.returns-after-loop-i
returns-after-loop-i c = sym (c.loop-i.invariant ∙ gap_past _ _ _ c.loop-i-test.false)
