-- `pattern_rest` is `pattern_rest`: the rest of the regular expression, from the place where the loop stands, is what is
-- left to cut.
use Rattle.std.specs.Prelude.{Ok}
use native.Mathlib.Omega.{arith}
use mathlib.Core.Bool.{true, false, true≢false}
use mathlib.Core.Path.{refl, sym, ap, ◌∙◌}
use borrow.Author.Tests.{ne_eqb}
use lib.ListN.{get_or}
use Rattle.literals.proofs.PatternLaws.{pattern_past, pattern_passed, pattern_newline, pattern_stray, pattern_taken, pattern_backslash, pattern_close, pattern_goes}
use Rattle.literals.proofs.patterns.pattern_rest.Goals as goal
use Rattle.literals.proofs.patterns.pattern_rest.Goals.{then-taken, else-taken+in-92, else-taken+in-91, else-taken+in-93, else-taken+in-47+else-not-class, else-taken+in_default-1}

pub loop-i-init : goal.loop-i-init
loop-i-init c = refl

pub loop-i-preserved-then-code-gt-TURNING : goal.loop-i-preserved-then-code-gt-TURNING
loop-i-preserved-then-code-gt-TURNING c = c.loop-i.invariant ∙ pattern_passed _ _ _ (omega arith) (omega arith) _ _ _ c.run_end-i.ensures

pub returns-then-code-eq-LINE_END : goal.returns-then-code-eq-LINE_END
returns-then-code-eq-LINE_END c = sym (c.loop-i.invariant ∙ pattern_newline _ _ _ (omega arith) _ _ (omega arith))

pub returns-then-code-eq-ILLEGAL : goal.returns-then-code-eq-ILLEGAL
returns-then-code-eq-ILLEGAL c = sym (c.loop-i.invariant ∙ pattern_stray _ _ _ (omega arith) _ _ (omega arith))

pub returns-in-47 : goal.returns-in-47
returns-in-47 c = sym
    (rw (c.if-taken.false, c.if-not-class.true) at c.loop-i.invariant
    ∙ pattern_close _ _ _ (omega arith) (omega arith) (omega arith) (omega arith)
    ∙ ap Ok (sym c.name_end.ensures))

pub loop-i-preserved : goal.loop-i-preserved
loop-i-preserved c = let b = get_or c.args.text.now c.loop-i.i 0 in
    elim c.if-taken.branch [
      | then-taken w ↦ rw (w.class-is, w.taken-is) (rw w.if-taken.true at c.loop-i.invariant ∙ pattern_taken _ _ _ (omega arith) (omega arith) _)
      | else-taken+in-92 w ↦ rw (w.class-is, w.taken-is) (rw w.if-taken.false at c.loop-i.invariant ∙ pattern_backslash _ _ _ (omega arith) (omega arith) _ (omega arith))
      | else-taken+in-91 w ↦ rw (w.class-is, w.taken-is, w.if-taken.false)
          (rw w.if-taken.false at c.loop-i.invariant
          ∙ pattern_goes _ _ _ (omega arith) (omega arith) (omega arith) _ true (λ _. rw w.in-91.is refl) (λ _. (omega arith, rw w.in-91.is refl)))
      | else-taken+in-93 w ↦ rw (w.class-is, w.taken-is, w.if-taken.false)
          (rw w.if-taken.false at c.loop-i.invariant
          ∙ pattern_goes _ _ _ (omega arith) (omega arith) (omega arith) _ false (λ _. rw w.in-93.is refl) (λ _. (omega arith, rw w.in-93.is refl)))
      | else-taken+in-47+else-not-class w ↦ rw (w.class-is, w.taken-is, w.if-taken.false)
          (rw w.if-taken.false at c.loop-i.invariant
          ∙ pattern_goes _ _ _ (omega arith) (omega arith) (omega arith) _ _ (λ e. rw (e, w.in-47.is) refl) (λ e. absurd (true≢false (sym w.if-not-class.false ∙ e))))
      | else-taken+in_default-1 w ↦ rw (w.class-is, w.taken-is, w.if-taken.false)
          (rw w.if-taken.false at c.loop-i.invariant
          ∙ pattern_goes _ _ _ (omega arith) (omega arith) (omega arith) _ _ (λ e. rw (e, ne_eqb b 93 (omega arith)) refl) (λ e. (omega arith, rw (e, ne_eqb b 91 (omega arith)) refl)))
    ]

pub returns : goal.returns
returns c = sym (c.loop-i.invariant ∙ pattern_past _ _ _ _ _ c.loop-i-test.false)
