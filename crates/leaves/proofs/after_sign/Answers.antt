-- `after_sign` is `level_after`: antt looks up the signs that the code names, and all others to the last are operators.
use native.Mathlib.Omega.{arith}
use Rattle.vocabulary.specs.Vocabulary.{row_at}
use Rattle.rule.specs.Machinery.LevelCodes.{level_after}
use Rattle.rule.proofs.ClassNumbers.{first_signs, operator_signs, past_signs}
use Rattle.leaves.proofs.after_sign.Goals as goal
use Rattle.leaves.proofs.after_sign.Goals.{in_default-via-then-which-lt7, in_default-via-else-which-lt7+else-which-lt49}

pub returns-in-9 : goal.returns-in-9
unfolding row_at
returns-in-9 c = λ newline. rw c.in-9.is (c.after_comma.ensures newline)

pub returns-in-10-to-48 : goal.returns-in-10-to-48
unfolding level_after
returns-in-10-to-48 c = λ newline. rw (operator_signs c.args.which (omega arith) (λ e. omega arith) (λ e. omega arith) (omega arith)) c.with_summary-in-10-to-48.ensures

pub returns-in_default : goal.returns-in_default
unfolding level_after
returns-in_default c = λ newline. rw c.with_summary-in_default.ensures
    (elim c.in_default.branch [
      | in_default-via-then-which-lt7 w ↦ rw (first_signs c.args.which (omega arith) (λ e. omega arith) (λ e. omega arith) (λ e. omega arith))
      | in_default-via-else-which-lt7+else-which-lt49 w ↦ rw (past_signs c.args.which (omega arith))
    ])
