-- `line_comment` resumes the gap where the `//` ends: behind the run of bytes that it passes over, a line end, an illegal byte or the
-- text's end stands.
use native.Mathlib.Omega.{arith}
use mathlib.Core.Path.{sym, ◌∙◌}
use mathlib.Core.Bool.{or-false}
use Rattle.text.proofs.CodeLaws.{over_ends}
use Rattle.gaps.proofs.GapLaws.{gap_past, newline_past, line_ends, newline_stray, line_passed}
use Rattle.gaps.proofs.line_comment.Goals as goal
use Rattle.gaps.proofs.line_comment.Goals.{else-end-text-via-then-end-text+else-of-eq-ILLEGAL, else-end-text-via-else-end-text}

pub returns-then-of-eq-ILLEGAL-clause-resumes : goal.returns-then-of-eq-ILLEGAL-clause-resumes
returns-then-of-eq-ILLEGAL-clause-resumes c = λ newline. line_passed _ newline _ _ c.run_end-end.ensures ∙ newline_stray _ _ newline (omega arith) (omega arith)

pub returns-clause-resumes : goal.returns-clause-resumes
returns-clause-resumes c = elim c.else-end-text.branch [
  | else-end-text-via-then-end-text+else-of-eq-ILLEGAL w ↦ (let stops = over_ends _ _ _ _ c.run_end-end.ensures (omega arith) in
      λ newline. rw (or-false newline) (line_passed _ newline _ _ c.run_end-end.ensures ∙ line_ends _ _ newline (omega arith) (omega arith)))
  | else-end-text-via-else-end-text w ↦ λ newline. rw (or-false newline)
      (line_passed _ newline _ _ c.run_end-end.ensures ∙ newline_past _ _ newline w.if-end-text.false ∙ sym (gap_past _ _ newline w.if-end-text.false))
]
