-- `comment_at` resumes the gap at a slash: the byte behind it tells which comment starts there, if any.
use native.Mathlib.Omega.{arith}
use mathlib.Core.Path.{◌∙◌, sym, ap}
use Rattle.gaps.specs.Machinery.Comments.{resumed}
use Rattle.gaps.proofs.GapLaws.{handed, slash_last, slash_newline, slash_block, slash_alone}
use Rattle.gaps.proofs.comment_at.Goals as goal

pub returns-then-slash-text-clause-resumes : goal.returns-then-slash-text-clause-resumes
returns-then-slash-text-clause-resumes c = λ newline. slash_last _ _ newline (omega arith) c.requires.1 c.if-slash-text.true

pub returns-in_ok-line_comment-in-47-clause-resumes : goal.returns-in_ok-line_comment-in-47-clause-resumes
returns-in_ok-line_comment-in-47-clause-resumes c = λ newline. slash_newline _ _ newline (omega arith) c.requires.1 (omega arith) (omega arith) ∙ c.in_ok-line_comment-in-47.ensures.resumes newline

pub returns-in_err-line_comment-in-47-clause-resumes : goal.returns-in_err-line_comment-in-47-clause-resumes
returns-in_err-line_comment-in-47-clause-resumes c = λ newline. slash_newline _ _ newline (omega arith) c.requires.1 (omega arith) (omega arith)
    ∙ c.in_err-line_comment-in-47.ensures.resumes newline ∙ sym (ap (resumed _ _ newline) (handed _ _ c.from_residual.ensures.1))

pub returns-in_ok-block_comment-in-42-clause-resumes : goal.returns-in_ok-block_comment-in-42-clause-resumes
returns-in_ok-block_comment-in-42-clause-resumes c = λ newline. slash_block _ _ newline (omega arith) c.requires.1 (omega arith) (omega arith) ∙ c.in_ok-block_comment-in-42.ensures.resumes newline

pub returns-in_err-block_comment-in-42-clause-resumes : goal.returns-in_err-block_comment-in-42-clause-resumes
returns-in_err-block_comment-in-42-clause-resumes c = λ newline. slash_block _ _ newline (omega arith) c.requires.1 (omega arith) (omega arith)
    ∙ c.in_err-block_comment-in-42.ensures.resumes newline ∙ sym (ap (resumed _ _ newline) (handed _ _ c.from_residual-in_err-block_comment-in-42.ensures.1))

pub returns-in_default-clause-resumes : goal.returns-in_default-clause-resumes
returns-in_default-clause-resumes c = λ newline. slash_alone _ _ newline (omega arith) c.requires.1 (omega arith) (omega arith) (omega arith)
