-- What the whole text writes, if it fits.
use native.Mathlib.Omega.{arith}
use Rattle.std.proofs.lemmas.Result.{err_from_is_err_and}
use Rattle.respacer.proofs.CallLaws.{written_fits, written_full, text_denied}
use Rattle.respacer.proofs.write_fitting.Goals as goal

pub returns-in_err-count : goal.returns-in_err-count
returns-in_err-count c =
    let p = err_from_is_err_and c.from_residual.result c.from_residual.ensures.1 in
    rw (p.1, p.2) (text_denied _ _ _ _ (rw c.in_err-count.was at c.write_text.ensures))

pub returns-then-output-count : goal.returns-then-output-count
returns-then-output-count c = written_full _ _ _ c.in_ok-count.count (rw c.in_ok-count.was at c.write_text.ensures) (omega arith)

pub returns : goal.returns
returns c = written_fits _ _ _ c.in_ok-count.count (rw c.in_ok-count.was at c.write_text.ensures) (omega arith)
