-- What reading to the end comes to, with the answer at the text's end.
use native.Mathlib.Omega.{arith}
use mathlib.Core.Bool.{true≢false}
use Rattle.std.proofs.lemmas.Result.{err_from_is_err_and}
use Rattle.respacer.proofs.CallLaws.{left, end_told, halt_told}
use Rattle.respacer.proofs.write_text.Goals as goal

pub read_on-requires : goal.read_on-requires
read_on-requires c = record { short = c.requires.0; stack_is = c.requires.1; room_small = omega arith; room_fits = λ read. absurd (true≢false read) }

pub write_end-requires : goal.write_end-requires
write_end-requires c = let l = left _ _ _ (rw c.in_ok-reached.was at c.read_on.ensures) in
    (omega (arith, l.writes.few, l.inside, c.requires.0), l.writes.represented.fits)

pub returns : goal.returns
returns c = let l = left _ _ _ (rw c.in_ok-reached.was at c.read_on.ensures) in
    end_told _ _ c.requires.0 _ l _ (c.write_end.ensures _ _ _ l.levels l.writes)

pub returns-in_err-reached : goal.returns-in_err-reached
returns-in_err-reached c =
    let p = err_from_is_err_and c.from_residual.result c.from_residual.ensures.1 in
    rw (p.1, p.2) (halt_told _ _ c.requires.0 _ (rw c.in_err-reached.was at c.read_on.ensures))
