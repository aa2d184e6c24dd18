-- What reading to the end comes to, with the answer at the text's end.
use native.Mathlib.Omega.{arith}
use Rattle.std.proofs.lemmas.Result.{err_from_is_err_and}
use Rattle.reader.proofs.ReadLaws.{ran_some, ran_answered, halted_answered}
use Rattle.reader.proofs.fill.Goals as goal

pub read_on-requires : goal.read_on-requires
read_on-requires c = let room = c.room_for-room.ensures in
    record { short = c.requires.0; stack_is = c.requires.1; room_small = omega (arith, room); room_fits = λ read. omega (arith, room) }

pub ending-requires : goal.ending-requires
ending-requires c = (_, ran_some _ _ _ _ (rw c.in_ok-reached.was at c.read_on.ensures))

pub returns : goal.returns
returns c = ran_answered _ _ _ _ c.requires.0 c.room_for-room.ensures (rw c.in_ok-reached.was at c.read_on.ensures) _ c.ending.ensures

pub returns-in_err-reached : goal.returns-in_err-reached
returns-in_err-reached c =
    let p = err_from_is_err_and c.from_residual.result c.from_residual.ensures.1 in
    rw (p.1, p.2) (halted_answered _ _ _ _ c.requires.0 c.room_for-room.ensures (rw c.in_err-reached.was at c.read_on.ensures))
