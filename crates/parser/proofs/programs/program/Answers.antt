-- The body is parsed, the program's record put, and the answer is by the table's room.
use native.Mathlib.Omega.{arith}
use Rattle.std.proofs.lemmas.Result.{err_from_is_err_and}
use Rattle.parser.proofs.JudgedLaws.{few_records, judge_bad, judge_full, judge_program}
use Rattle.parser.proofs.programs.program.Goals as goal

pub returns-in_err-body : goal.returns-in_err-body
returns-in_err-body c =
    let p = err_from_is_err_and c.from_residual.result c.from_residual.ensures.1 in
    rw (p.1, p.2) (judge_bad c.statements.ensures c.in_err-body.was)

pub returns-then-room_for-all : goal.returns-then-room_for-all
returns-then-room_for-all c =
    judge_full c.statements.ensures c.in_ok-body.was c.put-all.ensures.0 (rw c.count-number.ensures at c.put-all.ensures.1)
    (omega (arith, c.put-all.ensures.0, few_records c.statements.ensures c.in_ok-body.was, c.requires.0.few)) (omega (arith, c.room_for.ensures, c.if-room_for-all.true))

pub returns : goal.returns
returns c =
    judge_program c.statements.ensures c.in_ok-body.was c.put-all.ensures.0 (rw c.count-number.ensures at c.put-all.ensures.1)
    (omega (arith, c.room_for.ensures, c.if-room_for-all.false))
