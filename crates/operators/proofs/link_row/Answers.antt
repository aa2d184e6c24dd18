-- `link_row` is the machine's row behind a chain, at signs.
use native.Mathlib.Omega.{arith}
use Rattle.machine.specs.Operators.{binary_operators}
use Rattle.machine.specs.Tokens.{comma}
use Rattle.controls.specs.Machinery.Numbers.{ending_by, target_by}
use Rattle.controls.specs.Machinery.Steps.{to_dot, past_call, past_index}
use Rattle.controls.proofs.EndLaws.{only_closers}
use Rattle.controls.proofs.ClassLaws.{not_among}
use Rattle.operators.proofs.EndingLaws.{none_next}
use Rattle.operators.proofs.ChainLaws.{sign_next}
use Rattle.operators.proofs.link_row.Goals as goal

pub returns-in-131 : goal.returns-in-131
returns-in-131 c = λ past a b newline. rw c.in-131.is (c.goto.ensures _ _ tt to_dot)

pub returns-in-132 : goal.returns-in-132
returns-in-132 c = λ past a b newline. rw c.in-132.is (c.push.ensures _ _ tt past_call)

pub returns-in-140 : goal.returns-in-140
returns-in-140 c = λ past a b newline. rw c.in-140.is (c.push-in-140.ensures _ _ tt past_index)

pub returns-in_default : goal.returns-in_default
returns-in_default c = λ past no-semicolon no-colon newline.
    let a = c.args in
    let ending = ending_by a.at.ending a.at.setting in
    rw (sign_next a.class ending (target_by a.at.ending a.at.flag) newline (omega (arith, past)) (omega arith) (omega arith) (omega arith))
    (only_closers (none_next a.class (λ e. omega (arith, past)) ending (not_among binary_operators comma tt a.class (omega (arith, past))) no-semicolon (λ e. omega (arith, past)) (λ e. omega (arith, past)) no-colon))
