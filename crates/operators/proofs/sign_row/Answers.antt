-- `sign_row` is the machine's row behind an operand, at `,` and signs.
use mathlib.Core.Path.{refl}
use native.Mathlib.Omega.{arith}
use Rattle.machine.specs.Operators.{binary_operators}
use Rattle.machine.specs.Tokens.{semicolon, comma, colon}
use Rattle.controls.specs.Machinery.Numbers.{ending_by, target_by}
use Rattle.controls.proofs.EndLaws.{only_closers}
use Rattle.controls.proofs.ClassLaws.{not_among}
use Rattle.operators.proofs.EndingLaws.{past_operators, none_next}
use Rattle.operators.proofs.ChainLaws.{behind-unary, sign_next}
use Rattle.operators.proofs.sign_row.Goals as goal

pub returns-in-130 : goal.returns-in-130
returns-in-130 c = λ past newline.
    let a = c.args in
    let ending = ending_by a.at.ending a.at.setting in
    let target = target_by a.at.ending a.at.flag in
    rw c.in-130.is
    (behind-unary ending target newline a.chain (λ e. sign_next semicolon ending target newline (omega arith) (λ e. omega (arith, e)) (λ e. omega (arith, e)) (λ e. omega (arith, e)))
    (λ from ended. rw (past_operators semicolon (λ e. omega (arith, e)) ending refl) (c.semicolon_row.ensures from ended)))

pub returns-in-73 : goal.returns-in-73
returns-in-73 c = λ past newline.
    let a = c.args in
    let ending = ending_by a.at.ending a.at.setting in
    let target = target_by a.at.ending a.at.flag in
    rw c.in-73.is
    (behind-unary ending target newline a.chain (λ e. sign_next comma ending target newline (omega arith) (λ e. omega (arith, e)) (λ e. omega (arith, e)) (λ e. omega (arith, e)))
    (λ from ended. rw (past_operators comma (λ e. omega (arith, e)) ending refl) (c.comma_row.ensures from ended)))

pub returns-in-129 : goal.returns-in-129
returns-in-129 c = λ past newline.
    let a = c.args in
    let ending = ending_by a.at.ending a.at.setting in
    let target = target_by a.at.ending a.at.flag in
    rw c.in-129.is
    (behind-unary ending target newline a.chain (λ e. sign_next colon ending target newline (omega arith) (λ e. omega (arith, e)) (λ e. omega (arith, e)) (λ e. omega (arith, e)))
    (λ from ended. rw (past_operators colon (λ e. omega (arith, e)) ending refl) (c.colon_row.ensures from ended)))

pub returns-in_default-2 : goal.returns-in_default-2
returns-in_default-2 c = λ past newline.
    let a = c.args in
    rw c.if-chain.false
    (only_closers (none_next a.class (λ e. omega (arith, past)) (ending_by a.at.ending a.at.setting) (not_among binary_operators comma tt a.class past) (omega arith) (omega arith) (λ e. omega (arith, past)) (omega arith)))
