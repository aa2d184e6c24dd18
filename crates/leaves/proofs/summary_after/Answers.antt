-- `summary_after` is that of `level_after`: antt looks up the words of the longer ranges, and none stands behind the last.
use mathlib.Core.Path.{◌≡◌}
use Rattle.std.proofs.Common.{arith, rules}
use Rattle.vocabulary.specs.Vocabulary.{row_at}
use Rattle.rule.specs.Rule.{Class}
use Rattle.rule.specs.Machinery.LevelCodes.{level_after}
use Rattle.rule.proofs.ClassNumbers.{words_in, past_words}
use Rattle.leaves.proofs.summary_after.Goals as goal

pub returns-in_default-3 : goal.returns-in_default-3
unfolding level_after row_at
returns-in_default-3 c = (omega arith, λ level newline function. rw (words_in Class.other 26 33 c.args.which tt (omega arith) (omega arith)))

pub returns-in_default-4 : goal.returns-in_default-4
unfolding level_after
returns-in_default-4 c = (omega arith, λ level newline function. rw (past_words c.args.which (omega arith)))

pub returns-in-34-2 : goal.returns-in-34-2
unfolding level_after row_at
returns-in-34-2 c = (omega arith, λ level newline function. rw (words_in Class.value 34 36 c.args.which tt (omega arith) (omega arith)))

pub returns-in-7-3 : goal.returns-in-7-3
unfolding level_after row_at
returns-in-7-3 c =
    let head : c.args.which ≡ 22 → ⊥ = search rules in
    let throw : c.args.which ≡ 23 → ⊥ = search rules in
    (omega arith, λ level newline function. rw (words_in Class.operator 24 25 c.args.which tt (omega arith) (omega arith)))
