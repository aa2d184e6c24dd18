-- `is_taken` is `taken`: antt looks up the words of each range of numbers, and a number past theirs has none.
use native.Mathlib.Omega.{arith}
use mathlib.Core.Bool.{true, false}
use mathlib.Core.List.{◌∷◌}
use lib.ListN.{get_or-eq_default}
use Rattle.text.proofs.Range.{agree}
use Rattle.vocabulary.specs.Vocabulary.{words, row_at, no_row}
use Rattle.words.specs.Words.{taken}
use Rattle.words.proofs.is_taken.Goals as goal

pub returns-in-1-to-26 : goal.returns-in-1-to-26
unfolding taken row_at
returns-in-1-to-26 c = agree (λ k. true) taken 1 26 c.args.number tt (omega arith) (omega arith)

pub returns-in-1-to-26-2 : goal.returns-in-1-to-26-2
unfolding taken row_at
returns-in-1-to-26-2 c = agree (λ k. true) taken 34 36 c.args.number tt (omega arith) (omega arith)

pub returns-in_default : goal.returns-in_default
unfolding taken row_at
returns-in_default c = agree (λ k. false) taken 0 0 c.args.number tt (omega arith) (omega arith)

pub returns-in_default-2 : goal.returns-in_default-2
unfolding taken row_at
returns-in_default-2 c = agree (λ k. false) taken 27 33 c.args.number tt (omega arith) (omega arith)

pub returns-in_default-3 : goal.returns-in_default-3
unfolding taken row_at
returns-in_default-3 c = rw (get_or-eq_default (no_row ∷ words) no_row {n = c.args.number} (omega arith))
