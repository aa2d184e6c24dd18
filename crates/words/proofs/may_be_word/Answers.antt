-- `may_be_word` turns no word away: each has two letters, and the initials of its length have them.
use native.Mathlib.Omega.{arith}
use mathlib.Core.Bool.{false≢true}
use Rattle.words.proofs.Laws.{word_long}
use Rattle.words.proofs.may_be_word.Goals as goal

pub returns-in_default : goal.returns-in_default
returns-in_default c = (λ some. absurd (omega (arith, word_long _ some)), λ e. absurd (false≢true e))
