-- `is_word` looks at the word of a number: the code's letters and lengths are those of the words, by computing both.
use native.Mathlib.Omega.{arith}
use mathlib.Core.Path.{◌≡◌, refl}
use Prim.Native.Nat.{◌+◌, ◌-◌}
use Rattle.words.specs.Machinery.Run.{word_letters, word_lengths}
use Rattle.words.proofs.is_word.Goals as goal

pub stands_at-requires : goal.stands_at-requires
unfolding word_letters word_lengths
stands_at-requires c = (refl, refl, omega arith)

pub returns : goal.returns
returns c = let number = c.args.number in
    let e : number - 1 + 1 ≡ number = omega arith in
    rw e at c.stands_at.ensures
