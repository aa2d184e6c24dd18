-- `stands_at` compares a name with the part of the run that is the word.
use native.Mathlib.Omega.{arith}
use mathlib.Core.Path.{◌≡◌, ap, ◌∙◌}
use Prim.Native.Nat.{◌+◌, ◌-◌}
use lib.ListN.{length, get_or}
use Rattle.text.specs.Runs.{same}
use Rattle.words.proofs.Laws.{lengths_many, letters_many, letters_within, word_cut}
use Rattle.words.proofs.stands_at.Goals as goal

pub bounds-lengths-index : goal.bounds-lengths-index
bounds-lengths-index c = omega (arith, ap length c.requires.1, lengths_many, c.requires.2)

pub overflow_add-at : goal.overflow_add-at
overflow_add-at c = let own = ap (λ lengths. get_or lengths c.args.index 0) c.requires.1 in
    omega (arith, c.start-at.ensures, c.from-len.ensures, own, letters_within c.args.index c.requires.2)

pub slice_bounds-equal-end : goal.slice_bounds-equal-end
slice_bounds-equal-end c = let own = ap (λ lengths. get_or lengths c.args.index 0) c.requires.1 in
    omega (arith, c.start-at.ensures, c.from-len.ensures, own, letters_within c.args.index c.requires.2, ap length c.requires.0, letters_many)

pub returns : goal.returns
returns c = let at = c.start-at in
    let len = get_or c.args.lengths.now c.args.index 0 in
    let e : at.result + c.from-len.result - at.result ≡ len = omega (arith, c.from-len.ensures) in
    let own = ap (λ lengths. get_or lengths c.args.index 0) c.requires.1 in
    c.equal.ensures ∙ ap (same c.args.name.now) (rw (e, own, at.ensures, c.requires.0) (word_cut c.args.index c.requires.2))
