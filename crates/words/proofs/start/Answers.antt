-- `start` is `letters_before`: what stands before the fourth word below the index, with the lengths of the words from there up to the index.
use native.Mathlib.Omega.{arith}
use mathlib.Core.Path.{◌≡◌, ap, sym}
use mathlib.Core.List.{List}
use Prim.Native.Nat.{ℕ, ◌<◌, ◌≤◌, ◌+◌, ◌-◌, ◌*◌, ◌/◌}
use lib.ListN.{length, get_or, take, drop}
use Rattle.std.proofs.lemmas.List.{length-take, get_or-take, get_or-drop}
use Rattle.words.specs.Machinery.Run.{letters_before, word_lengths}
use Rattle.words.proofs.Laws.{lengths_many, letters_more, letters_within}
use Rattle.words.proofs.start.Goals as goal

pub slice_bounds-len-items-end : goal.slice_bounds-len-items-end
slice_bounds-len-items-end c = omega (arith, ap length c.requires.0, lengths_many, c.requires.1)

-- a turn adds the length of the word there, and the sum stays within the run
module _ (lengths : List ℕ) (index k : ℕ) (whole : lengths ≡ word_lengths) (below : index < 36)
    (h : k < length (take (index - 4 * (index / 4)) (drop (4 * (index / 4)) lengths))) where
  here : 4 * (index / 4) + k < 36
  here = omega (arith, length-take (index - 4 * (index / 4)) (drop (4 * (index / 4)) lengths))

  own : get_or (take (index - 4 * (index / 4)) (drop (4 * (index / 4)) lengths)) k 0 ≡ get_or word_lengths (4 * (index / 4) + k) 0
  own =
      let m : k < index - 4 * (index / 4) = omega (arith, length-take (index - 4 * (index / 4)) (drop (4 * (index / 4)) lengths)) in
      rw (get_or-take (index - 4 * (index / 4)) (drop (4 * (index / 4)) lengths) k 0 m, whole) (get_or-drop (4 * (index / 4)) word_lengths k 0)

  next : letters_before (4 * (index / 4) + (k + 1)) ≡ letters_before (4 * (index / 4) + k) + get_or (take (index - 4 * (index / 4)) (drop (4 * (index / 4)) lengths)) k 0
  next =
      let e : 4 * (index / 4) + (k + 1) ≡ 4 * (index / 4) + k + 1 = omega arith in
      rw (e, own) (letters_more (4 * (index / 4) + k) here)

  within : letters_before (4 * (index / 4) + k) + get_or (take (index - 4 * (index / 4)) (drop (4 * (index / 4)) lengths)) k 0 ≤ 181
  within = rw own (letters_within (4 * (index / 4) + k) here)

pub overflow_add-at : goal.overflow_add-at
overflow_add-at c = let l = c.loop-len in
    omega (arith, l.invariant, c.from-at-in-loop-len.ensures, within c.args.lengths.now c.args.index l.len-index c.requires.0 c.requires.1 c.loop-len-test.true)

pub loop-len-preserved : goal.loop-len-preserved
loop-len-preserved c = let l = c.loop-len in
    rw (l.invariant, c.from-at-in-loop-len.ensures) (sym (next c.args.lengths.now c.args.index l.len-index c.requires.0 c.requires.1 c.loop-len-test.true))
