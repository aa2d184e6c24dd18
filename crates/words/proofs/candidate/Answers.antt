-- `candidate` is the number of a name that is a word: the code's numbers are those at the slots, by computing both.
use native.Mathlib.Omega.{arith}
use mathlib.Core.Path.{◌≡◌, refl, ◌∙◌}
use Prim.Native.Nat.{ℕ, zero, suc, ◌≤◌}
use lib.ListN.{get_or}
use Rattle.std.specs.Prelude.{IfSome, Some}
use Rattle.words.specs.Machinery.Run.{slot_of_name, numbers, option_of}
use Rattle.words.specs.Words.{word_number}
use Rattle.words.proofs.Laws.{number_at_slot, number_within}
use Rattle.words.proofs.candidate.Goals as goal

option_within : (n : ℕ) → n ≤ 36 → IfSome (option_of n) (λ m. (1 ≤ m) × (m ≤ 36))
option_within zero h = tt
option_within (suc n) h = (omega arith, h)

option_some : (n : ℕ) → (n ≡ 0 → ⊥) → option_of n ≡ Some n
option_some zero h = absurd (h refl)
option_some (suc n) h = refl

pub returns-clause-some : goal.returns-clause-some
unfolding numbers
returns-clause-some c = let name = c.args.name.now in
    rw (c.at_slot.ensures, c.slot.ensures) (option_within (get_or numbers (slot_of_name name) 0) (number_within (slot_of_name name) (omega arith)))

pub returns-clause-own : goal.returns-clause-own
unfolding numbers
returns-clause-own c = λ some. let name = c.args.name.now in
    c.at_slot.ensures ∙ rw (c.slot.ensures, number_at_slot name some) (option_some (word_number name) some)
