-- Document 02, U4: "6 now only when a digit or name byte follows directly": a number is refused there, and only there.
use Rattle.std.specs.Prelude.{Result, Ok, Err}
use mathlib.Core.Path.{◌≡◌, refl}
use mathlib.Core.List.{List}
use mathlib.Core.Bool.{Bool, true, false, cond}
use Prim.Native.Nat.{ℕ, ◌+◌}
use lib.ListN.{get_or}
use Rattle.text.specs.Bytes.{name_byte}
use Rattle.answers.specs.declared.faults.Fault.{Fault}
use Rattle.numbers.specs.Numbers.{number_length, number_from}

-- the number at `first`, where s is the text from there on, by whether the byte directly behind it is a name byte
abbrev pub CutBy : Bool → ℕ → List ℕ → Result ℕ Fault → Type 0
CutBy follows first s (Ok end) = (follows ≡ false) × (end ≡ first + number_length s)
CutBy follows first s (Err fault) = (follows ≡ true) × (fault ≡ Fault.BadNumber first)

pub number_cut : (first : ℕ) (s : List ℕ) → CutBy (name_byte (get_or s (number_length s) 0)) first s (number_from first s)
unfolding number_from
number_cut first s = go (name_byte (get_or s (number_length s) 0))
  where
    go : (follows : Bool) → CutBy follows first s (cond follows (Err (Fault.BadNumber first)) (Ok (first + number_length s)))
    go true = (refl, refl)
    go false = (refl, refl)
