-- The numbers of refused readings are those of rows 1 to 12, but 8.
use mathlib.Core.Path.{◌≡◌}
use mathlib.Core.List.{List}
use mathlib.Core.Bool.{Bool, true, false, cond}
use Prim.Native.Nat.{ℕ, ◌≤◌}
use native.Mathlib.Omega.{arith}
use lib.Dec.{leb}
use lib.ListN.{length}
use Rattle.elements.proofs.Bounds.{fault_numbered}
use Rattle.rule.specs.Levels.{Levels, whole_text, inside, stated_by}
use Rattle.prefix.specs.Reading.{Limits, Reading, accepted, refused, ending, reading}
use Rattle.prefix.proofs.Induction.{reading_tells}
use Rattle.prefix.proofs.StepCases.{Stopped, at_depth, at_room, at_closer, step_reason}
use Rattle.reading.specs.Read.{long_text, most_bytes}
use Rattle.reading.proofs.LengthFirst.{length_first}

abbrev pub ReadNumber : ℕ → Type 0
ReadNumber number = (1 ≤ number) × (number ≤ 12) × (number ≡ 8 → ⊥)

abbrev Numbered : Reading → Type 0
Numbered (accepted trees) = Unit {0}
Numbered (refused number place) = ReadNumber number

ending_numbered : (levels : Levels) → Numbered (ending levels)
ending_numbered (whole_text trees) = tt
ending_numbered (inside around kind first newline trees) = (omega arith, omega arith, λ eight. omega arith)

stopped_numbered : {limits : Limits} {levels : Levels} {number : ℕ} → Stopped limits levels number → ReadNumber number
stopped_numbered (at_depth h) = (omega arith, omega arith, λ eight. omega arith)
stopped_numbered (at_room h) = (omega arith, omega arith, λ eight. omega arith)
stopped_numbered at_closer = (omega arith, omega arith, λ eight. omega arith)

reading_numbered : (bytes : List ℕ) (limits : Limits) → Numbered (reading bytes limits)
reading_numbered bytes limits =
    reading_tells bytes limits (λ levels place. Unit {0}) Numbered (λ levels place p. ending_numbered levels)
    (λ levels place fault p f. let n = fault_numbered bytes place (stated_by levels) fault f in (omega arith, omega arith, λ eight. omega arith))
    (λ levels place e number at p f s. stopped_numbered (step_reason limits e levels number at s))
    (λ levels place e after p f s. tt) tt

pub first_numbered : (bytes : List ℕ) (limits : Limits) (number place : ℕ) → length_first bytes limits ≡ refused number place → ReadNumber number
first_numbered bytes limits number place = go (leb (length bytes) most_bytes)
  where
    go : (b : Bool) → cond b (reading bytes limits) (refused long_text most_bytes) ≡ refused number place → ReadNumber number
    go true e = rw e at (reading_numbered bytes limits)
    go false e =
        let n : long_text ≡ number = cc in
        (omega arith, omega arith, λ eight. omega arith)
