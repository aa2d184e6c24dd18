-- What the whole text's elements leave in the output. Machinery.
use Rattle.std.specs.Prelude.{◌≡◌, List, ℕ, length, Result, Ok}
use Rattle.answers.specs.Faults.{answered}
use Rattle.answers.specs.declared.Answer.{Answer}
use Rattle.answers.specs.declared.faults.Fault.{Fault}
use Rattle.prefix.specs.Reading.{Reading, accepted, refused}
use Rattle.spacing.specs.Respaced.{respaced}
use Rattle.spacing.specs.Machinery.Over.{over}
use Rattle.respacer.specs.Respace.{Respacing, written, denied, respacing_for, answer_of, output_after}

-- the output where nothing is cleared: known on acceptance alone
abbrev pub Told : List ℕ → List ℕ → List ℕ → Reading → Result ℕ Fault → Type 0
Told bytes old output (accepted trees) outcome = (outcome ≡ Ok (length (respaced bytes trees))) × (output ≡ over (respaced bytes trees) old)
Told bytes old output (refused number place) outcome = answered outcome ≡ Answer.Refused number place

-- the same of an output that all bytes must fit in
abbrev pub Holds : Respacing → List ℕ → List ℕ → Type 0
Holds (written bytes) old output = output ≡ output_after (written bytes) old
Holds (denied number place) old output = Unit {0}

abbrev pub Fits : List ℕ → List ℕ → List ℕ → Result ℕ Fault → Type 0
Fits bytes old output outcome = (answered outcome ≡ answer_of (respacing_for bytes (length old))) × Holds (respacing_for bytes (length old)) old output
