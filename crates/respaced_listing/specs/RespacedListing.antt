-- What the program `respace` prints of a text.
use Rattle.std.specs.Prelude.{ℕ, List, length, replicate}
use Rattle.prefix.specs.Reading.{Reading, accepted, refused}
use Rattle.spacing.specs.Respaced.{respaced}
use Rattle.respacer.specs.Respace.{whole_reading}
use Rattle.printing.specs.Printed.{refusal}
use Rattle.listing.specs.Listing.{Front, Holds}

-- `respace` prints the respaced text, or the same line of a refusal
unfoldable pub printed_respaced : List ℕ → Reading → List ℕ
printed_respaced text (accepted trees) = respaced text trees
printed_respaced text (refused number place) = refusal number place

-- "A refusal zeroes every cell of each lent table and output", and the line of the refusal is put there after that
abbrev pub cleared : Reading → List ℕ → List ℕ
cleared (accepted trees) output = output
cleared (refused number place) output = replicate (length output) 0

-- What the function promises, of every text whose front was read into a buffer: as `ListsTrees` says it, of the output alone.
abbrev pub ListsRespaced : List ℕ → ℕ → List ℕ → List ℕ → ℕ → Type 0
ListsRespaced buffer count output outputLeft written =
    (text : List ℕ) → Front buffer count text
    → Holds (printed_respaced text (whole_reading text)) (cleared (whole_reading text) output) outputLeft written
