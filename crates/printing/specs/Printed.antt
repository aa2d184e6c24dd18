-- Document 01, Readings: how the programs print records and refusals.
use Rattle.std.specs.Prelude.{ℕ, zero, suc, ◌+◌, ◌*◌, ◌≤◌, List, [], ◌∷◌, ◌++◌, length, take, drop}
use Rattle.text.specs.Quoted.{bytes}
use Rattle.answers.specs.declared.Answer.{Answer}
use Rattle.writing.specs.Numbers.{line}

-- so many records of a width, one a line
unfoldable pub lines : ℕ → ℕ → List ℕ → List ℕ
lines width zero cells = []
lines width (suc n) cells = line (take width cells) ++ lines width n (drop width cells)

-- "It prints `trees,` and the count, then the five numbers of each record in order": so of records of any width, behind any heading
unfoldable pub listed : List ℕ → ℕ → ℕ → List ℕ → List ℕ
listed heading width n cells = heading ++ (line (n ∷ []) ++ lines width n cells)

-- "or `refused,number,place`"
unfoldable pub refusal : ℕ → ℕ → List ℕ
refusal number place = bytes "refused," ++ line (number ∷ place ∷ [])

-- what is printed of an answer, with the table that starts with the records it counts
abbrev pub answered : List ℕ → ℕ → List ℕ → Answer → List ℕ
answered heading width cells (Answer.Accepted n) = listed heading width n cells
answered heading width cells (Answer.Refused number place) = refusal number place

-- the table has the records that an answer counts
abbrev pub FitsTable : ℕ → List ℕ → Answer → Type 0
FitsTable width cells (Answer.Accepted n) = width * n ≤ length cells
FitsTable width cells (Answer.Refused number place) = Unit {0}

-- the bytes that a listing of a table of so many cells has at most: 10 digits and a separator for each cell, and room for the first line
abbrev pub listing_room : ℕ → ℕ
listing_room cells = 11 * cells + 40
