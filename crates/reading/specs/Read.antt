-- What `read` answers, and what it leaves in the lent table.
use Rattle.std.specs.Prelude.{ℕ, ◌*◌, ◌≡◌, cond, List, ◌++◌, leb, length, drop, replicate}
use Rattle.answers.specs.Answers.{number_of, value_of, Tells}
use Rattle.answers.specs.declared.Answer.{Answer}
use Rattle.rule.specs.Trees.{count}
use Rattle.prefix.specs.Reading.{Limits, Reading, accepted, refused, reading}
use Rattle.tables.specs.Records.{tree_width, room_for}
use Rattle.storing.specs.Records.{records}

-- Document 01, Refused texts, row 1: "over 262,144 bytes", at 262144
abbrev pub long_text : ℕ
long_text = 1

abbrev pub most_bytes : ℕ
most_bytes = 262144

-- "opener inside 100 open groups"
abbrev pub most_groups : ℕ
most_groups = 100

-- 9 and 12: the groups that may be open, and the records that a table of so many numbers has room for
abbrev pub read_limits : ℕ → Limits
read_limits cells = record { groups = most_groups; room = room_for cells }

-- the reading of a text with a table of so many numbers; "Length comes first"
unfoldable pub reading_for : List ℕ → ℕ → Reading
reading_for text cells =
    cond (leb (length text) most_bytes) (reading text (read_limits cells)) (refused long_text most_bytes)

-- "The count is of tree records"
abbrev pub answer_of : Reading → Answer
answer_of (accepted trees) = Answer.Accepted (count trees)
answer_of (refused number place) = Answer.Refused number place

-- "On acceptance, cells past the last record are unchanged." "A refusal zeroes every cell of each lent table"
abbrev pub table_after : Reading → List ℕ → List ℕ
table_after (accepted trees) table = records trees ++ drop (tree_width * count trees) table
table_after (refused number place) table = replicate (length table) 0

-- What `read` promises of its answer and its table, before and after, for every text and every table.
abbrev pub Reads : List ℕ → List ℕ → List ℕ → Answer → Type 0
Reads text before after answer =
    (answer ≡ answer_of (reading_for text (length before))) × (after ≡ table_after (reading_for text (length before)) before)
    × Tells number_of value_of answer (answer_of (reading_for text (length before)))
