-- What `respace` answers, and what it leaves in the lent output.
use Rattle.std.specs.Prelude.{ℕ, ◌+◌, ◌*◌, ◌≤◌, ◌≡◌, cond, List, ◌++◌, leb, length, drop, replicate}
use Rattle.answers.specs.Answers.{number_of, value_of, Tells}
use Rattle.answers.specs.declared.Answer.{Answer}
use Rattle.rule.specs.Trees.{Trees}
use Rattle.prefix.specs.Reading.{Limits, Reading, accepted, refused, reading}
use Rattle.tables.specs.Records.{most_trees}
use Rattle.reading.specs.Read.{long_text, most_bytes, most_groups}
use Rattle.spacing.specs.Respaced.{respaced}

-- Document 01, Refused texts, row 15, output full: "respacing; more bytes than fit"; place: text length
abbrev pub output_full : ℕ
output_full = 15

-- "Respacing keeps no tree table: 12 there means over 16,384."
abbrev pub respace_limits : Limits
respace_limits = record { groups = most_groups; room = most_trees }

-- the reading that respacing rests on; "Length comes first"
unfoldable pub whole_reading : List ℕ → Reading
whole_reading text = cond (leb (length text) most_bytes) (reading text respace_limits) (refused long_text most_bytes)

-- the bytes that are written, or a refusal's number and place
pub data Respacing : Type 0 where
  written : List ℕ → Respacing
  denied : ℕ → ℕ → Respacing

-- what is read is written if it fits; "13 to 15 follow a full reading"
abbrev pub fitted : List ℕ → ℕ → Reading → Respacing
fitted text room (accepted trees) =
    cond (leb (length (respaced text trees)) room) (written (respaced text trees)) (denied output_full (length text))
fitted text room (refused number place) = denied number place

-- the respacing of a text with an output of so many bytes
abbrev pub respacing_for : List ℕ → ℕ → Respacing
respacing_for text room = fitted text room (whole_reading text)

-- "The count is of .. bytes written."
abbrev pub answer_of : Respacing → Answer
answer_of (written bytes) = Answer.Accepted (length bytes)
answer_of (denied number place) = Answer.Refused number place

-- bytes past the last written are unchanged; "A refusal zeroes every cell of each lent table and output."
abbrev pub output_after : Respacing → List ℕ → List ℕ
output_after (written bytes) output = bytes ++ drop (length bytes) output
output_after (denied number place) output = replicate (length output) 0

-- What `respace` promises of its answer and its output, before and after, for every text and every output.
abbrev pub Respaces : List ℕ → List ℕ → List ℕ → Answer → Type 0
Respaces text before after answer =
    (answer ≡ answer_of (respacing_for text (length before))) × (after ≡ output_after (respacing_for text (length before)) before)
    × Tells number_of value_of answer (answer_of (respacing_for text (length before)))

-- a text that is respaced has at most 262,144 bytes, and its respaced text at most twice as many and one
pub record Short (text : List ℕ) (trees : Trees) : Type 0 where
  pub text_short : length text ≤ most_bytes
  pub respaced_short : length (respaced text trees) ≤ 2 * length text + 1
