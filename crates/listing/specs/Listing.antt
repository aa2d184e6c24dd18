-- What the programs `treelist` and `trees` print of a text; buffers that hold the front of a text, and outputs that hold all that is said.
use Rattle.std.specs.Prelude.{ℕ, ◌*◌, ◌≤◌, cond, ◌≡◌, List, ◌++◌, leb, length, take, drop}
use Rattle.text.specs.Quoted.{bytes}
use Rattle.rule.specs.Trees.{count}
use Rattle.prefix.specs.Reading.{Reading, accepted, refused}
use Rattle.tables.specs.Records.{tree_width, most_trees}
use Rattle.storing.specs.Records.{records}
use Rattle.reading.specs.Read.{long_text, most_bytes, reading_for, table_after}
use Rattle.printing.specs.Printed
use Rattle.printing.specs.Printed.{refusal}

-- "It prints `trees,` and the count, then the five numbers of each record in order, or `refused,number,place`"
unfoldable pub printed_trees : Reading → List ℕ
printed_trees (accepted trees) = Printed.listed (bytes "trees,") tree_width (count trees) (records trees)
printed_trees (refused number place) = refusal number place

-- "reads at most 8,192 bytes .. with 3,000 tree records"
abbrev pub most_listed : ℕ
most_listed = 8192

abbrev pub most_listed_trees : ℕ
most_listed_trees = 3000

-- the reading that `treelist` lists; "more: `long`"
unfoldable pub short_reading : List ℕ → Reading
short_reading text = cond (leb (length text) most_listed) (reading_for text (tree_width * most_listed_trees)) (refused long_text most_bytes)

-- the reading that `trees` lists: by a table as long as may be
abbrev pub whole_trees : List ℕ → Reading
whole_trees text = reading_for text (tree_width * most_trees)

-- so many bytes of a buffer, which a read has filled as far as it could, are the front of a text
abbrev pub Front : List ℕ → ℕ → List ℕ → Type 0
Front buffer count text = take count buffer ≡ take (length buffer) text

-- an output starts with all that is said, so many bytes, and is beyond these as it was
pub record Holds (said before after : List ℕ) (count : ℕ) : Type 0 where
  pub count_is : count ≡ length said
  pub after_is : after ≡ said ++ drop count before

-- What the functions promise, of every text whose front was read into a buffer: so many bytes are written, which are the whole listing, and the
-- table is that of the reading. `reading_of` is the reading: that of `treelist`, or that of `trees`.
abbrev pub ListsTrees : (List ℕ → Reading) → List ℕ → ℕ → List ℕ → List ℕ → List ℕ → List ℕ → ℕ → Type 0
ListsTrees reading_of buffer count trees treesLeft output outputLeft written =
    (text : List ℕ) → Front buffer count text
    → Holds (printed_trees (reading_of text)) output outputLeft written × (treesLeft ≡ table_after (reading_of text) trees)

-- so many bytes at the start of an output can be lent: both are stated so that the proof that is made of `&output[..count]` finds them
abbrev pub Counts : ℕ → List ℕ → Type 0
Counts count output = (count ≤ length output) × (count ≡ length (take count output))
