-- The round trip: what respacing keeps, and that it has nothing more to do with its own output.
use mathlib.Core.Path.{◌≡◌}
use mathlib.Core.List.{List}
use Prim.Native.Nat.{ℕ, ◌≤◌}
use lib.ListN.{length, take}
use Rattle.answers.specs.declared.Answer.{Answer}
use Rattle.rule.specs.Trees.{Trees, count}
use Rattle.prefix.specs.Reading.{Limits, Reading, accepted, reading, unlimited, unlimited_reading}
use Rattle.prefix.proofs.LimitLaws.{accepted_unlimited}
use Rattle.reading.specs.Read.{most_bytes, reading_for, Reads}
use Rattle.spacing.specs.Respaced.{respaced}
use Rattle.respacer.specs.Respace.{whole_reading, written, respacing_for, Respaces}
use Rattle.respacer.specs.Alike.{Kept, RoundTrip, SameLeft}
use Rattle.respacer.proofs.AlikeLevels.{alike_count}
use Rattle.respacer.proofs.ReadAgain.{read_again}
use Rattle.respacer.proofs.RecordsAgain.{read_written, left_again}
use Rattle.respacer.proofs.CallsAgain.{kept_by_read, kept_by_respace, written_again, respacing_again}

-- A respaced text, of any length, is read under the limits of its text's reading, with the same trees but for positions.
pub round_trip : (text : List ℕ) (limits : Limits) (trees : Trees) → reading text limits ≡ accepted trees → Kept text trees (reading (respaced text trees) limits)
round_trip = read_again

-- So it is without limits.
pub unlimited_round_trip : (text : List ℕ) (trees : Trees) → unlimited_reading text ≡ accepted trees → Kept text trees (unlimited_reading (respaced text trees))
unlimited_round_trip text trees e =
    let k = round_trip text (unlimited text) trees e in
    record { kept = k.kept; reads = accepted_unlimited (respaced text trees) (unlimited text) k.kept k.reads; alike = k.alike }

-- So it is by `read`, with a table of the same length, if it has at most 262,144 bytes.
pub read_round_trip : (text : List ℕ) (trees : Trees) → length (respaced text trees) ≤ most_bytes → (cells : ℕ) → reading_for text cells ≡ accepted trees
    → Kept text trees (reading_for (respaced text trees) cells)
read_round_trip = kept_by_read

-- So it is by `respace`.
pub respace_round_trip : (text : List ℕ) (trees : Trees) → length (respaced text trees) ≤ most_bytes → whole_reading text ≡ accepted trees
    → Kept text trees (whole_reading (respaced text trees))
respace_round_trip = kept_by_respace

-- The count is the same.
pub kept_count : (text : List ℕ) (trees : Trees) (answer : Reading) (k : Kept text trees answer) → count trees ≡ count k.kept
kept_count text trees answer k = alike_count k.alike

-- By the definitions of the calls: what `respace` wrote of a text, if it has at most 262,144 bytes, `read` accepts wherever it accepts the text, with the
-- same answer, the same trees but for positions, and the same numbers one, four and five of each record.
pub call_round_trip : (text : List ℕ) (room : ℕ) (bytes : List ℕ) → respacing_for text room ≡ written bytes → length bytes ≤ most_bytes
    → (table : List ℕ) (trees : Trees) → reading_for text (length table) ≡ accepted trees → RoundTrip text bytes table trees
call_round_trip = read_written

-- Through the calls, by their contracts: `respace` answered n, at most 262,144, and `read` a count of the text; then it answers the same of the first n bytes of the
-- output, and leaves the same numbers one, four and five of each record.
pub calls_round_trip : (text before after table left other : List ℕ) (n number : ℕ) (answer : Answer) → n ≤ most_bytes → Reads (take n after) table other answer
    → Respaces text before after (Answer.Accepted n) → Reads text table left (Answer.Accepted number) → SameLeft number left answer other
calls_round_trip = left_again

-- Respacing a respaced text gives it back.
pub respaced_twice : (text : List ℕ) (trees : Trees) (answer : Reading) (k : Kept text trees answer) → respaced (respaced text trees) k.kept ≡ respaced text trees
respaced_twice text trees answer k = written_again text trees k

-- So it does by `respace`, with every output that it fits.
pub respace_twice : (text : List ℕ) (room : ℕ) (bytes : List ℕ) → respacing_for text room ≡ written bytes → length bytes ≤ most_bytes
    → (other : ℕ) → length bytes ≤ other → respacing_for bytes other ≡ written bytes
respace_twice = respacing_again
