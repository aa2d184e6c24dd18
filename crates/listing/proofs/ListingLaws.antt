-- What the calls leave is what is listed, all of it; and the front of a text that a buffer holds is listed as the whole text is.
use mathlib.Core.Path.{◌≡◌, refl, sym, ap, ◌∙◌}
use mathlib.Core.Bool.{Bool, true, false}
use mathlib.Core.List.{List, ◌++◌}
use Prim.Native.Nat.{ℕ, ◌+◌, ◌*◌, ◌<◌, ◌≤◌}
use native.Mathlib.Omega.{arith}
use borrow.Author.Tests.{leb-true, leb-false, lt-leb, le-leb}
use lib.Dec.{leb}
use lib.ListN.{length, take, drop, replicate, length-append, length-take}
use lib.Seq.{take_all}
use Rattle.text.specs.Quoted.{bytes}
use Rattle.answers.specs.declared.Answer.{Answer}
use Rattle.rule.specs.Trees.{count}
use Rattle.prefix.specs.Reading.{Reading, accepted, refused}
use Rattle.tables.specs.Records.{tree_width, most_trees}
use Rattle.storing.specs.Records.{records}
use Rattle.reading.specs.Read.{long_text, most_bytes, reading_for, answer_of, table_after}
use Rattle.storing.proofs.CellLaws.{records_length}
use Rattle.printing.specs.Printed.{listed, answered, FitsTable, listing_room}
use Rattle.writing.proofs.WritingLaws.{all_written}
use Rattle.printing.proofs.PrintedLaws.{listed_front, Said}
use Rattle.listing.specs.Listing.{printed_trees, most_listed, most_listed_trees, short_reading, whole_trees, Front, Holds, Counts}

-- What answers the same of every text that is too long answers of the front that a buffer holds as of the whole text, if the buffer has a
-- byte more than may be read.
module _ {X : Type 0} (f : List ℕ → X) (x : X) (most : ℕ) (long : (text : List ℕ) → most < length text → f text ≡ x) where
  cut_same : (text : List ℕ) → f (take (most + 1) text) ≡ f text
  cut_same text = go (leb (length text) most) refl
    where
      go : (b : Bool) → leb (length text) most ≡ b → f (take (most + 1) text) ≡ f text
      go true e = ap f (take_all (most + 1) text (omega (arith, leb-true (length text) most e)))
      go false e =
          let h : most < length text = leb-false (length text) most e in
          long (take (most + 1) text) (omega (arith, length-take (most + 1) text)) ∙ sym (long text h)

  pub front_same : (buffer : List ℕ) (n : ℕ) (text : List ℕ) → length buffer ≡ most + 1 → Front buffer n text → f (take n buffer) ≡ f text
  front_same buffer n text l e = ap f (rw l at e) ∙ cut_same text

short_long : (text : List ℕ) → most_listed < length text → short_reading text ≡ refused long_text most_bytes
unfolding short_reading
short_long text h = rw (lt-leb (length text) most_listed h)

pub reading_long : (cells : ℕ) (text : List ℕ) → most_bytes < length text → reading_for text cells ≡ refused long_text most_bytes
unfolding reading_for
reading_long cells text h = rw (lt-leb (length text) most_bytes h)

short_front : (buffer : List ℕ) (n : ℕ) (text : List ℕ) → length buffer ≡ most_listed + 1 → Front buffer n text → short_reading (take n buffer) ≡ short_reading text
short_front = front_same short_reading (refused long_text most_bytes) most_listed short_long

module _ (buffer : List ℕ) (n : ℕ) (text : List ℕ) (l : length buffer ≡ most_bytes + 1) (e : Front buffer n text) where
  trees_front : whole_trees (take n buffer) ≡ whole_trees text
  trees_front = front_same whole_trees (refused long_text most_bytes) most_bytes (reading_long (tree_width * most_trees)) buffer n text l e

-- the reading that `treelist` lists: length first
pub short_read : (text before now : List ℕ) (answer : Answer) → length before ≡ tree_width * most_listed_trees → length text ≤ most_listed
    → answer ≡ answer_of (reading_for text (length before)) → now ≡ table_after (reading_for text (length before)) before
    → (answer ≡ answer_of (short_reading text)) × (now ≡ table_after (short_reading text) before)
unfolding short_reading
short_read text before now answer l h e t =
    let same : reading_for text (length before) ≡ reading_for text (tree_width * most_listed_trees) = ap (reading_for text) l in
    rw (le-leb (length text) most_listed h) (e ∙ ap answer_of same, t ∙ ap (λ (r : Reading). table_after r before) same)

pub long_read : (text before now : List ℕ) → most_listed < length text → now ≡ replicate (length before) 0
    → (Answer.Refused long_text most_bytes ≡ answer_of (short_reading text)) × (now ≡ table_after (short_reading text) before)
long_read text before now h e = rw (short_long text h) (refl, e)

-- An answer and the table beside it: the records are there, and they are what is listed.
pub record Lists (heading : List ℕ) (width : ℕ) (cells : List ℕ) (answer : Answer) (said : List ℕ) : Type 0 where
  pub within : FitsTable width cells answer
  pub said_is : answered heading width cells answer ≡ said

pub counted : (heading : List ℕ) (width n : ℕ) (cells rest : List ℕ) → length cells ≡ width * n
    → Lists heading width (cells ++ rest) (Answer.Accepted n) (listed heading width n cells)
counted heading width n cells rest l =
    record { within = omega (arith, length-append cells rest); said_is = listed_front heading width n cells rest (omega arith) }

trees_listed : (r : Reading) (before : List ℕ) → Lists (bytes "trees,") tree_width (table_after r before) (answer_of r) (printed_trees r)
unfolding printed_trees
trees_listed (accepted trees) before = counted (bytes "trees,") tree_width (count trees) (records trees) (drop (tree_width * count trees) before) (records_length trees)
trees_listed (refused number place) before = record { within = tt; said_is = refl }

-- All that is said has room, so all of it is written.
pub counts : (said output now : List ℕ) (at : ℕ) → at ≡ length said → now ≡ said ++ drop at output → Counts at now
counts said output now at e p =
    let l : at ≤ length now = omega (arith, ap length p, length-append said (drop at output)) in
    (l, omega (arith, length-take at now))

pub whole_listed : (heading : List ℕ) (width : ℕ) (cells : List ℕ) (answer : Answer) (said output now : List ℕ) (at : ℕ) → length heading ≤ 19
    → Lists heading width cells answer said → Said heading width cells answer output now at → length output ≡ listing_room (length cells) → Counts at now × Holds said output now at
whole_listed heading width cells answer said output now at h l p room =
    let w = all_written (answered heading width cells answer) output now at p.0 (omega (arith, p.1 h)) in
    let e : at ≡ length said = w.0 ∙ ap length l.said_is in
    let k : now ≡ said ++ drop at output = w.1 ∙ ap (λ (b : List ℕ). b ++ drop at output) l.said_is in
    (counts said output now at e k, record { count_is = e; after_is = k })

-- The same for every text of which the buffer holds the front.
module _ (buffer : List ℕ) (n : ℕ) (front : List ℕ) (is : front ≡ take n buffer) (output after : List ℕ) (answer : Answer) (at : ℕ) where
  trees_printed : (f : List ℕ → Reading) (table now : List ℕ) → answer ≡ answer_of (f front) → now ≡ table_after (f front) table
      → Said (bytes "trees,") tree_width now answer output after at → length output ≡ listing_room (length now) → ((text : List ℕ) → Front buffer n text → f (take n buffer) ≡ f text)
      → Counts at after × ((text : List ℕ) → Front buffer n text → Holds (printed_trees (f text)) output after at × (now ≡ table_after (f text) table))
  trees_printed f table now e t p room same =
      let l : Lists (bytes "trees,") tree_width now answer (printed_trees (f front)) = rw (e, t) (trees_listed (f front) table) in
      let w = whole_listed (bytes "trees,") tree_width now answer (printed_trees (f front)) output after at (omega arith) l p room in
      let to : (text : List ℕ) → Front buffer n text → f front ≡ f text = λ text o. ap f is ∙ same text o in
      (w.0, λ text o. (rw (to text o) at w.1, rw (to text o) at t))

  pub short_printed : (table now : List ℕ) → answer ≡ answer_of (short_reading front) → now ≡ table_after (short_reading front) table
      → Said (bytes "trees,") tree_width now answer output after at → length output ≡ listing_room (length now) → length buffer ≡ most_listed + 1
      → Counts at after × ((text : List ℕ) → Front buffer n text → Holds (printed_trees (short_reading text)) output after at × (now ≡ table_after (short_reading text) table))
  short_printed table now e t p room l = trees_printed short_reading table now e t p room (λ text o. short_front buffer n text l o)

  pub whole_printed : (table now : List ℕ) → length table ≡ tree_width * most_trees → answer ≡ answer_of (reading_for front (length table)) → now ≡ table_after (reading_for front (length table)) table
      → Said (bytes "trees,") tree_width now answer output after at → length output ≡ listing_room (length now) → length buffer ≡ most_bytes + 1
      → Counts at after × ((text : List ℕ) → Front buffer n text → Holds (printed_trees (whole_trees text)) output after at × (now ≡ table_after (whole_trees text) table))
  whole_printed table now cells e t p room l =
      let same : reading_for front (length table) ≡ whole_trees front = ap (reading_for front) cells in
      trees_printed whole_trees table now (e ∙ ap answer_of same) (t ∙ ap (λ (r : Reading). table_after r table) same) p room (λ text o. trees_front buffer n text l o)

-- The records that are counted are there.
pub trees_within : (r : Reading) (answer : Answer) (table now : List ℕ) → answer ≡ answer_of r → now ≡ table_after r table → FitsTable tree_width now answer
trees_within r answer table now e t = rw (e, t) (trees_listed r table).within
