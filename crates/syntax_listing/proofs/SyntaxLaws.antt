-- What `parse` leaves is what is listed, all of it; and the front of a text that a buffer holds is listed as the whole text is.
use mathlib.Core.Path.{◌≡◌, refl, ap, ◌∙◌}
use mathlib.Core.List.{List}
use Prim.Native.Nat.{ℕ, ◌+◌, ◌*◌, ◌<◌}
use native.Mathlib.Omega.{arith}
use lib.ListN.{length, take, drop}
use Rattle.text.specs.Quoted.{bytes}
use Rattle.answers.specs.declared.Answer.{Answer}
use Rattle.tables.specs.Records.{tree_width, most_trees, syntax_width, most_syntax}
use Rattle.reading.specs.Read.{long_text, most_bytes}
use Rattle.machine.specs.Syntax.{size, syntax_records}
use Rattle.parsing.specs.Parse.{Parsing, program, denied, parsing_for, answer_of, trees_after, syntax_after}
use Rattle.parser.proofs.WrittenCells.{syntax_length}
use Rattle.printing.specs.Printed.{FitsTable, listing_room}
use Rattle.printing.proofs.PrintedLaws.{Said}
use Rattle.listing.specs.Listing.{Front, Holds, Counts}
use Rattle.listing.proofs.ListingLaws.{front_same, reading_long, Lists, counted, whole_listed}
use Rattle.syntax_listing.specs.SyntaxListing.{printed_syntax, whole_syntax}

syntax_long : (text : List ℕ) → most_bytes < length text → whole_syntax text ≡ denied long_text most_bytes
unfolding parsing_for
syntax_long text h = rw (reading_long (tree_width * most_trees) text h) refl

syntax_front : (buffer : List ℕ) (n : ℕ) (text : List ℕ) → length buffer ≡ most_bytes + 1 → Front buffer n text → whole_syntax (take n buffer) ≡ whole_syntax text
syntax_front = front_same whole_syntax (denied long_text most_bytes) most_bytes syntax_long

-- the records that are counted are there, and they are what is listed
syntax_listed : (p : Parsing) (before : List ℕ) → Lists (bytes "syntax,") syntax_width (syntax_after p before) (answer_of p) (printed_syntax p)
unfolding printed_syntax
syntax_listed (program trees syntax) before =
    counted (bytes "syntax,") syntax_width (size syntax) (syntax_records syntax) (drop (syntax_width * size syntax) before) (omega (arith, syntax_length syntax))
syntax_listed (denied number place) before = record { within = tt; said_is = refl }

-- The same for every text of which the buffer holds the front.
module _ (buffer : List ℕ) (n : ℕ) (front : List ℕ) (is : front ≡ take n buffer) (output after : List ℕ) (answer : Answer) (at : ℕ) where
  pub syntax_printed : (trees treesNow table now : List ℕ) → length trees ≡ tree_width * most_trees → length table ≡ syntax_width * most_syntax
      → answer ≡ answer_of (parsing_for front (length trees) (length table)) → treesNow ≡ trees_after (parsing_for front (length trees) (length table)) trees
      → now ≡ syntax_after (parsing_for front (length trees) (length table)) table
      → Said (bytes "syntax,") syntax_width now answer output after at → length output ≡ listing_room (length now) → length buffer ≡ most_bytes + 1
      → Counts at after × ((text : List ℕ) → Front buffer n text → Holds (printed_syntax (whole_syntax text)) output after at × (treesNow ≡ trees_after (whole_syntax text) trees) × (now ≡ syntax_after (whole_syntax text) table))
  syntax_printed trees treesNow table now tree_cells cells e u t p room b =
      let same : parsing_for front (length trees) (length table) ≡ whole_syntax front = rw (tree_cells, cells) refl in
      let q = parsing_for front (length trees) (length table) in
      let l : Lists (bytes "syntax,") syntax_width now answer (printed_syntax q) = rw (e, t) (syntax_listed q table) in
      let w = whole_listed (bytes "syntax,") syntax_width now answer (printed_syntax q) output after at (omega arith) l p room in
      let to : (text : List ℕ) → Front buffer n text → q ≡ whole_syntax text = λ text o. same ∙ (ap whole_syntax is ∙ syntax_front buffer n text b o) in
      (w.0, λ text o. (rw (to text o) at w.1, rw (to text o) at u, rw (to text o) at t))

pub syntax_within : (p : Parsing) (answer : Answer) (table now : List ℕ) → answer ≡ answer_of p → now ≡ syntax_after p table → FitsTable syntax_width now answer
syntax_within p answer table now e t = rw (e, t) (syntax_listed p table).within
