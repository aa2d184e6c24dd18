-- What the program `syntax` prints of a text.
use Rattle.std.specs.Prelude.{ℕ, ◌*◌, ◌≡◌, List}
use Rattle.text.specs.Quoted.{bytes}
use Rattle.tables.specs.Records.{tree_width, most_trees, syntax_width, most_syntax}
use Rattle.machine.specs.Syntax.{size, syntax_records}
use Rattle.parsing.specs.Parse.{Parsing, program, denied, parsing_for, trees_after, syntax_after}
use Rattle.printing.specs.Printed
use Rattle.printing.specs.Printed.{refusal}
use Rattle.listing.specs.Listing.{Front, Holds}

-- `syntax` prints `syntax,` and the count, then the three numbers of each record in order, or the same line of a refusal
unfoldable pub printed_syntax : Parsing → List ℕ
printed_syntax (program trees syntax) = Printed.listed (bytes "syntax,") syntax_width (size syntax) (syntax_records syntax)
printed_syntax (denied number place) = refusal number place

-- the parsing that `syntax` lists: by tables as long as may be
abbrev pub whole_syntax : List ℕ → Parsing
whole_syntax text = parsing_for text (tree_width * most_trees) (syntax_width * most_syntax)

-- What the function promises, of every text whose front was read into a buffer: as `ListsTrees` says it, of both tables.
abbrev pub ListsSyntax : List ℕ → ℕ → List ℕ → List ℕ → List ℕ → List ℕ → List ℕ → List ℕ → ℕ → Type 0
ListsSyntax buffer count trees treesLeft syntax syntaxLeft output outputLeft written =
    (text : List ℕ) → Front buffer count text
    → Holds (printed_syntax (whole_syntax text)) output outputLeft written × (treesLeft ≡ trees_after (whole_syntax text) trees)
    × (syntaxLeft ≡ syntax_after (whole_syntax text) syntax)
