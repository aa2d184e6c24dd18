-- What `parse` answers, and what it leaves in the two lent tables.
use Rattle.std.specs.Prelude.{ℕ, ◌*◌, ◌≡◌, false, cond, List, [], ◌∷◌, ◌++◌, leb, length, drop, replicate}
use Rattle.answers.specs.Answers.{number_of, value_of, Tells}
use Rattle.answers.specs.declared.Answer.{Answer}
use Rattle.rule.specs.Trees.{Trees, count}
use Rattle.prefix.specs.Reading.{Reading, accepted, refused}
use Rattle.reading.specs.Read.{reading_for, table_after}
use Rattle.derivations.specs.Tokens.{Token, token, Spot, tokens}
use Rattle.tables.specs.Records.{syntax_width, syntax_room}
use Rattle.machine.specs.Syntax.{Syntax, size, syntax_records, program_tree}
use Rattle.derivations.specs.TreeElements.{elements_of}
use Rattle.machine.specs.Machinery.Machine.{end_of_text, State, dead, live, done_of, run, start}

-- Document 01, Refused texts, row 13, no program: "first element with which the elements so far begin no program (limits aside);
-- text length if none"
abbrev pub no_program : ℕ
no_program = 13

-- row 14, syntax full: "parsing; more records than fit"; place: text length
abbrev pub syntax_full : ℕ
syntax_full = 14

-- the trees and the syntax tree of a text, or a refusal's number and place
pub data Parsing : Type 0 where
  program : Trees → Syntax → Parsing
  denied : ℕ → ℕ → Parsing

-- the end of a text of that length, as a token
abbrev pub end_spot : ℕ → Spot
end_spot end = record { newline = false; mark = 0; first = end }

abbrev pub end_token : ℕ → Token
end_token end = token end_of_text (end_spot end)

-- where the token machine is behind the elements of trees and the text's end
unfoldable pub state_after : ℕ → Trees → State
state_after end trees = run start (tokens (elements_of trees) ++ (end_token end ∷ []))

-- what the machine takes to the end is a program, with the syntax tree that it has built (behind the text's end it lives only where it
-- has finished); else the place where it dies answers. It takes what has a derivation, and nothing else, and it dies at the first element with which those so far begin no
-- program, or at the text's end (proofs/Theorems.antt).
abbrev pub judged : Trees → State → Parsing
judged trees (live control f around) = program trees (program_tree (count trees) (done_of f))
judged trees (dead place) = denied no_program place

-- "13 before 14"
abbrev pub fitting : ℕ → ℕ → Parsing → Parsing
fitting end room (program trees syntax) = cond (leb (size syntax) room) (program trees syntax) (denied syntax_full end)
fitting end room (denied number place) = denied number place

-- "13 to 15 follow a full reading"
abbrev pub parsed : ℕ → ℕ → Reading → Parsing
parsed end room (accepted trees) = fitting end room (judged trees (state_after end trees))
parsed end room (refused number place) = denied number place

-- the parsing of a text with tables of so many numbers, for trees and for syntax
unfoldable pub parsing_for : List ℕ → ℕ → ℕ → Parsing
parsing_for text tree_cells syntaxCells = parsed (length text) (syntax_room syntaxCells) (reading_for text tree_cells)

-- "The count is of .. syntax records"
abbrev pub answer_of : Parsing → Answer
answer_of (program trees syntax) = Answer.Accepted (size syntax)
answer_of (denied number place) = Answer.Refused number place

-- "On acceptance, cells past the last record are unchanged." "A refusal zeroes every cell of each lent table"
abbrev pub trees_after : Parsing → List ℕ → List ℕ
trees_after (program trees syntax) table = table_after (accepted trees) table
trees_after (denied number place) table = replicate (length table) 0

abbrev pub syntax_after : Parsing → List ℕ → List ℕ
syntax_after (program trees syntax) table = syntax_records syntax ++ drop (syntax_width * size syntax) table
syntax_after (denied number place) table = replicate (length table) 0

-- What `parse` promises of its answer and its two tables, before and after, for every text and all tables.
abbrev pub Parses : List ℕ → List ℕ → List ℕ → List ℕ → List ℕ → Answer → Type 0
Parses text trees syntax treesLeft syntaxLeft answer =
    (answer ≡ answer_of (parsing_for text (length trees) (length syntax)))
    × (treesLeft ≡ trees_after (parsing_for text (length trees) (length syntax)) trees)
    × (syntaxLeft ≡ syntax_after (parsing_for text (length trees) (length syntax)) syntax)
    × Tells number_of value_of answer (answer_of (parsing_for text (length trees) (length syntax)))
