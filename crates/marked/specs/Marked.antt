-- Document 01, Readings: those marked (M), as one table, with the two of document 02, U1, six with lists (U2), twelve with operators and numbers (U4) and eighteen with statements (U6). Each has its text, and what reading, parsing and
-- respacing give.
use Rattle.std.specs.Prelude.{ℕ, Bool, true, ◌&&◌, List, [], ◌∷◌}
use Prim.Native.String.{String}
use Rattle.text.specs.Quoted.{bytes}
use Rattle.text.specs.Runs.{same}
use Rattle.prefix.specs.Reading.{Reading, accepted, refused}
use Rattle.storing.specs.Records.{records}
use Rattle.reading.specs.Read.{reading_for}
use Rattle.machine.specs.Syntax.{syntax_records}
use Rattle.parsing.specs.Parse.{Parsing, program, denied, parsing_for}
use Rattle.respacer.specs.Respace.{Respacing, written, respacing_for}
use Rattle.respacer.specs.Respace

-- a tree record, and a syntax record
pub data Tree : Type 0 where
  tree : ℕ → ℕ → ℕ → ℕ → ℕ → Tree

pub data Part : Type 0 where
  part : ℕ → ℕ → ℕ → Part

-- what a call gives: records or bytes, or a refusal's number and place
pub data Given : Type 0 where
  has_trees : List Tree → Given
  has_parts : List Part → Given
  writes : String → Given
  gets : ℕ → ℕ → Given

pub data Case : Type 0 where
  marked : String → Given → Given → Given → Case

abbrev tree_cells : List Tree → List ℕ
tree_cells [] = []
tree_cells (tree kind first end number newline ∷ rest) = kind ∷ first ∷ end ∷ number ∷ newline ∷ tree_cells rest

abbrev part_cells : List Part → List ℕ
part_cells [] = []
part_cells (part kind mark number ∷ rest) = kind ∷ mark ∷ number ∷ part_cells rest

-- an answer as numbers: 0 and the cells, or number and place
abbrev given : Given → List ℕ
given (has_trees rows) = 0 ∷ tree_cells rows
given (has_parts rows) = 0 ∷ part_cells rows
given (writes text) = 0 ∷ bytes text
given (gets number place) = number ∷ place ∷ []

abbrev of_reading : Reading → List ℕ
of_reading (accepted trees) = 0 ∷ records trees
of_reading (refused number place) = number ∷ place ∷ []

abbrev of_parsing : Parsing → List ℕ
of_parsing (program trees syntax) = 0 ∷ syntax_records syntax
of_parsing (denied number place) = number ∷ place ∷ []

abbrev of_respacing : Respacing → List ℕ
of_respacing (written text) = 0 ∷ text
of_respacing (Respace.denied number place) = number ∷ place ∷ []

-- tables of 100 numbers, and an output of 100 bytes, are long enough for all of them
abbrev holds : Case → Bool
holds (marked text read parsed respaced) =
    same (given read) (of_reading (reading_for (bytes text) 100))
    && (same (given parsed) (of_parsing (parsing_for (bytes text) 100 100))
    && same (given respaced) (of_respacing (respacing_for (bytes text) 100)))

abbrev pub all_hold : List Case → Bool
all_hold [] = true
all_hold (case ∷ rest) = holds case && all_hold rest

abbrev pub readings : List Case
readings =
    marked "" (has_trees [])
    (has_parts (part 20 0 1 ∷ []))
    (writes "\n") ∷
    marked "/a/;" (has_trees (tree 5 0 3 1 0 ∷ tree 6 3 4 1 0 ∷ []))
    (has_parts (part 4 0 1 ∷ part 13 1 2 ∷ part 20 2 3 ∷ []))
    (writes "/a/ ;\n") ∷
    marked "a/b/c;" (has_trees (tree 1 0 1 1 0 ∷ tree 6 1 2 1 0 ∷ tree 1 2 3 1 0 ∷ tree 6 3 4 1 0 ∷ tree 1 4 5 1 0 ∷ tree 6 5 6 1 0 ∷ []))
    (has_parts (part 1 0 1 ∷ part 1 2 1 ∷ part 10 1 3 ∷ part 1 4 1 ∷ part 10 3 5 ∷ part 13 5 6 ∷ part 20 6 7 ∷ []))
    (writes "a / b / c ;\n") ∷
    marked "{}/a/;" (has_trees (tree 9 0 2 1 0 ∷ tree 5 2 5 1 0 ∷ tree 6 5 6 1 0 ∷ []))
    (has_parts (part 16 0 1 ∷ part 4 1 1 ∷ part 13 2 2 ∷ part 20 3 4 ∷ []))
    (writes "{ } /a/ ;\n") ∷
    marked "x={}/a/b;" (has_trees (tree 1 0 1 1 0 ∷ tree 6 1 2 1 0 ∷ tree 8 2 4 1 0 ∷ tree 6 4 5 1 0 ∷ tree 1 5 6 1 0 ∷ tree 6 6 7 1 0 ∷ tree 1 7 8 1 0 ∷ tree 6 8 9 1 0 ∷ []))
    (has_parts (part 1 0 1 ∷ part 5 2 1 ∷ part 1 4 1 ∷ part 10 3 3 ∷ part 1 6 1 ∷ part 10 5 5 ∷ part 12 1 7 ∷ part 13 7 8 ∷ part 20 8 9 ∷ []))
    (writes "x = { } / a / b ;\n") ∷
    marked "if(a)/b/;" (has_trees (tree 2 0 2 1 0 ∷ tree 7 2 5 2 0 ∷ tree 1 3 4 1 0 ∷ tree 5 5 8 1 0 ∷ tree 6 8 9 1 0 ∷ []))
    (has_parts (part 1 2 1 ∷ part 4 3 1 ∷ part 13 4 2 ∷ part 18 0 4 ∷ part 20 5 5 ∷ []))
    (writes "if ( a ) /b/ ;\n") ∷
    marked "f(a)/b/c;" (has_trees (tree 1 0 1 1 0 ∷ tree 7 1 4 2 0 ∷ tree 1 2 3 1 0 ∷ tree 6 4 5 1 0 ∷ tree 1 5 6 1 0 ∷ tree 6 6 7 1 0 ∷ tree 1 7 8 1 0 ∷ tree 6 8 9 1 0 ∷ []))
    (has_parts (part 1 0 1 ∷ part 1 2 1 ∷ part 9 1 3 ∷ part 1 4 1 ∷ part 10 3 5 ∷ part 1 6 1 ∷ part 10 5 7 ∷ part 13 7 8 ∷ part 20 8 9 ∷ []))
    (writes "f ( a ) / b / c ;\n") ∷
    marked "function f(x){}/a/;" (has_trees (tree 2 0 8 1 0 ∷ tree 1 9 10 1 0 ∷ tree 7 10 13 2 0 ∷ tree 1 11 12 1 0 ∷ tree 9 13 15 1 0 ∷ tree 5 15 18 1 0 ∷ tree 6 18 19 1 0 ∷ []))
    (has_parts (part 19 0 1 ∷ part 4 5 1 ∷ part 13 6 2 ∷ part 20 7 4 ∷ []))
    (writes "function f ( x ) { } /a/ ;\n") ∷
    marked "x:{}/a/;" (has_trees (tree 1 0 1 1 0 ∷ tree 6 1 2 1 0 ∷ tree 9 2 4 1 0 ∷ tree 5 4 7 1 0 ∷ tree 6 7 8 1 0 ∷ []))
    (has_parts (part 16 2 1 ∷ part 17 0 2 ∷ part 4 3 1 ∷ part 13 4 2 ∷ part 20 5 5 ∷ []))
    (writes "x : { } /a/ ;\n") ∷
    marked "y={x:{}/a/b};" (has_trees (tree 1 0 1 1 0 ∷ tree 6 1 2 1 0 ∷ tree 8 2 12 8 0 ∷ tree 1 3 4 1 0 ∷ tree 6 4 5 1 0 ∷ tree 8 5 7 1 0 ∷ tree 6 7 8 1 0 ∷ tree 1 8 9 1 0 ∷ tree 6 9 10 1 0 ∷ tree 1 10 11 1 0 ∷ tree 6 12 13 1 0 ∷ []))
    (has_parts (part 1 0 1 ∷ part 5 5 1 ∷ part 1 7 1 ∷ part 10 6 3 ∷ part 1 9 1 ∷ part 10 8 5 ∷ part 5 2 6 ∷ part 12 1 8 ∷ part 13 10 9 ∷ part 20 11 10 ∷ []))
    (writes "y = { x : { } / a / b } ;\n") ∷
    marked "return{}/a/b;" (has_trees (tree 2 0 6 1 0 ∷ tree 8 6 8 1 0 ∷ tree 6 8 9 1 0 ∷ tree 1 9 10 1 0 ∷ tree 6 10 11 1 0 ∷ tree 1 11 12 1 0 ∷ tree 6 12 13 1 0 ∷ []))
    (has_parts (part 5 1 1 ∷ part 1 3 1 ∷ part 10 2 3 ∷ part 1 5 1 ∷ part 10 4 5 ∷ part 15 0 6 ∷ part 20 7 7 ∷ []))
    (writes "return { } / a / b ;\n") ∷
    marked "return\n{}/a/;" (has_trees (tree 2 0 6 1 0 ∷ tree 9 7 9 1 1 ∷ tree 5 9 12 1 0 ∷ tree 6 12 13 1 0 ∷ []))
    (gets 13 7)
    (writes "return\n{ } /a/ ;\n") ∷
    marked "a=/[/]/;" (has_trees (tree 1 0 1 1 0 ∷ tree 6 1 2 1 0 ∷ tree 5 2 7 1 0 ∷ tree 6 7 8 1 0 ∷ []))
    (has_parts (part 1 0 1 ∷ part 4 2 1 ∷ part 12 1 3 ∷ part 13 3 4 ∷ part 20 4 5 ∷ []))
    (writes "a = /[/]/ ;\n") ∷
    marked "a/)/;" (gets 10 2)
    (gets 10 2)
    (gets 10 2) ∷
    marked "a.if(b)/c/d;" (has_trees (tree 1 0 1 1 0 ∷ tree 6 1 2 1 0 ∷ tree 1 2 4 1 0 ∷ tree 7 4 7 2 0 ∷ tree 1 5 6 1 0 ∷ tree 6 7 8 1 0 ∷ tree 1 8 9 1 0 ∷ tree 6 9 10 1 0 ∷ tree 1 10 11 1 0 ∷ tree 6 11 12 1 0 ∷ []))
    (has_parts (part 1 0 1 ∷ part 8 2 2 ∷ part 1 4 1 ∷ part 9 3 4 ∷ part 1 6 1 ∷ part 10 5 6 ∷ part 1 8 1 ∷ part 10 7 8 ∷ part 13 9 9 ∷ part 20 10 10 ∷ []))
    (writes "a . if ( b ) / c / d ;\n") ∷
    marked "a.if(b)/c/;" (has_trees (tree 1 0 1 1 0 ∷ tree 6 1 2 1 0 ∷ tree 1 2 4 1 0 ∷ tree 7 4 7 2 0 ∷ tree 1 5 6 1 0 ∷ tree 6 7 8 1 0 ∷ tree 1 8 9 1 0 ∷ tree 6 9 10 1 0 ∷ tree 6 10 11 1 0 ∷ []))
    (gets 13 10)
    (writes "a . if ( b ) / c / ;\n") ∷
    marked "[a,,b,];" (has_trees (tree 10 0 7 6 0 ∷ tree 1 1 2 1 0 ∷ tree 6 2 3 1 0 ∷ tree 6 3 4 1 0 ∷ tree 1 4 5 1 0 ∷ tree 6 5 6 1 0 ∷ tree 6 7 8 1 0 ∷ []))
    (has_parts (part 1 1 1 ∷ part 1 4 1 ∷ part 21 0 3 ∷ part 13 6 4 ∷ part 20 7 5 ∷ []))
    (writes "[ a , , b , ] ;\n") ∷
    marked "f(a,b[c]);" (has_trees (tree 1 0 1 1 0 ∷ tree 7 1 9 6 0 ∷ tree 1 2 3 1 0 ∷ tree 6 3 4 1 0 ∷ tree 1 4 5 1 0 ∷ tree 10 5 8 2 0 ∷ tree 1 6 7 1 0 ∷ tree 6 9 10 1 0 ∷ []))
    (has_parts (part 1 0 1 ∷ part 1 2 1 ∷ part 1 4 1 ∷ part 1 6 1 ∷ part 22 5 3 ∷ part 9 1 6 ∷ part 13 7 7 ∷ part 20 8 8 ∷ []))
    (writes "f ( a , b [ c ] ) ;\n") ∷
    marked "x={a:b,if:c};" (has_trees (tree 1 0 1 1 0 ∷ tree 6 1 2 1 0 ∷ tree 8 2 12 8 0 ∷ tree 1 3 4 1 0 ∷ tree 6 4 5 1 0 ∷ tree 1 5 6 1 0 ∷ tree 6 6 7 1 0 ∷ tree 1 7 9 1 0 ∷ tree 6 9 10 1 0 ∷ tree 1 10 11 1 0 ∷ tree 6 12 13 1 0 ∷ []))
    (has_parts (part 1 0 1 ∷ part 1 5 1 ∷ part 1 9 1 ∷ part 5 2 3 ∷ part 12 1 5 ∷ part 13 10 6 ∷ part 20 11 7 ∷ []))
    (writes "x = { a : b , if : c } ;\n") ∷
    marked "a=function(){}/b/c;" (has_trees (tree 1 0 1 1 0 ∷ tree 6 1 2 1 0 ∷ tree 2 2 10 1 0 ∷ tree 7 10 12 1 0 ∷ tree 9 12 14 1 0 ∷ tree 6 14 15 1 0 ∷ tree 1 15 16 1 0 ∷ tree 6 16 17 1 0 ∷ tree 1 17 18 1 0 ∷ tree 6 18 19 1 0 ∷ []))
    (has_parts (part 1 0 1 ∷ part 7 2 1 ∷ part 1 6 1 ∷ part 10 5 3 ∷ part 1 8 1 ∷ part 10 7 5 ∷ part 12 1 7 ∷ part 13 9 8 ∷ part 20 10 9 ∷ []))
    (writes "a = function ( ) { } / b / c ;\n") ∷
    marked "function(){}/a/;" (has_trees (tree 2 0 8 1 0 ∷ tree 7 8 10 1 0 ∷ tree 9 10 12 1 0 ∷ tree 5 12 15 1 0 ∷ tree 6 15 16 1 0 ∷ []))
    (gets 13 8)
    (writes "function ( ) { } /a/ ;\n") ∷
    marked "(a,{}/b/c);" (has_trees (tree 7 0 10 8 0 ∷ tree 1 1 2 1 0 ∷ tree 6 2 3 1 0 ∷ tree 8 3 5 1 0 ∷ tree 6 5 6 1 0 ∷ tree 1 6 7 1 0 ∷ tree 6 7 8 1 0 ∷ tree 1 8 9 1 0 ∷ tree 6 10 11 1 0 ∷ []))
    (has_parts (part 1 1 1 ∷ part 5 3 1 ∷ part 1 5 1 ∷ part 10 4 3 ∷ part 1 7 1 ∷ part 10 6 5 ∷ part 73 2 7 ∷ part 6 0 8 ∷ part 13 8 9 ∷ part 20 9 10 ∷ []))
    (writes "( a , { } / b / c ) ;\n") ∷
    marked "a/=b;" (has_trees (tree 1 0 1 1 0 ∷ tree 6 1 3 1 0 ∷ tree 1 3 4 1 0 ∷ tree 6 4 5 1 0 ∷ []))
    (has_parts (part 1 0 1 ∷ part 1 2 1 ∷ part 63 1 3 ∷ part 13 3 4 ∷ part 20 4 5 ∷ []))
    (writes "a /= b ;\n") ∷
    marked "a++b" (has_trees (tree 1 0 1 1 0 ∷ tree 12 1 3 1 0 ∷ tree 1 3 4 1 0 ∷ []))
    (gets 13 3)
    (writes "a ++ b\n") ∷
    marked "a\n++/b/;" (has_trees (tree 1 0 1 1 0 ∷ tree 11 2 4 1 1 ∷ tree 5 4 7 1 0 ∷ tree 6 7 8 1 0 ∷ []))
    (gets 13 2)
    (writes "a\n++ /b/ ;\n") ∷
    marked "a?b:{}/c/d;" (has_trees (tree 1 0 1 1 0 ∷ tree 6 1 2 1 0 ∷ tree 1 2 3 1 0 ∷ tree 13 3 4 1 0 ∷ tree 8 4 6 1 0 ∷ tree 6 6 7 1 0 ∷ tree 1 7 8 1 0 ∷ tree 6 8 9 1 0 ∷ tree 1 9 10 1 0 ∷ tree 6 10 11 1 0 ∷ []))
    (has_parts (part 1 0 1 ∷ part 1 2 1 ∷ part 5 4 1 ∷ part 1 6 1 ∷ part 10 5 3 ∷ part 1 8 1 ∷ part 10 7 5 ∷ part 61 1 8 ∷ part 13 9 9 ∷ part 20 10 10 ∷ []))
    (writes "a ? b : { } / c / d ;\n") ∷
    marked "-this/a;" (has_trees (tree 6 0 1 1 0 ∷ tree 2 1 5 1 0 ∷ tree 6 5 6 1 0 ∷ tree 1 6 7 1 0 ∷ tree 6 7 8 1 0 ∷ []))
    (has_parts (part 23 1 1 ∷ part 37 0 2 ∷ part 1 3 1 ∷ part 10 2 4 ∷ part 13 4 5 ∷ part 20 5 6 ∷ []))
    (writes "- this / a ;\n") ∷
    marked "a++/b;" (has_trees (tree 1 0 1 1 0 ∷ tree 12 1 3 1 0 ∷ tree 6 3 4 1 0 ∷ tree 1 4 5 1 0 ∷ tree 6 5 6 1 0 ∷ []))
    (has_parts (part 1 0 1 ∷ part 29 1 2 ∷ part 1 3 1 ∷ part 10 2 4 ∷ part 13 4 5 ∷ part 20 5 6 ∷ []))
    (writes "a ++ / b ;\n") ∷
    marked "--/a/;" (has_trees (tree 11 0 2 1 0 ∷ tree 5 2 5 1 0 ∷ tree 6 5 6 1 0 ∷ []))
    (has_parts (part 4 1 1 ∷ part 35 0 2 ∷ part 13 2 3 ∷ part 20 3 4 ∷ []))
    (writes "-- /a/ ;\n") ∷
    marked "a?b;c:{}/d/;" (has_trees (tree 1 0 1 1 0 ∷ tree 6 1 2 1 0 ∷ tree 1 2 3 1 0 ∷ tree 6 3 4 1 0 ∷ tree 1 4 5 1 0 ∷ tree 6 5 6 1 0 ∷ tree 9 6 8 1 0 ∷ tree 5 8 11 1 0 ∷ tree 6 11 12 1 0 ∷ []))
    (gets 13 3)
    (writes "a ? b ; c : { } /d/ ;\n") ∷
    marked "new new a(b).c;" (has_trees (tree 2 0 3 1 0 ∷ tree 2 4 7 1 0 ∷ tree 1 8 9 1 0 ∷ tree 7 9 12 2 0 ∷ tree 1 10 11 1 0 ∷ tree 6 12 13 1 0 ∷ tree 1 13 14 1 0 ∷ tree 6 14 15 1 0 ∷ []))
    (has_parts (part 1 2 1 ∷ part 1 4 1 ∷ part 27 1 3 ∷ part 8 6 4 ∷ part 28 0 5 ∷ part 13 7 6 ∷ part 20 8 7 ∷ []))
    (writes "new new a ( b ) . c ;\n") ∷
    marked "a||b-1.5*.5;" (has_trees (tree 1 0 1 1 0 ∷ tree 6 1 3 1 0 ∷ tree 1 3 4 1 0 ∷ tree 6 4 5 1 0 ∷ tree 3 5 8 1 0 ∷ tree 6 8 9 1 0 ∷ tree 3 9 11 1 0 ∷ tree 6 11 12 1 0 ∷ []))
    (has_parts (part 1 0 1 ∷ part 1 2 1 ∷ part 2 4 1 ∷ part 2 6 1 ∷ part 40 5 3 ∷ part 42 3 5 ∷ part 60 1 7 ∷ part 13 7 8 ∷ part 20 8 9 ∷ []))
    (writes "a || b - 1.5 * .5 ;\n") ∷
    marked "0x1F in typeof a;" (has_trees (tree 3 0 4 1 0 ∷ tree 2 5 7 1 0 ∷ tree 2 8 14 1 0 ∷ tree 1 15 16 1 0 ∷ tree 6 16 17 1 0 ∷ []))
    (has_parts (part 2 0 1 ∷ part 1 3 1 ∷ part 33 2 2 ∷ part 51 1 4 ∷ part 13 4 5 ∷ part 20 5 6 ∷ []))
    (writes "0x1F in typeof a ;\n") ∷
    marked "1e+3in" (gets 6 0)
    (gets 6 0)
    (gets 6 0) ∷
    marked "while" (has_trees (tree 2 0 5 1 0 ∷ []))
    (gets 13 5)
    (writes "while\n") ∷
    marked "while(a)/b/;" (has_trees (tree 2 0 5 1 0 ∷ tree 7 5 8 2 0 ∷ tree 1 6 7 1 0 ∷ tree 5 8 11 1 0 ∷ tree 6 11 12 1 0 ∷ []))
    (has_parts (part 1 2 1 ∷ part 4 3 1 ∷ part 13 4 2 ∷ part 79 0 4 ∷ part 20 5 5 ∷ []))
    (writes "while ( a ) /b/ ;\n") ∷
    marked "do;while(a)/b/;" (has_trees (tree 2 0 2 1 0 ∷ tree 6 2 3 1 0 ∷ tree 2 3 8 1 0 ∷ tree 7 8 11 2 0 ∷ tree 1 9 10 1 0 ∷ tree 5 11 14 1 0 ∷ tree 6 14 15 1 0 ∷ []))
    (gets 13 11)
    (writes "do ; while ( a ) /b/ ;\n") ∷
    marked "if(a)if(b);else;" (has_trees (tree 2 0 2 1 0 ∷ tree 7 2 5 2 0 ∷ tree 1 3 4 1 0 ∷ tree 2 5 7 1 0 ∷ tree 7 7 10 2 0 ∷ tree 1 8 9 1 0 ∷ tree 6 10 11 1 0 ∷ tree 2 11 15 1 0 ∷ tree 6 15 16 1 0 ∷ []))
    (has_parts (part 1 2 1 ∷ part 1 5 1 ∷ part 76 6 1 ∷ part 18 3 3 ∷ part 76 8 1 ∷ part 77 7 5 ∷ part 18 0 7 ∷ part 20 9 8 ∷ []))
    (writes "if ( a ) if ( b ) ; else ;\n") ∷
    marked "throw{}/a/b;" (has_trees (tree 2 0 5 1 0 ∷ tree 8 5 7 1 0 ∷ tree 6 7 8 1 0 ∷ tree 1 8 9 1 0 ∷ tree 6 9 10 1 0 ∷ tree 1 10 11 1 0 ∷ tree 6 11 12 1 0 ∷ []))
    (has_parts (part 5 1 1 ∷ part 1 3 1 ∷ part 10 2 3 ∷ part 1 5 1 ∷ part 10 4 5 ∷ part 90 0 6 ∷ part 20 7 7 ∷ []))
    (writes "throw { } / a / b ;\n") ∷
    marked "throw\n{}/a/;" (has_trees (tree 2 0 5 1 0 ∷ tree 9 6 8 1 1 ∷ tree 5 8 11 1 0 ∷ tree 6 11 12 1 0 ∷ []))
    (gets 13 6)
    (writes "throw\n{ } /a/ ;\n") ∷
    marked "case\n{}/a/b" (has_trees (tree 2 0 4 1 0 ∷ tree 8 5 7 1 1 ∷ tree 6 7 8 1 0 ∷ tree 1 8 9 1 0 ∷ tree 6 9 10 1 0 ∷ tree 1 10 11 1 0 ∷ []))
    (gets 13 0)
    (writes "case\n{ } / a / b\n") ∷
    marked "(a;{}/b/c);" (has_trees (tree 7 0 10 8 0 ∷ tree 1 1 2 1 0 ∷ tree 6 2 3 1 0 ∷ tree 8 3 5 1 0 ∷ tree 6 5 6 1 0 ∷ tree 1 6 7 1 0 ∷ tree 6 7 8 1 0 ∷ tree 1 8 9 1 0 ∷ tree 6 10 11 1 0 ∷ []))
    (gets 13 2)
    (writes "( a ; { } / b / c ) ;\n") ∷
    marked "var a,b={}/c;" (has_trees (tree 2 0 3 1 0 ∷ tree 1 4 5 1 0 ∷ tree 6 5 6 1 0 ∷ tree 1 6 7 1 0 ∷ tree 6 7 8 1 0 ∷ tree 8 8 10 1 0 ∷ tree 6 10 11 1 0 ∷ tree 1 11 12 1 0 ∷ tree 6 12 13 1 0 ∷ []))
    (has_parts (part 75 1 1 ∷ part 5 5 1 ∷ part 1 7 1 ∷ part 10 6 3 ∷ part 75 3 4 ∷ part 74 0 6 ∷ part 20 9 7 ∷ []))
    (writes "var a , b = { } / c ;\n") ∷
    marked "break\na;" (has_trees (tree 2 0 5 1 0 ∷ tree 1 6 7 1 1 ∷ tree 6 7 8 1 0 ∷ []))
    (gets 13 6)
    (writes "break\na ;\n") ∷
    marked "for(;{}/a;)/b/;" (has_trees (tree 2 0 3 1 0 ∷ tree 7 3 11 6 0 ∷ tree 6 4 5 1 0 ∷ tree 8 5 7 1 0 ∷ tree 6 7 8 1 0 ∷ tree 1 8 9 1 0 ∷ tree 6 9 10 1 0 ∷ tree 5 11 14 1 0 ∷ tree 6 14 15 1 0 ∷ []))
    (has_parts (part 5 3 1 ∷ part 1 5 1 ∷ part 10 4 3 ∷ part 4 7 1 ∷ part 13 8 2 ∷ part 80 0 6 ∷ part 20 9 7 ∷ []))
    (writes "for ( ; { } / a ; ) /b/ ;\n") ∷
    marked "for(a?b:c in d;;);" (has_trees (tree 2 0 3 1 0 ∷ tree 7 3 17 10 0 ∷ tree 1 4 5 1 0 ∷ tree 6 5 6 1 0 ∷ tree 1 6 7 1 0 ∷ tree 13 7 8 1 0 ∷ tree 1 8 9 1 0 ∷ tree 2 10 12 1 0 ∷ tree 1 13 14 1 0 ∷ tree 6 14 15 1 0 ∷ tree 6 15 16 1 0 ∷ tree 6 17 18 1 0 ∷ []))
    (gets 13 10)
    (writes "for ( a ? b : c in d ; ; ) ;\n") ∷
    marked "switch(a){case\n{}/b:{}/c/;}" (has_trees (tree 2 0 6 1 0 ∷ tree 7 6 9 2 0 ∷ tree 1 7 8 1 0 ∷ tree 9 9 27 9 0 ∷ tree 2 10 14 1 0 ∷ tree 8 15 17 1 1 ∷ tree 6 17 18 1 0 ∷ tree 1 18 19 1 0 ∷ tree 6 19 20 1 0 ∷ tree 9 20 22 1 0 ∷ tree 5 22 25 1 0 ∷ tree 6 25 26 1 0 ∷ []))
    (has_parts (part 1 2 1 ∷ part 5 5 1 ∷ part 1 7 1 ∷ part 10 6 3 ∷ part 16 9 1 ∷ part 4 10 1 ∷ part 13 11 2 ∷ part 88 4 7 ∷ part 87 0 9 ∷ part 20 12 10 ∷ []))
    (writes "switch ( a ) { case\n{ } / b : { } /c/ ; }\n") ∷
    marked "try{}catch(a){}/b/;" (has_trees (tree 2 0 3 1 0 ∷ tree 9 3 5 1 0 ∷ tree 2 5 10 1 0 ∷ tree 7 10 13 2 0 ∷ tree 1 11 12 1 0 ∷ tree 9 13 15 1 0 ∷ tree 5 15 18 1 0 ∷ tree 6 18 19 1 0 ∷ []))
    (has_parts (part 16 1 1 ∷ part 16 5 1 ∷ part 92 2 2 ∷ part 91 0 4 ∷ part 4 6 1 ∷ part 13 7 2 ∷ part 20 8 7 ∷ []))
    (writes "try { } catch ( a ) { } /b/ ;\n") ∷
    marked "for(var a=b in c);" (has_trees (tree 2 0 3 1 0 ∷ tree 7 3 17 7 0 ∷ tree 2 4 7 1 0 ∷ tree 1 8 9 1 0 ∷ tree 6 9 10 1 0 ∷ tree 1 10 11 1 0 ∷ tree 2 12 14 1 0 ∷ tree 1 15 16 1 0 ∷ tree 6 17 18 1 0 ∷ []))
    (has_parts (part 1 5 1 ∷ part 75 3 2 ∷ part 74 2 3 ∷ part 1 7 1 ∷ part 76 8 1 ∷ part 81 0 6 ∷ part 20 9 7 ∷ []))
    (writes "for ( var a = b in c ) ;\n") ∷
    marked "do;while(a);try{}finally{}" (has_trees (tree 2 0 2 1 0 ∷ tree 6 2 3 1 0 ∷ tree 2 3 8 1 0 ∷ tree 7 8 11 2 0 ∷ tree 1 9 10 1 0 ∷ tree 6 11 12 1 0 ∷ tree 2 12 15 1 0 ∷ tree 9 15 17 1 0 ∷ tree 2 17 24 1 0 ∷ tree 9 24 26 1 0 ∷ []))
    (has_parts (part 76 1 1 ∷ part 1 4 1 ∷ part 78 0 3 ∷ part 16 7 1 ∷ part 16 9 1 ∷ part 93 8 2 ∷ part 91 6 4 ∷ part 20 10 8 ∷ []))
    (writes "do ; while ( a ) ; try { } finally { }\n") ∷
    marked "with(a)for(;;){break;continue;continue b;debugger;}" (has_trees (tree 2 0 4 1 0 ∷ tree 7 4 7 2 0 ∷ tree 1 5 6 1 0 ∷ tree 2 7 10 1 0 ∷ tree 7 10 14 3 0 ∷ tree 6 11 12 1 0 ∷ tree 6 12 13 1 0 ∷ tree 9 14 51 10 0 ∷ tree 2 15 20 1 0 ∷ tree 6 20 21 1 0 ∷ tree 2 21 29 1 0 ∷ tree 6 29 30 1 0 ∷ tree 2 30 38 1 0 ∷ tree 1 39 40 1 0 ∷ tree 6 40 41 1 0 ∷ tree 2 41 49 1 0 ∷ tree 6 49 50 1 0 ∷ []))
    (has_parts (part 1 2 1 ∷ part 84 8 1 ∷ part 82 10 1 ∷ part 83 12 1 ∷ part 94 15 1 ∷ part 16 7 5 ∷ part 80 3 6 ∷ part 86 0 8 ∷ part 20 17 9 ∷ []))
    (writes "with ( a ) for ( ; ; ) { break ; continue ; continue b ; debugger ; }\n") ∷
    marked "switch(a){default:break c;}" (has_trees (tree 2 0 6 1 0 ∷ tree 7 6 9 2 0 ∷ tree 1 7 8 1 0 ∷ tree 9 9 27 6 0 ∷ tree 2 10 17 1 0 ∷ tree 6 17 18 1 0 ∷ tree 2 18 23 1 0 ∷ tree 1 24 25 1 0 ∷ tree 6 25 26 1 0 ∷ []))
    (has_parts (part 1 2 1 ∷ part 85 6 1 ∷ part 89 4 2 ∷ part 87 0 4 ∷ part 20 9 5 ∷ []))
    (writes "switch ( a ) { default : break c ; }\n") ∷
    []
