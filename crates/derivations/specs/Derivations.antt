-- Document 01, Grammar: "A derivation of a text is a choice together with grammar steps. With that choice the rules under
-- Elements cut the whole text into elements and blanks .. The steps lead from Program to exactly these elements, closers
-- included. A derivation settles no slash by the prefix rule. A text with a derivation is a program." Nor does it settle a brace, `++`, `--`, `:` or a reserved
-- word by that rule: a reserved word is taken as a word or as a name by its choice, and the others by its steps (Grammar.antt).
use Rattle.std.specs.Prelude.{ℕ, ◌+◌, ◌-◌, max, ◌≡◌, Bool, cond, ◌&&◌, ◌||◌, List, [], ◌∷◌, ◌++◌, eqb}
use Rattle.elements.specs.Elements.{delimiter_kind, paren_opener, brace_opener, bracket_opener}
use Rattle.elements.specs.Lexemes.{SameElement}
use Rattle.elements.specs.declared.Element.{Element}
use Rattle.derivations.specs.Cuts.{is_closer, Cuts}
use Rattle.derivations.specs.Tokens.{tokens}
use Rattle.machine.specs.Syntax.{Syntax, program_tree}
use Rattle.grammar.specs.Grammar.{Program}

pub record Derivation (text : List ℕ) : Type 0 where
  pub choice : List Bool
  pub elements : List Element
  pub cut : Cuts text 0 choice elements
  pub parts : Syntax
  pub steps : Program (tokens elements) parts

-- "its elements other than closers": the number of its tree records
abbrev pub count_trees : List Element → ℕ
count_trees [] = 0
count_trees (e ∷ es) = cond (is_closer e) 0 1 + count_trees es

-- "The syntax tree of a derivation is the list of its syntax records, one for each part that Records names": a tree here, whose list
-- is `syntax_records`. The program's own record is one of them
abbrev pub syntax_tree : {text : List ℕ} → Derivation text → Syntax
syntax_tree d = program_tree (count_trees d.elements) d.parts

-- groups that are open behind an element, where so many are open before it
abbrev pub open_after : ℕ → Element → ℕ
open_after depth e =
    cond (eqb e.kind delimiter_kind && (eqb e.which paren_opener || eqb e.which brace_opener || eqb e.which bracket_opener)) (depth + 1)
    (cond (is_closer e) (depth - 1) depth)

-- the most groups that are open at once
abbrev pub deepest_from : ℕ → List Element → ℕ
deepest_from depth [] = depth
deepest_from depth (e ∷ es) = max depth (deepest_from (open_after depth e) es)

-- elements of two texts that are the same but for positions
pub data SameElements (text other : List ℕ) : List Element → List Element → Type 0 where
  no_elements : SameElements text other [] []
  same_element : {e f : Element} {es fs : List Element} → SameElement text other e f → SameElements text other es fs
      → SameElements text other (e ∷ es) (f ∷ fs)

-- elements of a text begin a program, "limits aside": some text has a derivation whose elements start with these
pub record BeginsProgram (text : List ℕ) (es : List Element) : Type 0 where
  pub other : List ℕ
  pub derivation : Derivation other
  pub firsts : List Element
  pub more : List Element
  pub starts : derivation.elements ≡ firsts ++ more
  pub same : SameElements text other es firsts
