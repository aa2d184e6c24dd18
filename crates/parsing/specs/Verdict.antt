-- Demand 3: what its statements over the parser's answers say (`parsing/proofs/Theorems.antt`).
use Rattle.std.specs.Prelude.{ℕ, ◌*◌, ◌/◌, ◌<◌, ◌≡◌, List, [], ◌∷◌, ◌++◌, length, take, drop, replicate}
use Rattle.answers.specs.declared.Answer.{Answer}
use Rattle.elements.specs.declared.Element.{Element}
use Rattle.rule.specs.Trees.{Trees}
use Rattle.prefix.specs.Reading.{accepted, refused}
use Rattle.reading.specs.Read.{reading_for, table_after}
use Rattle.tables.specs.Records.{tree_width, syntax_width}
use Rattle.machine.specs.Syntax.{Syntax, size, syntax_records}
use Rattle.derivations.specs.Derivations.{Derivation, count_trees, syntax_tree, BeginsProgram}
use Rattle.derivations.specs.TreeElements.{elements_of}
use Rattle.shown.specs.Shown.{Shown}
use Rattle.parsing.specs.Limits.{WithinLimits, LongEnough}
use Rattle.parsing.specs.Parse.{no_program, syntax_full, Parsing, program, denied, answer_of, trees_after, syntax_after}

-- where the elements of a text that is no program are refused: at the first with which those so far begin none; or at the text's end, where all of
-- them begin one
pub data Refuses (text : List ℕ) (es : List Element) : ℕ → Type 0 where
  at_element : (firsts : List Element) (e : Element) (rest : List Element) → es ≡ firsts ++ (e ∷ rest)
      → BeginsProgram text firsts → (BeginsProgram text (firsts ++ (e ∷ [])) → ⊥) → Refuses text es e.first
  at_end : BeginsProgram text es → Refuses text es (length text)

-- "the parser accepts exactly the texts with a derivation within the limits and tables": the trees are the reader's, with the
-- derivation's elements, and the syntax tree is the derivation's
pub record Accepts (text : List ℕ) (tree_cells syntaxCells : ℕ) (trees : Trees) (syntax : Syntax) : Type 0 where
  pub derivation : Derivation text
  pub limits : WithinLimits derivation
  pub tables : LongEnough derivation tree_cells syntaxCells
  pub reads : reading_for text tree_cells ≡ accepted trees
  pub same_elements : elements_of trees ≡ derivation.elements
  pub same_syntax : syntax ≡ syntax_tree derivation

-- 13, after a full reading: at the first element with which the elements so far begin no program, or at the text's length; the text
-- has no derivation
pub record NoProgram (text : List ℕ) (tree_cells place : ℕ) : Type 0 where
  pub trees : Trees
  pub reads : reading_for text tree_cells ≡ accepted trees
  pub first : Refuses text (elements_of trees) place
  pub none : Derivation text → ⊥

-- 14, after a full reading: the text has a derivation, and its syntax tree has more records than the table has room for (16,385 are
-- never too few)
pub record SyntaxFull (text : List ℕ) (tree_cells syntaxCells : ℕ) : Type 0 where
  pub trees : Trees
  pub reads : reading_for text tree_cells ≡ accepted trees
  pub derivation : Derivation text
  pub same_elements : elements_of trees ≡ derivation.elements
  pub more : syntaxCells / syntax_width < size (syntax_tree derivation)

-- what parsing answers, by derivations and the reading
pub data Verdict (text : List ℕ) (tree_cells syntaxCells : ℕ) : Parsing → Type 0 where
  as_read : {number place : ℕ} → reading_for text tree_cells ≡ refused number place → Verdict text tree_cells syntaxCells (denied number place)
  no-program : {place : ℕ} → NoProgram text tree_cells place → Verdict text tree_cells syntaxCells (denied no_program place)
  syntax-full : SyntaxFull text tree_cells syntaxCells → Verdict text tree_cells syntaxCells (denied syntax_full (length text))
  accepts : {trees : Trees} {syntax : Syntax} → Accepts text tree_cells syntaxCells trees syntax → Verdict text tree_cells syntaxCells (program trees syntax)

-- what the call answers and leaves, of an accepted text: the count of the derivation's syntax records, these records and then the
-- old cells, and the tree cells that reading leaves, whose records show the derivation's regular expressions, words, objects and blocks, `++` and `--` before and after, and `:` of conditionals, each record at its element's
-- index
pub record Left (text trees syntax : List ℕ) (d : Derivation text) (parsing : Parsing) : Type 0 where
  pub counts : answer_of parsing ≡ Answer.Accepted (size (syntax_tree d))
  pub tree-cells : trees_after parsing trees ≡ table_after (reading_for text (length trees)) trees
  pub shown : Shown d (take (tree_width * count_trees d.elements) (trees_after parsing trees))
  pub syntax_cells : syntax_after parsing syntax ≡ syntax_records (syntax_tree d) ++ drop (syntax_width * size (syntax_tree d)) syntax

-- the same of the call, by its answer and its two tables, before and after: what it accepts has a derivation within the limits and tables, whose
-- syntax records are counted and written, and which the tree records show; what it refuses has none such, and the verdict of a refusal, and every
-- cell is 0
pub data CallVerdict (text trees syntax treesLeft syntaxLeft : List ℕ) : Answer → Type 0 where
  call_accepts : (d : Derivation text) → WithinLimits d → LongEnough d (length trees) (length syntax)
      → treesLeft ≡ table_after (reading_for text (length trees)) trees → Shown d (take (tree_width * count_trees d.elements) treesLeft)
      → syntaxLeft ≡ syntax_records (syntax_tree d) ++ drop (syntax_width * size (syntax_tree d)) syntax
      → CallVerdict text trees syntax treesLeft syntaxLeft (Answer.Accepted (size (syntax_tree d)))
  call_refuses : {number place : ℕ} → Verdict text (length trees) (length syntax) (denied number place)
      → ((d : Derivation text) → WithinLimits d → LongEnough d (length trees) (length syntax) → ⊥)
      → treesLeft ≡ replicate (length trees) 0 → syntaxLeft ≡ replicate (length syntax) 0
      → CallVerdict text trees syntax treesLeft syntaxLeft (Answer.Refused number place)
