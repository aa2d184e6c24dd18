-- Document 01, Grammar: the limits of a derivation, and tables that are long enough for it.
use Rattle.std.specs.Prelude.{ℕ, ◌/◌, ◌≤◌, List, length}
use Rattle.tables.specs.Records.{tree_width, most_trees, syntax_width, most_syntax}
use Rattle.reading.specs.Read.{most_bytes, most_groups}
use Rattle.machine.specs.Syntax.{size}
use Rattle.derivations.specs.Derivations.{Derivation, count_trees, syntax_tree, deepest_from}

-- "A derivation is within the limits if its text has at most 262,144 bytes, at most 16,384 of its elements are not closers, its
-- syntax tree has at most 16,385 records, and no opener stands inside 100 open groups."
pub record WithinLimits {text : List ℕ} (d : Derivation text) : Type 0 where
  pub few_bytes : length text ≤ most_bytes
  pub few_trees : count_trees d.elements ≤ most_trees
  pub few_parts : size (syntax_tree d) ≤ most_syntax
  pub shallow : deepest_from 0 d.elements ≤ most_groups

-- "Tables are long enough for it if the tree table has room for as many records as the derivation has elements other than closers,
-- and the syntax table for as many as its syntax tree has": tables of so many numbers
pub record LongEnough {text : List ℕ} (d : Derivation text) (tree_cells syntaxCells : ℕ) : Type 0 where
  pub trees_fit : count_trees d.elements ≤ tree_cells / tree_width
  pub parts_fit : size (syntax_tree d) ≤ syntaxCells / syntax_width
