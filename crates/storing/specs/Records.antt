-- Document 01, Records: the tree records of a text, "a group before its content".
use Rattle.std.specs.Prelude.{ℕ, ◌+◌, List, [], ◌++◌}
use Rattle.tables.specs.Records.{tree_record}
use Rattle.rule.specs.Trees.{Trees, none, leaf, group, count}

-- the records of trees
unfoldable pub records : Trees → List ℕ
records none = []
records (leaf before e) = records before ++ tree_record e.kind e.first e.end 1 e.newline
records (group before kind first end newline within) = records before ++ (tree_record kind first end (count within + 1) newline ++ records within)
