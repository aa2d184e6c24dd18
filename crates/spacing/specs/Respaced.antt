-- Document 01, Respacing: "Each element, closers included, is written as its bytes. Before it comes 0A if its record says line
-- end; else, and before every closer, one blank (none at the start). One 0A ends the output. Comments vanish."
use Rattle.std.specs.Prelude.{ℕ, ◌+◌, ◌-◌, Bool, cond, List, [], ◌∷◌, ◌++◌}
use Rattle.elements.specs.Lexemes.{bytes_of}
use Rattle.rule.specs.Trees.{Trees, none, leaf, group}

abbrev pub line_feed : ℕ
line_feed = 0x0A

abbrev pub space : ℕ
space = 0x20

-- what comes before an element that has a record, behind what is written so far: "0A if its record says line end; else .. one
-- blank (none at the start)"
abbrev pub separator : List ℕ → Bool → List ℕ
separator [] newline = cond newline (line_feed ∷ []) []
separator (b ∷ written) newline = cond newline (line_feed ∷ []) (space ∷ [])

-- an element that has a record: itself, or a group's opener
unfoldable pub add_element : List ℕ → List ℕ → ℕ → ℕ → Bool → List ℕ
add_element text written first end newline = written ++ (separator written newline ++ bytes_of text first end)

-- a closer: "before every closer, one blank"
unfoldable pub add_closer : List ℕ → List ℕ → ℕ → ℕ → List ℕ
add_closer text written first end = written ++ (space ∷ bytes_of text first end)

-- trees behind what is written so far
unfoldable pub add_trees : List ℕ → List ℕ → Trees → List ℕ
add_trees text written none = written
add_trees text written (leaf before e) = add_element text (add_trees text written before) e.first e.end e.newline
add_trees text written (group before kind first end newline within) =
    add_closer text (add_trees text (add_element text (add_trees text written before) first (first + 1) newline) within) (end - 1) end

-- the respaced text
abbrev pub respaced : List ℕ → Trees → List ℕ
respaced text trees = add_trees text [] trees ++ (line_feed ∷ [])
