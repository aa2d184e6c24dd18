-- Demand 2: a respaced text is read with the same trees but for positions.
use Rattle.std.specs.Prelude.{ℕ, ◌+◌, ◌-◌, ◌*◌, ◌≡◌, Bool, List, [], ◌∷◌, length, take}
use Rattle.answers.specs.declared.Answer.{Answer}
use Rattle.elements.specs.declared.Element.{Element}
use Rattle.rule.specs.Trees.{Trees, none, leaf, group, count}
use Rattle.prefix.specs.Reading.{Reading, accepted, refused}
use Rattle.tables.specs.Records.{tree_width}
use Rattle.reading.specs.Read.{reading_for, answer_of, table_after}
use Rattle.elements.specs.Lexemes.{bytes_of, SameElement}
use Rattle.spacing.specs.Respaced.{respaced}

-- trees of a text and trees of another are the same but for positions: the same elements in the same order, and groups with the
-- same kind, the same newline flag, the same bytes of opener and closer, and insides that are the same but for positions
pub data Alike (text again : List ℕ) : Trees → Trees → Type 0 where
  alike_none : Alike text again none none
  alike_leaf : {before earlier : Trees} {e other : Element} → Alike text again before earlier → SameElement text again e other
      → Alike text again (leaf before e) (leaf earlier other)
  alike_group : {before earlier within inner : Trees} {kind first start end stop : ℕ} {newline : Bool}
      → Alike text again before earlier
      → bytes_of text first (first + 1) ≡ bytes_of again start (start + 1)
      → Alike text again within inner
      → bytes_of text (end - 1) end ≡ bytes_of again (stop - 1) stop
      → Alike text again (group before kind first end newline within) (group earlier kind start stop newline inner)

-- a reading of the respaced text is accepted, with the same trees but for positions
pub record Kept (text : List ℕ) (trees : Trees) (answer : Reading) : Type 0 where
  pub kept : Trees
  pub reads : answer ≡ accepted kept
  pub alike : Alike text (respaced text trees) trees kept

-- the numbers of tree records that are no positions: the first, the fourth and the fifth of each
abbrev pub without_places : List ℕ → List ℕ
without_places [] = []
without_places (kind ∷ []) = []
without_places (kind ∷ first ∷ []) = []
without_places (kind ∷ first ∷ end ∷ []) = []
without_places (kind ∷ first ∷ end ∷ number ∷ []) = []
without_places (kind ∷ first ∷ end ∷ number ∷ newline ∷ rest) = kind ∷ number ∷ newline ∷ without_places rest

-- the cells of the records that a reading leaves in a table
abbrev pub record_cells : Reading → List ℕ → List ℕ
record_cells (accepted trees) table = take (tree_width * count trees) (table_after (accepted trees) table)
record_cells (refused number place) table = []

-- what `read` makes of a text and of the bytes that `respace` wrote of it, with the same table: the same answer, the same trees but for
-- positions, and the same cells of records but for positions
pub record RoundTrip (text bytes table : List ℕ) (trees : Trees) : Type 0 where
  pub kept : Trees
  pub reads : reading_for bytes (length table) ≡ accepted kept
  pub alike : Alike text bytes trees kept
  pub same_answer : answer_of (reading_for bytes (length table)) ≡ answer_of (reading_for text (length table))
  pub same_cells : without_places (record_cells (reading_for bytes (length table)) table) ≡ without_places (record_cells (reading_for text (length table)) table)

-- what `read` answers and leaves of the bytes that `respace` wrote, where of the text itself it answered `count` and left `left`: the same answer,
-- and the same cells of records but for positions
pub record SameLeft (count : ℕ) (left : List ℕ) (answer : Answer) (other : List ℕ) : Type 0 where
  pub same_answer : answer ≡ Answer.Accepted count
  pub same_cells : without_places (take (tree_width * count) other) ≡ without_places (take (tree_width * count) left)
