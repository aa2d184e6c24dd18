-- Document 01, Elements: "The 36 reserved words of ES5.1 section 7.6.1 are compared byte for byte. Taken here: `return`,
-- `function`, `if`." and, by document 02, U4, the word operators and `this`, `null`, `true`, `false`, and, by U6, all others but "the seven future words".
-- The words are those of the vocabulary.
use Rattle.std.specs.Prelude.{ℕ, ◌+◌, List, [], ◌∷◌, Bool, cond}
use Rattle.text.specs.Runs.{same}
use Rattle.vocabulary.specs.Vocabulary.{Row, spelling, is_taken, row_at}
pub use Rattle.vocabulary.specs.Vocabulary.{words}

-- the place of a name among words of which the first has the place n; 0 where it is none of them
unfoldable pub place_in : List ℕ → ℕ → List Row → ℕ
place_in name n [] = 0
place_in name n (w ∷ ws) = cond (same name (spelling w)) n (place_in name (n + 1) ws)

-- the number of a reserved word: its place among the 36, from 1; 0 where the name is no reserved word
unfoldable pub word_number : List ℕ → ℕ
word_number name = place_in name 1 words

-- "Taken here": whether the word of that number is taken
unfoldable pub taken : ℕ → Bool
unfolding row_at
taken n = is_taken (row_at words n)
