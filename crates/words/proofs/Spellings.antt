-- What antt computes over all words holds of a name that is one of them: so such a name is the spelling of the word of its number.
use mathlib.Core.Path.{◌≡◌, refl}
use mathlib.Core.List.{List, [], ◌∷◌}
use mathlib.Core.Bool.{Bool, true, false, cond}
use Prim.Native.Nat.{ℕ, ◌+◌}
use lib.Dec.{T}
use Rattle.text.specs.Runs.{same}
use Rattle.text.proofs.Laws.{same→eq}
use Rattle.text.proofs.Range.{and_left, and_right}
use Rattle.vocabulary.specs.Vocabulary.{Row, spelling, words, row_at}
use Rattle.vocabulary.proofs.RowLaws.{each_row}
use Rattle.words.specs.Words.{place_in, word_number}

-- a test that all words pass, each with its number
abbrev pub each_word : (ℕ → List ℕ → Bool) → ℕ → List Row → Bool
each_word test = each_row λ number row. test number (spelling row)

-- so does a name that is a word, with its number
module _ (test : ℕ → List ℕ → Bool) (name : List ℕ) where
  place_passed : (rows : List Row) (number : ℕ) → T (each_word test number rows) → (place_in name number rows ≡ 0 → ⊥) → T (test (place_in name number rows) name)
  unfolding place_in
  place_passed [] number t some = absurd (some refl)
  place_passed (row ∷ rows) number t some =
      go (same name (spelling row)) (λ t. t) (place_passed rows (number + 1) (and_right (test number (spelling row)) (each_word test (number + 1) rows) t)) some
    where
      go : (b : Bool) → (T b → T (same name (spelling row)))
          → ((place_in name (number + 1) rows ≡ 0 → ⊥) → T (test (place_in name (number + 1) rows) name))
          → (cond b number (place_in name (number + 1) rows) ≡ 0 → ⊥)
          → T (test (cond b number (place_in name (number + 1) rows)) name)
      go true is later some =
          rw (same→eq name (spelling row) (is tt)) (and_left (test number (spelling row)) (each_word test (number + 1) rows) t)
      go false is later some = later some

  pub word_passed : T (each_word test 1 words) → (word_number name ≡ 0 → ⊥) → T (test (word_number name) name)
  unfolding word_number
  word_passed t some = place_passed words 1 t some

pub word_spelled : (name : List ℕ) → (word_number name ≡ 0 → ⊥) → name ≡ spelling (row_at words (word_number name))
unfolding same row_at
word_spelled name some = same→eq name _ (word_passed (λ number w. same w (spelling (row_at words number))) name tt some)
