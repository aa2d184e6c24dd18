-- Document 01, Elements: "the longest of the 48 signs of ES5.1 section 7.7 is taken." By document 02, U4, all are legal. The signs, which is document
-- 01's word for the punctuators of ES5.1, are those of the vocabulary.
use Rattle.std.specs.Prelude.{ℕ, ◌+◌, List, [], ◌∷◌, Bool, cond, ◌&&◌, ltb, length, take, Option, None, Some}
use Rattle.text.specs.Runs.{same}
use Rattle.vocabulary.specs.Vocabulary.{Row, spelling}
pub use Rattle.vocabulary.specs.Vocabulary.{signs}
use Rattle.signs.specs.declared.Sign.{Sign}

-- a text starts with these bytes
abbrev pub starts_with : List ℕ → List ℕ → Bool
starts_with p s = same p (take (length p) s)

-- a sign that was found, by its number and length
abbrev pub found : ℕ → ℕ → Option Sign
found number n = Some (record { number = number; len = n })

-- the length of the sign found so far
abbrev pub size : Option Sign → ℕ
size None = 0
size (Some sign) = sign.len

-- the longer of the sign found so far and the sign of that number, if the text starts with it
abbrev pub longer : List ℕ → ℕ → Option Sign → Row → Option Sign
longer s number best g =
    cond (ltb (size best) (length (spelling g)) && starts_with (spelling g) s) (found number (length (spelling g))) best

-- the longest, among signs of which the first has that number, that a text starts with
unfoldable pub longest_of : List ℕ → ℕ → Option Sign → List Row → Option Sign
longest_of s number best [] = best
longest_of s number best (g ∷ gs) = longest_of s (number + 1) (longer s number best g) gs

-- "the longest of the 48 signs": its number, which is its place among the 48 from 1, and its length
unfoldable pub longest_sign : List ℕ → Option Sign
longest_sign s = longest_of s 1 None signs
