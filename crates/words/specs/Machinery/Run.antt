-- The reserved words as one run of their letters with their lengths, and how a name's number is found in it. Machinery: no public contract
-- cites it.
use Rattle.std.specs.Prelude.{ℕ, zero, suc, ◌+◌, ◌*◌, ◌/◌, ◌%◌, ◌^◌, List, [], ◌∷◌, ◌++◌, Bool, cond, ◌&&◌, eqb, length, get_or, Option, None, Some}
use Rattle.std.specs.Int.Bits.{bit_and}
use Rattle.vocabulary.specs.Vocabulary.{Row, spelling, words, row_at}

-- the word of a number
abbrev pub word : ℕ → List ℕ
word number = spelling (row_at words number)

abbrev pub letters_of : List Row → List ℕ
letters_of [] = []
letters_of (row ∷ rows) = spelling row ++ letters_of rows

abbrev pub lengths_of : List Row → List ℕ
lengths_of [] = []
lengths_of (row ∷ rows) = length (spelling row) ∷ lengths_of rows

-- the letters of the words, word by word, and how many of them each word has
unfoldable pub word_letters : List ℕ
word_letters = letters_of words

unfoldable pub word_lengths : List ℕ
word_lengths = lengths_of words

-- the sum of the first numbers of a list
abbrev pub sum_of : List ℕ → ℕ → ℕ
sum_of [] k = 0
sum_of (n ∷ ns) zero = 0
sum_of (n ∷ ns) (suc k) = n + sum_of ns k

-- how many letters stand before the word at an index, from 0
unfoldable pub letters_before : ℕ → ℕ
letters_before index = sum_of word_lengths index

-- the bit of a number at a place
abbrev pub bit_at : ℕ → ℕ → ℕ
bit_at bits place = bit_and (bits / (2 ^ place)) 1

-- initials have the bits of a name's first two letters: those of small letters are in the upper half for the first, in the lower half for the
-- second
abbrev pub admits : ℕ → List ℕ → Bool
admits initials name = eqb (bit_at initials (get_or name 0 0 % 64)) 1 && eqb (bit_at initials (get_or name 1 0 % 32)) 1

-- a name's slot, by its length and first two letters
abbrev pub slot_of : ℕ → ℕ → ℕ → ℕ
slot_of len first second = (4 * len + 113 * first + 87 * second) / 2 % 64

abbrev pub slot_of_name : List ℕ → ℕ
slot_of_name name = slot_of (length name) (get_or name 0 0) (get_or name 1 0)

-- the number of the word that has a slot, of words of which the first has the number n; 0 where none has it
abbrev pub number_in : ℕ → ℕ → List Row → ℕ
number_in at n [] = 0
number_in at n (row ∷ rows) = cond (eqb (slot_of_name (spelling row)) at) n (number_in at (n + 1) rows)

-- the numbers at `many` slots, from `at` on
abbrev pub numbers_from : ℕ → ℕ → List ℕ
numbers_from at zero = []
numbers_from at (suc many) = number_in at 1 words ∷ numbers_from (at + 1) many

-- the number at a slot, which is 0 where no word has it
abbrev pub option_of : ℕ → Option ℕ
option_of zero = None
option_of (suc n) = Some (suc n)

-- the numbers at the 64 slots
unfoldable pub numbers : List ℕ
numbers = numbers_from 0 64
