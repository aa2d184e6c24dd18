-- The run of the words, and how a name's number is found in it: laws that antt computes over all words, or at each place.
use mathlib.Core.Path.{◌≡◌, refl, sym, ◌∙◌}
use mathlib.Core.List.{List}
use mathlib.Core.Bool.{Bool, true, false, false≢true, not, ◌||◌}
use Prim.Native.Nat.{ℕ, ◌+◌, ◌%◌, ◌^◌, ◌≤◌, ◌<◌}
use native.Mathlib.Nat.{zero-div}
use native.Mathlib.Omega.{arith}
use borrow.Author.Tests.{eq-eqb}
use lib.Bits.{and_zero_l}
use lib.Dec.{T, eqb, leb, eqb→eq, leb→le}
use lib.ListN.{length, get_or, take, drop}
use Rattle.text.specs.Runs.{same}
use Rattle.text.proofs.Laws.{same→eq, same_self}
use Rattle.text.proofs.Range.{and_left, and_right, within}
use Rattle.vocabulary.specs.Vocabulary.{words, row_at}
use Rattle.words.specs.Words.{place_in, word_number}
use Rattle.words.specs.Machinery.Run.{word, word_letters, word_lengths, letters_before, bit_at, admits, slot_of_name, numbers}
use Rattle.words.proofs.Spellings.{each_word, word_passed, word_spelled}

-- the lengths of the words
abbrev pub is_length : ℕ → Bool
is_length len = eqb len 2 || eqb len 3 || eqb len 4 || eqb len 5 || eqb len 6 || eqb len 7 || eqb len 8 || eqb len 10

-- a name that is a word
module _ (name : List ℕ) (some : word_number name ≡ 0 → ⊥) where
  pub word_length : T (is_length (length name))
  word_length = word_passed (λ number w. is_length (length w)) name tt some

  pub word_long : 2 ≤ length name
  word_long = leb→le 2 (length name) (word_passed (λ number w. leb 2 (length w)) name tt some)

  -- the number at its slot is its own
  pub number_at_slot : get_or numbers (slot_of_name name) 0 ≡ word_number name
  unfolding numbers
  number_at_slot = eqb→eq _ _ (word_passed (λ number w. eqb (get_or numbers (slot_of_name w) 0) number) name tt some)

-- initials that all words of a length have
pub words_admitted : (len initials : ℕ) → T (each_word (λ number w. not (eqb (length w) len) || admits initials w) 1 words)
    → (name : List ℕ) → (word_number name ≡ 0 → ⊥) → length name ≡ len → T (admits initials name)
words_admitted len initials t name some e =
    rw (eq-eqb (length name) len e) at (word_passed (λ number w. not (eqb (length w) len) || admits initials w) name t some)

-- what initials tell of a name
module _ (initials : ℕ) (name : List ℕ) (t : T (admits initials name)) where
  abbrev first : Bool
  first = eqb (bit_at initials (get_or name 0 0 % 64)) 1

  abbrev second : Bool
  second = eqb (bit_at initials (get_or name 1 0 % 32)) 1

  pub first_admitted : bit_at initials (get_or name 0 0 % 64) ≡ 1
  first_admitted = eqb→eq _ _ (and_left first second t)

  pub second_admitted : eqb (bit_at initials (get_or name 1 0 % 32)) 1 ≡ true
  second_admitted = eq-eqb (bit_at initials (get_or name 1 0 % 32)) 1 (eqb→eq (bit_at initials (get_or name 1 0 % 32)) 1 (and_right first second t))

pub no_bit : (initials place : ℕ) → initials ≡ 0 → bit_at initials place ≡ 0
no_bit initials place e = rw (e, zero-div (2 ^ place)) (and_zero_l 1)

-- a name that cannot be a word is none
pub no_word : (name : List ℕ) → ((word_number name ≡ 0 → ⊥) → ⊥) → 0 ≡ word_number name
no_word name none = go (eqb (word_number name) 0) refl
  where
    go : (b : Bool) → eqb (word_number name) 0 ≡ b → 0 ≡ word_number name
    go true e = sym (eqb→eq (word_number name) 0 (rw e tt))
    go false e = absurd (none λ is. false≢true (sym e ∙ eq-eqb (word_number name) 0 is))

-- a name is none either where it is another than the word of the only number that it could have
pub other_word : (name : List ℕ) (number : ℕ) → ((word_number name ≡ 0 → ⊥) → number ≡ word_number name) → same name (word number) ≡ false
    → 0 ≡ word_number name
other_word name number own differ = no_word name λ some. false≢true (sym differ ∙ rw (own some, sym (word_spelled name some)) (same_self name))

-- the word of a number has that number
pub word_numbered : (number : ℕ) → 1 ≤ number → number ≤ 36 → word_number (word number) ≡ number
unfolding word_number place_in row_at same
word_numbered number h k = eqb→eq _ _ (within (λ n. eqb (word_number (word n)) n) 1 36 number tt h k)

-- a number at a slot is at most 36
pub number_within : (place : ℕ) → place < 64 → get_or numbers place 0 ≤ 36
unfolding numbers
number_within place h = leb→le _ 36 (within (λ k. leb (get_or numbers k 0) 36) 0 63 place tt (omega arith) (omega arith))

-- the run has 36 words and 181 letters
pub lengths_many : length word_lengths ≡ 36
unfolding word_lengths
lengths_many = refl

pub letters_many : length word_letters ≡ 181
unfolding word_letters
letters_many = refl

-- the word at an index of the run
module _ (index : ℕ) (h : index < 36) where
  -- its letters stand behind those before it, and before those of the next word
  pub letters_more : letters_before (index + 1) ≡ letters_before index + get_or word_lengths index 0
  unfolding letters_before word_lengths
  letters_more =
      eqb→eq _ _ (within (λ k. eqb (letters_before (k + 1)) (letters_before k + get_or word_lengths k 0)) 0 35 index tt (omega arith) (omega arith))

  pub letters_within : letters_before index + get_or word_lengths index 0 ≤ 181
  unfolding letters_before word_lengths
  letters_within = leb→le _ 181 (within (λ k. leb (letters_before k + get_or word_lengths k 0) 181) 0 35 index tt (omega arith) (omega arith))

  -- and they spell it
  pub word_cut : take (get_or word_lengths index 0) (drop (letters_before index) word_letters) ≡ word (index + 1)
  unfolding letters_before word_lengths word_letters row_at same
  word_cut =
      same→eq _ _
      (within (λ k. same (take (get_or word_lengths k 0) (drop (letters_before k) word_letters)) (word (k + 1))) 0 35 index tt (omega arith) (omega arith))
