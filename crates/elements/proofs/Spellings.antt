-- The bytes of a reserved word or sign that is found are the spelling of its row, which is taken.
use Rattle.std.specs.Prelude.{Result, Ok, Err, Some, None, Option}
use Rattle.signs.proofs.Laws.{longest_fits}
use mathlib.Core.Path.{◌≡◌, refl}
use mathlib.Core.List.{List, [], ◌∷◌}
use mathlib.Core.Bool.{Bool, true, false, cond, ◌&&◌, ◌||◌}
use Prim.Native.Nat.{ℕ, ◌+◌, ◌-◌, ◌<◌, ◌≤◌}
use native.Mathlib.Omega.{arith}
use borrow.Author.Tests.{eqb-false, lt-leb}
use lib.Dec.{T, eqb, leb}
use lib.ListN.{length, get_or, take, drop}
use lib.Seq.{get_or-take, get_or-drop}
use Rattle.text.specs.Quoted.{byte}
use Rattle.text.specs.Bytes.{letter, name_byte}
use Rattle.text.specs.Runs.{run}
use Rattle.vocabulary.specs.Vocabulary.{Row, words, signs, spelling, is_taken, row_at}
use Rattle.vocabulary.proofs.RowLaws.{each_taken, at_taken, at_row}
use Rattle.words.specs.Words.{word_number, taken}
use Rattle.words.proofs.Spellings.{word_spelled}
use Rattle.signs.specs.Signs.{longest_sign}
use Rattle.signs.specs.declared.Sign.{Sign}
use Rattle.signs.proofs.Spellings.{longest_spelled}
use Rattle.answers.specs.declared.faults.Fault.{Fault}
use Rattle.numbers.specs.Numbers.{starts_number, number_from}
use Rattle.literals.specs.Strings.{quote, string_rest}
use Rattle.literals.specs.Patterns.{pattern_rest}
use Rattle.elements.specs.Elements.{
  literal_element,
  named,
  delimiter,
  sign_or_stray,
  element_from,
  element_at,
  delimiter_kind,
  word_kind,
  number_kind,
  string_kind,
  pattern_kind,
  sign_kind,
}
use Rattle.elements.specs.Lexemes.{lexeme_of}
use Rattle.elements.specs.declared.Element.{Element}
use Rattle.elements.specs.Elements.{Next}
use Rattle.elements.specs.declared.Stated.{Stated}
use Rattle.elements.proofs.Choices.{cond_both, cond_known}
use Rattle.elements.proofs.Bounds.{found_placed}
use Rattle.elements.proofs.OwnBytes.{found_gap}
use Rattle.elements.proofs.LexemeLaws.{found_lexeme}

-- bytes that are the spelling of the row of a number, which is taken
pub record Spelled (rows : List Row) (own : List ℕ) (number : ℕ) : Type 0 where
  pub spelled : own ≡ spelling (row_at rows number)
  pub taken : is_taken (row_at rows number) ≡ true

-- an element's own bytes are the first of s
record ElementSpelled (s : List ℕ) (e : Element) : Type 0 where
  word : e.kind ≡ word_kind → Spelled words (take (e.end - e.first) s) e.which
  sign : e.kind ≡ sign_kind → Spelled signs (take (e.end - e.first) s) e.which
  apart : e.kind ≡ sign_kind → delimiter e.which ≡ false

abbrev NextSpelled : List ℕ → Next → Type 0
NextSpelled s (Ok None) = Unit {0}
NextSpelled s (Ok (Some e)) = ElementSpelled s e
NextSpelled s (Err fault) = Unit {0}

-- neither a word nor a sign
other_spelled : (s : List ℕ) (e : Element) → (e.kind ≡ word_kind → ⊥) → (e.kind ≡ sign_kind → ⊥) → ElementSpelled s e
other_spelled s e w g = record { word = λ k. absurd (w k); sign = λ k. absurd (g k); apart = λ k. absurd (g k) }

neither : (a b : Bool) → (a || b) ≡ false → a ≡ false
neither true b h = h
neither false b h = refl

-- all signs are taken
sign_taken : (number : ℕ) → 1 ≤ length (spelling (row_at signs number)) → is_taken (row_at signs number) ≡ true
sign_taken number h =
    one (leb (length (spelling (row_at signs number))) 0) (is_taken (row_at signs number)) (lt-leb (length (spelling (row_at signs number))) 0 h)
    (at_row (λ n row. leb (length (spelling row)) 0 || is_taken row) signs tt number tt)
  where
    one : (a b : Bool) → a ≡ false → T (a || b) → b ≡ true
    one true b e t = absurd (let z : ◌≡◌ {A = ℕ} 0 1 = cc in omega arith)
    one false true e t = refl
    one false false e t = absurd t

module _ (newline : Bool) (first : ℕ) (s : List ℕ) where
  literal_spelled : (kind : ℕ) → (kind ≡ word_kind → ⊥) → (kind ≡ sign_kind → ⊥) → (l : Result ℕ Fault) → NextSpelled s (literal_element kind newline first l)
  literal_spelled kind w g (Ok end) = other_spelled s _ w g
  literal_spelled kind w g (Err fault) = tt

  named_spelled : (asName : Bool) → NextSpelled s (named asName newline first s)
  unfolding named taken
  named_spelled asName =
      let n = run name_byte s in
      let number = word_number (take n s) in
      let whole : first + n - first ≡ n = omega arith in
      cond_known (NextSpelled s) (eqb number 0 || asName) (λ named. other_spelled s _ (λ k. omega arith) (λ k. omega arith)) λ some.
      cond_known (NextSpelled s) (taken number)
      (λ is. record {
        word = λ k. rw whole (record { spelled = word_spelled (take n s) (eqb-false number 0 (neither (eqb number 0) asName some)); taken = is });
        sign = λ k. absurd (omega arith);
        apart = λ k. absurd (omega arith);
      })
      (λ barred. tt)

  sign_spelled : (l : Option Sign) → longest_sign s ≡ l → NextSpelled s (sign_or_stray newline first l)
  sign_spelled None e = tt
  sign_spelled (Some sign) e =
      let is = longest_spelled s sign e in
      let whole : first + sign.len - first ≡ sign.len = omega arith in
      record {
        word = λ k. absurd (no_word (delimiter sign.number) k);
        sign = λ k. rw whole (record { spelled = is.own; taken = sign_taken sign.number (rw (← is.long) (longest_fits s sign e).0) });
        apart = λ k. no_delimiter (delimiter sign.number) k;
      }
    where
      no_word : (d : Bool) → cond d delimiter_kind sign_kind ≡ word_kind → ⊥
      no_word true k = omega arith
      no_word false k = omega arith

      no_delimiter : (d : Bool) → cond d delimiter_kind sign_kind ≡ sign_kind → d ≡ false
      no_delimiter true k = absurd (omega arith)
      no_delimiter false k = refl

from_spelled : (stated : Stated) (newline : Bool) (first : ℕ) (s : List ℕ) → NextSpelled s (element_from stated newline first s)
unfolding element_from
from_spelled stated newline first [] = tt
from_spelled stated newline first (b ∷ t) =
    let s = b ∷ t in
    let P = NextSpelled s in
    cond_both P (letter b) (named_spelled newline first s stated.name)
    (cond_both P (starts_number s) (literal_spelled newline first s number_kind (λ k. omega arith) (λ k. omega arith) (number_from first s))
    (cond_both P (quote b) (literal_spelled newline first s string_kind (λ k. omega arith) (λ k. omega arith) (string_rest b first false (first + 1) t))
    (cond_both P (stated.pattern && eqb b (byte "/")) (literal_spelled newline first s pattern_kind (λ k. omega arith) (λ k. omega arith) (pattern_rest first false false (first + 1) t))
    (sign_spelled newline first s (longest_sign s) refl))))

-- a test of a row's length, its first and last bytes, and its number
abbrev pub by_ends : (ℕ → ℕ → ℕ → ℕ → Bool) → ℕ → Row → Bool
by_ends test number row = test (length (spelling row)) (get_or (spelling row) 0 0) (get_or (spelling row) (length (spelling row) - 1) 0) number

module _ (s : List ℕ) (place : ℕ) (stated : Stated) (e : Element) (found : element_at s place stated ≡ Ok (Some e)) where
  found_spelled : ElementSpelled (drop e.first s) e
  found_spelled = rw (found_gap s place stated e found).1 at (from_spelled stated e.newline e.first (drop e.first s))

  pub word_spelling : e.kind ≡ word_kind → Spelled words (lexeme_of s e) e.which
  word_spelling k = found_spelled.word k

  pub sign_spelling : e.kind ≡ sign_kind → Spelled signs (lexeme_of s e) e.which
  sign_spelling k = found_spelled.sign k

  pub sign_which : e.kind ≡ sign_kind → delimiter e.which ≡ false
  sign_which k = found_spelled.apart k

  -- what a test says of each row that is taken, it says of the bytes that such a row spells
  row_passes : (test : ℕ → ℕ → ℕ → ℕ → Bool) (rows : List Row) → T (each_taken (by_ends test) rows) → Spelled rows (lexeme_of s e) e.which
      → T (test (e.end - e.first) (get_or s e.first 0) (get_or s (e.end - 1) 0) e.which)
  row_passes test rows t is =
      let placed = found_placed s place stated e found in
      let some : 0 < e.end - e.first = omega (arith, placed) in
      let last : e.end - e.first - 1 < e.end - e.first = omega arith in
      let at : e.first + 0 ≡ e.first = omega arith in
      let end : e.first + (e.end - e.first - 1) ≡ e.end - 1 = omega (arith, placed) in
      rw (
        ← is.spelled,
        found_lexeme s place stated e found,
        get_or-take (e.end - e.first) (drop e.first s) 0 0 some,
        get_or-drop e.first s 0 0,
        at,
        get_or-take (e.end - e.first) (drop e.first s) (e.end - e.first - 1) 0 last,
        get_or-drop e.first s (e.end - e.first - 1) 0,
        end,
      )
      at (at_taken (by_ends test) rows t e.which is.taken)

  pub word_passes : (test : ℕ → ℕ → ℕ → ℕ → Bool) → T (each_taken (by_ends test) words) → e.kind ≡ word_kind
      → T (test (e.end - e.first) (get_or s e.first 0) (get_or s (e.end - 1) 0) e.which)
  word_passes test t k = row_passes test words t (word_spelling k)

  -- of signs, the delimiters are left out
  pub sign_passes : (test : ℕ → ℕ → ℕ → ℕ → Bool) → T (each_taken (by_ends (λ len b last number. delimiter number || test len b last number)) signs)
      → e.kind ≡ sign_kind → T (test (e.end - e.first) (get_or s e.first 0) (get_or s (e.end - 1) 0) e.which)
  sign_passes test t k = rw (sign_which k) at (row_passes (λ len b last number. delimiter number || test len b last number) signs t (sign_spelling k))
