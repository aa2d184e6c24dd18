-- A delimiter that is found is one byte long, and `which` says which of the six it is.
use Rattle.std.specs.Prelude.{Result, Ok, Err, Some, None, Option}
use Rattle.signs.proofs.Laws.{longest_fits}
use mathlib.Core.Path.{◌≡◌, refl}
use mathlib.Core.List.{List, [], ◌∷◌}
use mathlib.Core.Bool.{Bool, true, false, cond, ◌&&◌, ◌||◌, not, or-true}
use Prim.Native.Nat.{ℕ, ◌+◌, ◌<◌}
use native.Mathlib.Omega.{arith}
use lib.Dec.{eqb, T, leb, leb→le}
use lib.ListN.{take, drop, length}
use Rattle.text.specs.Quoted.{byte}
use Rattle.text.specs.Bytes.{letter, name_byte}
use Rattle.text.specs.Runs.{run, same}
use Rattle.words.specs.Words.{word_number, taken}
use Rattle.signs.specs.Signs.{longest_sign, longest_of}
use Rattle.signs.specs.declared.Sign.{Sign}
use Rattle.vocabulary.specs.Vocabulary.{spelling, signs, row_at}
use Rattle.vocabulary.proofs.RowLaws.{at_row}
use Rattle.signs.proofs.Spellings.{longest_spelled}
use Rattle.answers.specs.declared.faults.Fault.{Fault}
use Rattle.gaps.specs.Gaps.{gap}
use Rattle.numbers.specs.Numbers.{starts_number, number_from}
use Rattle.literals.specs.Strings.{quote, string_rest}
use Rattle.literals.specs.Patterns.{pattern_rest}
use Rattle.elements.specs.Elements.{literal_element, named, delimiter, sign_or_stray, element_from, after_gap, element_at, delimiter_kind, number_kind, string_kind, pattern_kind, sign_kind}
use Rattle.gaps.specs.declared.Gap.{Gap}
use Rattle.elements.specs.declared.Element.{Element}
use Rattle.elements.specs.Elements.{Next}
use Rattle.elements.specs.declared.Stated.{Stated}
use Rattle.elements.proofs.Choices.{cond_both}

abbrev OneByte : Next → Type 0
OneByte (Ok None) = Unit {0}
OneByte (Ok (Some e)) = e.kind ≡ delimiter_kind → (e.end ≡ e.first + 1) × (delimiter e.which ≡ true)
OneByte (Err fault) = Unit {0}

literal_byte : (kind : ℕ) → 0 < kind → (newline : Bool) (first : ℕ) (l : Result ℕ Fault) → OneByte (literal_element kind newline first l)
literal_byte kind h newline first (Ok end) = λ k. absurd (omega arith)
literal_byte kind h newline first (Err fault) = tt

named_byte : (asName newline : Bool) (first : ℕ) (s : List ℕ) → OneByte (named asName newline first s)
unfolding named
named_byte asName newline first s =
    let word = word_number (take (run name_byte s) s) in
    cond_both OneByte (eqb word 0 || asName) (λ k. absurd (omega arith)) (cond_both OneByte (taken word) (λ k. absurd (omega arith)) tt)

delimiter_short : (number : ℕ) → T (not (delimiter number) || leb (length (spelling (row_at signs number))) 1)
unfolding delimiter longest_sign longest_of same
delimiter_short number = at_row (λ n row. not (delimiter n) || leb (length (spelling row)) 1) signs tt number (rw (or-true (not (delimiter number))) tt)

sign_byte : (newline : Bool) (first : ℕ) (s : List ℕ) (l : Option Sign) → longest_sign s ≡ l → OneByte (sign_or_stray newline first l)
sign_byte newline first s None e = tt
sign_byte newline first s (Some sign) e =
    λ k.
    let is = only (delimiter sign.number) refl k in
    let long = (longest_spelled s sign e).long in
    let short = leb→le (length (spelling (row_at signs sign.number))) 1 (rw is at (delimiter_short sign.number)) in
    (omega (arith, (longest_fits s sign e).0), is)
  where
    only : (b : Bool) → delimiter sign.number ≡ b → cond b delimiter_kind sign_kind ≡ delimiter_kind → delimiter sign.number ≡ true
    only true d k = d
    only false d k = absurd (omega arith)

from_byte : (stated : Stated) (newline : Bool) (first : ℕ) (s : List ℕ) → OneByte (element_from stated newline first s)
unfolding element_from
from_byte stated newline first [] = tt
from_byte stated newline first (b ∷ s) =
    cond_both OneByte (letter b) (named_byte stated.name newline first (b ∷ s))
    (cond_both OneByte (starts_number (b ∷ s)) (literal_byte number_kind (omega arith) newline first (number_from first (b ∷ s)))
    (cond_both OneByte (quote b) (literal_byte string_kind (omega arith) newline first (string_rest b first false (first + 1) s))
    (cond_both OneByte (stated.pattern && eqb b (byte "/")) (literal_byte pattern_kind (omega arith) newline first (pattern_rest first false false (first + 1) s))
    (sign_byte newline first (b ∷ s) (longest_sign (b ∷ s)) refl))))

after_byte : (s : List ℕ) (stated : Stated) (g : Result Gap Fault) → OneByte (after_gap s stated g)
after_byte s stated (Ok g) = from_byte stated g.newline g.end (drop g.end s)
after_byte s stated (Err fault) = tt

found_delimiter : (s : List ℕ) (place : ℕ) (stated : Stated) (e : Element) → element_at s place stated ≡ Ok (Some e)
    → e.kind ≡ delimiter_kind → (e.end ≡ e.first + 1) × (delimiter e.which ≡ true)
unfolding element_at
found_delimiter s place stated e f = rw f at (after_byte s stated (gap place false (drop place s)))

module _ (s : List ℕ) (place : ℕ) (stated : Stated) (e : Element) (f : element_at s place stated ≡ Ok (Some e)) (k : e.kind ≡ delimiter_kind) where
  pub delimiter_byte : e.end ≡ e.first + 1
  delimiter_byte = (found_delimiter s place stated e f k).0

  pub delimiter_which : delimiter e.which ≡ true
  delimiter_which = (found_delimiter s place stated e f k).1
