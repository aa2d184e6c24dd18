-- The numbers that are found in a text, and the refusals with 6, by the grammar of ES5.1 section 7.8.3.
use Rattle.std.specs.Prelude.{Result, Ok, Err, Some, None, Option}
use mathlib.Core.Path.{◌≡◌, refl}
use mathlib.Core.List.{List, [], ◌∷◌}
use mathlib.Core.Bool.{Bool, true, false, ◌&&◌, ◌||◌}
use Prim.Native.Nat.{ℕ, ◌+◌, ◌-◌, ◌<◌, ◌≤◌}
use native.Mathlib.Omega.{arith}
use lib.Dec.{eqb}
use lib.ListN.{length, get_or, take, drop, length-drop}
use lib.Seq.{get_or-drop}
use Rattle.text.specs.Quoted.{byte}
use Rattle.text.specs.Bytes.{letter, name_byte}
use Rattle.words.specs.Words.{taken}
use Rattle.signs.specs.Signs.{longest_sign}
use Rattle.signs.specs.declared.Sign.{Sign}
use Rattle.answers.specs.Faults.{open_string, open_pattern, bad_number, fault_number, fault_place}
use Rattle.answers.specs.declared.faults.Fault.{Fault}
use Rattle.gaps.specs.Gaps.{gap}
use Rattle.numbers.specs.Numbers.{starts_number, number_length, number_from}
use Rattle.numbers.specs.NumericLiterals.{NumericLiteral}
use Rattle.literals.specs.Strings.{quote, string_rest}
use Rattle.literals.specs.Patterns.{pattern_rest}
use Rattle.numbers.proofs.NumberCuts.{CutBy, number_cut}
use Rattle.numbers.proofs.LongestNumber.{number_literal, number_longest}
use Rattle.elements.specs.Elements.{
  literal_element,
  first_word,
  named,
  delimiter,
  sign_or_stray,
  element_from,
  after_gap,
  element_at,
  number_kind,
  string_kind,
  pattern_kind,
}
use Rattle.elements.specs.Lexemes.{bytes_of, lexeme_of}
use Rattle.gaps.specs.declared.Gap.{Gap}
use Rattle.elements.specs.declared.Element.{Element}
use Rattle.elements.specs.Elements.{Next}
use Rattle.elements.specs.declared.Stated.{Stated}
use Rattle.elements.proofs.Choices.{cond_both, cond_known}
use Rattle.elements.proofs.Extents.{GapIn, gap_in, LiteralIn, string_in, pattern_in}

-- Document 02, U4: "numbers as in ES5.1 section 7.8.3 (6 now only when a digit or name byte follows directly)".

-- a number of a text: its bytes are a NumericLiteral, those to a later end are none, and neither a digit nor another name byte follows directly
pub record CutsNumber (s : List ℕ) (e : Element) : Type 0 where
  pub literal : NumericLiteral (lexeme_of s e)
  pub longest : (later : ℕ) → later ≤ length s → NumericLiteral (bytes_of s e.first later) → later ≤ e.end
  pub apart : name_byte (get_or s e.end 0) ≡ false

-- a place where a number starts, and a digit or another name byte follows its NumericLiteral directly, which is the longest there
-- (`number_longest` of LongestNumber.antt of `numbers`)
pub record RefusesNumber (s : List ℕ) (at : ℕ) : Type 0 where
  pub starts : starts_number (drop at s) ≡ true
  pub literal : NumericLiteral (take (number_length (drop at s)) (drop at s))
  pub followed : name_byte (get_or s (at + number_length (drop at s)) 0) ≡ true

-- both, of what is met
abbrev NextNumber : List ℕ → Next → Type 0
NextNumber s (Ok None) = Unit {0}
NextNumber s (Ok (Some e)) = e.kind ≡ number_kind → CutsNumber s e
NextNumber s (Err fault) = fault_number fault ≡ bad_number → RefusesNumber s (fault_place fault)

module _ (s : List ℕ) (newline : Bool) (first : ℕ) where
  number_next : starts_number (drop first s) ≡ true → (l : Result ℕ Fault)
      → CutBy (name_byte (get_or (drop first s) (number_length (drop first s)) 0)) first (drop first s) l → NextNumber s (literal_element number_kind newline first l)
  number_next starts (Ok end) (follows, ends) = λ k.
      let rest = drop first s in
      let n = number_length rest in
      let whole : end - first ≡ n = omega arith in
      record {
        literal = rw whole (number_literal rest starts);
        longest = λ later h p. omega (arith, number_longest rest (later - first) (omega (arith, length-drop first s)) p);
        apart = rw (ends, ← get_or-drop first s n 0) follows;
      }
  number_next starts (Err fault) (follows, is) = λ k.
      let n = number_length (drop first s) in
      rw is (record { starts = starts; literal = number_literal (drop first s) starts; followed = rw (← get_or-drop first s n 0) follows })

  -- strings and regular expressions: their faults have numbers before 6
  other_literal : (kind last low hi : ℕ) → (kind ≡ number_kind → ⊥) → last ≤ open_pattern → (l : Result ℕ Fault) → LiteralIn last first low hi l
      → NextNumber s (literal_element kind newline first l)
  other_literal kind last low hi n m (Ok end) p = λ k. absurd (n k)
  other_literal kind last low hi n m (Err fault) p = λ k. absurd (omega arith)

  named_next : (asName : Bool) (t : List ℕ) → NextNumber s (named asName newline first t)
  unfolding named
  named_next asName t =
      cond_both (NextNumber s) (eqb (first_word t) 0 || asName) (λ k. absurd (omega arith))
      (cond_both (NextNumber s) (taken (first_word t)) (λ k. absurd (omega arith)) (λ k. absurd (omega arith)))

  sign_next : (l : Option Sign) → NextNumber s (sign_or_stray newline first l)
  sign_next None = λ k. absurd (omega arith)
  sign_next (Some sign) = λ k. absurd (cond_both (λ kind. kind ≡ number_kind → ⊥) (delimiter sign.number) (λ k. omega arith) (λ k. omega arith) k)

  from_next : (stated : Stated) (t : List ℕ) → drop first s ≡ t → NextNumber s (element_from stated newline first t)
  unfolding element_from
  from_next stated [] d = tt
  from_next stated (b ∷ t) d =
      let P = NextNumber s in
      let low = first + 1 in
      let hi = low + length t in
      let h : first < low = omega arith in
      cond_both P (letter b) (named_next stated.name (b ∷ t))
      (cond_known P (starts_number (b ∷ t)) (λ starts. rw d at (number_next (rw d starts) (number_from first (drop first s)) (number_cut first (drop first s)))) λ n.
      cond_both P (quote b)
      (other_literal string_kind open_string low hi (λ k. omega arith) (omega arith) (string_rest b first false low t)
      (string_in first low hi h t b low false (omega arith) refl))
      (cond_both P (stated.pattern && eqb b (byte "/"))
      (other_literal pattern_kind open_pattern low hi (λ k. omega arith) (omega arith) (pattern_rest first false false low t)
      (pattern_in first low hi h t low false false (omega arith) refl))
      (sign_next (longest_sign (b ∷ t)))))

module _ (s : List ℕ) (place : ℕ) (stated : Stated) where
  -- so have those of comments
  after_next : (hi : ℕ) (g : Result Gap Fault) → GapIn place place hi g → NextNumber s (after_gap s stated g)
  after_next hi (Ok g) p = from_next s g.newline g.end stated (drop g.end s) refl
  after_next hi (Err fault) p = λ k. absurd (omega arith)

  at_next : NextNumber s (element_at s place stated)
  unfolding element_at
  at_next =
      let t = drop place s in
      let hi = place + length t in
      after_next hi (gap place false t) (gap_in place place hi (omega arith) t place false (omega arith) refl)

  -- a number that is found
  pub number_found : (e : Element) → element_at s place stated ≡ Ok (Some e) → e.kind ≡ number_kind → CutsNumber s e
  number_found e found = rw found at at_next

  -- a refusal with 6
  pub number_refused : (at : ℕ) → element_at s place stated ≡ Err (Fault.BadNumber at) → RefusesNumber s at
  number_refused at refused = (rw refused at at_next) refl
