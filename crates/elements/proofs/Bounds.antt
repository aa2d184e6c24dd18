-- Where elements and their faults lie: not before the place from which they are looked for, and within the text.
use Rattle.std.specs.Prelude.{Result, Ok, Err, Some, None, Option}
use mathlib.Core.Path.{◌≡◌, refl}
use mathlib.Core.List.{List, [], ◌∷◌}
use mathlib.Core.Bool.{Bool, true, false, cond, ◌&&◌, ◌||◌}
use Prim.Native.Nat.{ℕ, ◌+◌, ◌<◌, ◌≤◌}
use native.Mathlib.Omega.{arith}
use borrow.Author.Tests.{leb-true, leb-false}
use lib.Dec.{eqb, leb}
use lib.ListN.{length, get_or, take, drop, length-drop}
use Rattle.text.specs.Quoted.{byte}
use Rattle.text.specs.Bytes.{letter, digit, name_byte}
use Rattle.text.specs.Runs.{run}
use Rattle.text.proofs.Laws.{run_le, run_some}
use Rattle.words.specs.Words.{word_number, taken}
use Rattle.signs.specs.Signs.{longest_sign}
use Rattle.signs.specs.declared.Sign.{Sign}
use Rattle.signs.proofs.Laws.{longest_fits}
use Rattle.answers.specs.Faults.{open_string, open_pattern, bad_number, barred_word, fault_number, fault_place}
use Rattle.answers.specs.declared.faults.Fault.{Fault}
use Rattle.gaps.specs.Gaps.{gap}
use Rattle.numbers.specs.Numbers.{starts_number, number_from}
use Rattle.literals.specs.Strings.{quote, string_rest}
use Rattle.literals.specs.Patterns.{pattern_rest}
use Rattle.elements.specs.Elements.{
  literal_element,
  named,
  delimiter,
  sign_or_stray,
  element_from,
  after_gap,
  element_at,
  name_kind,
  word_kind,
  number_kind,
  string_kind,
  pattern_kind,
  sign_kind,
  delimiter_kind,
}
use Rattle.gaps.specs.declared.Gap.{Gap}
use Rattle.elements.specs.declared.Element.{Element}
use Rattle.elements.specs.Elements.{Next}
use Rattle.elements.specs.declared.Stated.{Stated}
use Rattle.elements.proofs.Choices.{cond_both, cond_known}
use Rattle.elements.proofs.Extents.{Faulted, GapIn, gap_in, LiteralIn, string_in, pattern_in, number_in, starts_some}
use Rattle.gaps.proofs.GapLaws.{gap_past}
use Rattle.elements.proofs.ElementLaws.{from_past}

-- an element cut at `first` and within hi, behind a gap that has a line end or not
pub record Cut (newline : Bool) (first hi : ℕ) (e : Element) : Type 0 where
  pub start : e.first ≡ first
  pub flag : e.newline ≡ newline
  pub some : first < e.end
  pub within : e.end ≤ hi

-- an element cut there, or a fault from there on
abbrev pub NextIn : Bool → ℕ → ℕ → Next → Type 0
NextIn newline first hi (Ok None) = Unit
NextIn newline first hi (Ok (Some e)) = Cut newline first hi e
NextIn newline first hi (Err fault) = Faulted barred_word first hi (fault_number fault) (fault_place fault)

module _ (newline : Bool) (first hi b : ℕ) (s : List ℕ) (fits : first + 1 + length s ≡ hi) where
  literal_in : (kind last low : ℕ) → last ≤ barred_word → first ≤ low → (l : Result ℕ Fault) → LiteralIn last first low hi l → NextIn newline first hi (literal_element kind newline first l)
  literal_in kind last low m h (Ok end) p = record { start = refl; flag = refl; some = omega arith; within = p.1 }
  literal_in kind last low m h (Err fault) p = omega arith

  cut : (n : ℕ) → 1 ≤ n → n ≤ 1 + length s → (kind which : ℕ)
      → Cut newline first hi (record { kind = kind; which = which; first = first; end = first + n; newline = newline })
  cut n h k kind which = record { start = refl; flag = refl; some = omega arith; within = omega arith }

  named_in : (asName : Bool) → letter b ≡ true → NextIn newline first hi (named asName newline first (b ∷ s))
  unfolding named name_byte
  named_in asName l =
      let n = run name_byte (b ∷ s) in
      let h : 1 ≤ n = run_some name_byte b s (rw l) in
      let k : n ≤ 1 + length s = omega (arith, run_le name_byte (b ∷ s)) in
      let word = word_number (take n (b ∷ s)) in
      cond_both (NextIn newline first hi) (eqb word 0 || asName) (cut n h k name_kind word)
      (cond_both (NextIn newline first hi) (taken word) (cut n h k word_kind word)
      (omega arith))

  sign_in : (l : Option Sign) → longest_sign (b ∷ s) ≡ l → NextIn newline first hi (sign_or_stray newline first l)
  sign_in None e = omega arith
  sign_in (Some sign) e =
      let f = longest_fits (b ∷ s) sign e in
      cut sign.len f.0 (omega arith) (cond (delimiter sign.number) delimiter_kind sign_kind) sign.number

  cons_in : (stated : Stated) → NextIn newline first hi (element_from stated newline first (b ∷ s))
  unfolding element_from
  cons_in stated =
      let P = NextIn newline first hi in
      let low = first + 1 in
      let h : first < low = omega arith in
      cond_known P (letter b) (named_in stated.name) (λ x.
      cond_known P (starts_number (b ∷ s))
      (λ d. literal_in number_kind bad_number first (omega arith) (omega arith) (number_from first (b ∷ s)) (number_in b s (starts_some (digit b) (eqb b (byte ".")) (digit (get_or s 0 0)) d) first hi fits)) (λ x.
      cond_both P (quote b)
      (literal_in string_kind open_string low (omega arith) (omega arith) (string_rest b first false low s) (string_in first low hi h s b low false (omega arith) fits))
      (cond_both P (stated.pattern && eqb b (byte "/"))
      (literal_in pattern_kind open_pattern low (omega arith) (omega arith) (pattern_rest first false false low s) (pattern_in first low hi h s low false false (omega arith) fits))
      (sign_in (longest_sign (b ∷ s)) refl))))

pub from_in : (stated : Stated) (newline : Bool) (first hi : ℕ) (s : List ℕ) → first + length s ≡ hi → NextIn newline first hi (element_from stated newline first s)
unfolding element_from
from_in stated newline first hi [] e = tt
from_in stated newline first hi (b ∷ s) e = cons_in newline first hi b s (omega arith) stated

-- an element that was looked for from a place on
pub record Placed (s : List ℕ) (place : ℕ) (e : Element) : Type 0 where
  pub from : place ≤ e.first
  pub some : e.first < e.end
  pub within : e.end ≤ length s

abbrev NextPlaced : List ℕ → ℕ → Next → Type 0
NextPlaced s place (Ok None) = Unit
NextPlaced s place (Ok (Some e)) = Placed s place e
NextPlaced s place (Err fault) = Faulted barred_word place (length s) (fault_number fault) (fault_place fault)

module _ (s : List ℕ) (place : ℕ) (stated : Stated) where
  later : (newline : Bool) (first : ℕ) → place ≤ first → (n : Next) → NextIn newline first (length s) n → NextPlaced s place n
  later newline first h (Ok None) p = tt
  later newline first h (Ok (Some e)) p = record { from = omega arith; some = omega arith; within = p.within }
  later newline first h (Err fault) p = omega arith

  after_in : (g : Result Gap Fault) → GapIn place place (length s) g → NextPlaced s place (after_gap s stated g)
  after_in (Ok g) p =
      later g.newline g.end p.0 (element_from stated g.newline g.end (drop g.end s))
      (from_in stated g.newline g.end (length s) (drop g.end s) (omega (arith, length-drop g.end s)))
  after_in (Err fault) p = omega arith

  at_in : place ≤ length s → NextPlaced s place (element_at s place stated)
  unfolding element_at
  at_in h =
      after_in (gap place false (drop place s))
      (gap_in place place (length s) (omega arith) (drop place s) place false (omega arith) (omega (arith, length-drop place s)))

  pub past_end : length s ≤ place → element_at s place stated ≡ Ok None
  unfolding element_at
  past_end h = rw (gap_past s place false h) (from_past stated false s place h)

  placed : NextPlaced s place (element_at s place stated)
  placed = go (leb (length s) place) refl
    where
      go : (t : Bool) → leb (length s) place ≡ t → NextPlaced s place (element_at s place stated)
      go true e = rw (past_end (leb-true (length s) place e)) tt
      go false e = at_in (omega (arith, leb-false (length s) place e))

  pub found_placed : (e : Element) → element_at s place stated ≡ Ok (Some e) → Placed s place e
  found_placed e f = rw f at placed

  module _ (fault : Fault) (f : element_at s place stated ≡ Err fault) where
    pub fault_placed : (place ≤ fault_place fault) × (fault_place fault < length s)
    fault_placed = let p : Faulted barred_word place (length s) (fault_number fault) (fault_place fault) = rw f at placed in (p.from, p.within)

    pub fault_numbered : (2 ≤ fault_number fault) × (fault_number fault ≤ 7)
    fault_numbered = let p : Faulted barred_word place (length s) (fault_number fault) (fault_place fault) = rw f at placed in (p.least, p.most)
