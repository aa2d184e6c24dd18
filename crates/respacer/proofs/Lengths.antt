-- A respaced text has at most twice the bytes of its text, and one more.
use mathlib.Core.List.{List, [], ◌∷◌, ◌++◌}
use mathlib.Core.Bool.{Bool, true, false}
use Prim.Native.Nat.{ℕ, ◌+◌, ◌-◌, ◌*◌, ◌≤◌}
use native.Mathlib.Omega.{arith}
use lib.ListN.{length, length-append}
use Rattle.elements.specs.declared.Element.{Element}
use Rattle.elements.proofs.Bounds.{Placed, found_placed}
use Rattle.rule.specs.Levels.{Levels, whole_text, inside, stated_by, settled_in}
use Rattle.prefix.specs.Reading.{Limits, Reading, accepted, refused, ending, reading}
use Rattle.prefix.proofs.Induction.{reading_tells}
use Rattle.prefix.proofs.StepCases.{Taken, leaf_taken, open_taken, close_taken, step_taken}
use Rattle.elements.specs.Lexemes.{bytes_of}
use Rattle.spacing.specs.Respaced.{separator, add_element, add_closer, add_trees, space}
use Rattle.spacing.specs.Machinery.Written.{written_of}
use Rattle.spacing.proofs.OverLaws.{bytes_length}
use Rattle.spacing.proofs.WriteLaws.{written_leaf, written_group}

separator_length : (written : List ℕ) (newline : Bool) → length (separator written newline) ≤ 1
separator_length [] true = omega arith
separator_length [] false = omega arith
separator_length (b ∷ written) true = omega arith
separator_length (b ∷ written) false = omega arith

module _ (bytes written : List ℕ) (first end : ℕ) (h : first ≤ end) (k : end ≤ length bytes) where
  element_length : (newline : Bool) → length (add_element bytes written first end newline) ≤ length written + 1 + (end - first)
  unfolding add_element
  element_length newline =
      rw (length-append written (separator written newline ++ bytes_of bytes first end), length-append (separator written newline) (bytes_of bytes first end), bytes_length bytes first end h k)
      (omega (arith, separator_length written newline))

  closer_length : length (add_closer bytes written first end) ≤ length written + 1 + (end - first)
  unfolding add_closer
  closer_length = rw (length-append written (space ∷ bytes_of bytes first end), bytes_length bytes first end h k) (omega arith)

-- what is written up to a place
abbrev Short : List ℕ → Levels → ℕ → Type 0
Short bytes levels place = length (written_of bytes levels) ≤ 2 * place

short_taken : (bytes : List ℕ) (place : ℕ) (e : Element) → Placed bytes place e → {limits : Limits} {levels after : Levels} → Taken limits e levels after
    → Short bytes levels place → Short bytes after e.end
unfolding add_trees
short_taken bytes place e p (leaf_taken {levels = levels} n r) s =
    rw (written_leaf bytes (settled_in levels e) levels) (omega (arith, element_length bytes (written_of bytes levels) e.first e.end (omega (arith, p.some)) p.within e.newline, p.from, p.some))
short_taken bytes place e p (open_taken {levels = levels} l h d r) s =
    omega (arith, element_length bytes (written_of bytes levels) e.first (e.first + 1) (omega arith) (omega (arith, p.some, p.within)) e.newline, p.from, p.some)
short_taken bytes place e p (close_taken {around = around} {kind = kind} {first = first} {newline = newline} {trees = trees}) s =
    rw (written_group bytes kind first e.end newline trees around)
    (omega (arith, closer_length bytes (written_of bytes (inside around kind first newline trees)) (e.end - 1) e.end (omega arith) p.within, p.from, p.some))

abbrev ShortReading : List ℕ → Reading → Type 0
ShortReading bytes (accepted trees) = length (add_trees bytes [] trees) ≤ 2 * length bytes
ShortReading bytes (refused number place) = Unit {0}

short_ending : (bytes : List ℕ) (levels : Levels) (place : ℕ) → place ≤ length bytes → Short bytes levels place → ShortReading bytes (ending levels)
short_ending bytes (whole_text trees) place h s = omega arith
short_ending bytes (inside around kind first newline trees) place h s = tt

pub reading_short : (bytes : List ℕ) (limits : Limits) → ShortReading bytes (reading bytes limits)
unfolding add_trees
reading_short bytes limits =
    reading_tells bytes limits (λ levels place. (place ≤ length bytes) × Short bytes levels place) (ShortReading bytes)
    (λ levels place p. short_ending bytes levels place p.0 p.1)
    (λ levels place fault p f. tt)
    (λ levels place e number at p f s. tt)
    (λ levels place e after p f s.
    let placed = found_placed bytes place (stated_by levels) e f in
    (placed.within, short_taken bytes place e placed (step_taken limits e levels after s) p.1))
    (omega arith, omega arith)
