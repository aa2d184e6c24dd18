-- The reading of a respaced text beside the reading of its text: each element is found again, and the levels stay the same
-- but for positions.
use Rattle.std.specs.Prelude.{Ok, Some}
use mathlib.Core.Path.{◌≡◌, sym, ap, ◌∙◌}
use mathlib.Core.List.{List, [], ◌∷◌, ◌++◌}
use Prim.Native.Nat.{ℕ, zero, suc, ◌+◌, ◌-◌, ◌<◌, ◌≤◌}
use native.Mathlib.Omega.{arith}
use lib.ListN.{length, length-append}
use Rattle.elements.specs.Elements.{element_at}
use Rattle.elements.specs.declared.Element.{Element}
use Rattle.elements.proofs.Delimiters.{delimiter_byte}
use Rattle.rule.specs.Trees.{Trees, none}
use Rattle.rule.specs.Levels.{Levels, whole_text, stated_by, depth}
use Rattle.prefix.specs.Reading.{Limits, more, step, accepted, read_on, reading}
use Rattle.prefix.proofs.ReadingLaws.{read_end, read_more}
use Rattle.prefix.proofs.Course.{Course, ended, went, accepted_course}
use Rattle.elements.specs.Lexemes.{bytes_of}
use Rattle.spacing.specs.Respaced.{separator, add_element, add_trees, respaced}
use Rattle.spacing.specs.Machinery.Written.{written_of}
use Rattle.respacer.specs.Alike.{alike_none, Kept}
use Rattle.respacer.proofs.AlikeLevels.{AlikeLevels, alike_text, alike_stated}
use Rattle.respacer.proofs.StepWrites.{line_written}
use Rattle.spacing.proofs.FoundAgain.{moved, found_again, found_end, found_bytes, nothing_more}
use Rattle.respacer.proofs.StepAgain.{Reaches, step_again}
use Rattle.respacer.proofs.RestOfText.{GoesOn, goes_on, element_written, more_written}

module _ (s : List ℕ) (limits : Limits) (trees : Trees) where
  abbrev t : List ℕ
  t = respaced s trees

  -- where an element stands in the respaced text, behind what is written so far
  abbrev stands_at : Levels → Element → ℕ
  stands_at levels e = length (written_of s levels ++ separator (written_of s levels) (line_written e))

  -- one element
  module _ (levels others after : Levels) (place : ℕ) (e : Element) (found : element_at s place (stated_by levels) ≡ Ok (Some e))
      (begun : 0 < depth levels → 0 < length (written_of s levels)) (steps : step limits levels e ≡ more after) (course : Course s limits trees after e.end)
      (alike : AlikeLevels s t levels others) where
    goes : GoesOn t (add_element s (written_of s levels) e.first e.end (line_written e))
    goes =
        let more = more_written s limits levels after place e found begun steps in
        rw (element_written s limits levels after place e found begun steps) at (goes_on s limits trees course (omega arith))

    found_there : element_at t (length (written_of s levels)) (stated_by others) ≡ Ok (Some (moved e (stands_at levels e) (line_written e)))
    found_there = rw (goes.is, ← alike_stated alike) (found_again s place (stated_by levels) e found goes.next goes.separates goes.rest (written_of s levels) (line_written e))

    bytes_there : bytes_of s e.first e.end ≡ bytes_of t (stands_at levels e) (stands_at levels e + (e.end - e.first))
    bytes_there = rw goes.is (found_bytes s place (stated_by levels) e found goes.next goes.separates goes.rest (written_of s levels) (line_written e))

    reaches : Reaches s t after (step limits others (moved e (stands_at levels e) (line_written e)))
    reaches = step_again s t limits e (stands_at levels e) after bytes_there alike (delimiter_byte s place (stated_by levels) e found) steps

    ends_there : stands_at levels e + (e.end - e.first) ≡ length (written_of s after)
    ends_there =
        rw (element_written s limits levels after place e found begun steps)
        (sym (found_end s place (stated_by levels) e found goes.next goes.separates goes.rest (written_of s levels) (line_written e)))

    -- the respaced text is not at its end behind it
    not_last : length (written_of s after) < length t
    not_last =
        let written = add_element s (written_of s levels) e.first e.end (line_written e) in
        rw (element_written s limits levels after place e found begun steps)
        (omega (arith, ap length goes.is, length-append written (goes.next ∷ goes.rest)))

    turned : (fuel : ℕ) → read_on t limits (suc fuel) others (length (written_of s levels)) ≡ read_on t limits fuel reaches.then (length (written_of s after))
    turned fuel =
        read_more t limits fuel others (length (written_of s levels)) (moved e (stands_at levels e) (line_written e)) found_there reaches.then reaches.goes
        ∙ ap (read_on t limits fuel reaches.then) ends_there

    taken_again : (fuel : ℕ) → length t ≤ length (written_of s levels) + fuel
        → ((then : Levels) → AlikeLevels s t after then → (k : ℕ) → length t ≤ length (written_of s after) + k → Kept s trees (read_on t limits (suc k) then (length (written_of s after))))
        → Kept s trees (read_on t limits (suc fuel) others (length (written_of s levels)))
    taken_again zero enough rest = absurd (omega (arith, not_last, more_written s limits levels after place e found begun steps))
    taken_again (suc k) enough rest =
        rw (turned (suc k)) (rest reaches.then reaches.alike k (omega (arith, more_written s limits levels after place e found begun steps)))

  -- the end: one 0A is left
  last_again : {others : Levels} → AlikeLevels s t (whole_text trees) others → (fuel : ℕ) → Kept s trees (read_on t limits (suc fuel) others (length (add_trees s [] trees)))
  last_again (alike_text {others = kept} alike) fuel =
      record {
        kept = kept;
        reads = read_end t limits fuel (whole_text kept) (length (add_trees s [] trees)) (nothing_more (add_trees s [] trees) (stated_by (whole_text kept)));
        alike = alike;
      }

  read_on_again : {levels : Levels} {place : ℕ} → Course s limits trees levels place → (0 < depth levels → 0 < length (written_of s levels))
      → (others : Levels) → AlikeLevels s t levels others → (fuel : ℕ) → length t ≤ length (written_of s levels) + fuel
      → Kept s trees (read_on t limits (suc fuel) others (length (written_of s levels)))
  read_on_again ended begun others alike fuel enough = last_again alike fuel
  read_on_again (went {levels = levels} {place = place} e after found steps course) begun others alike fuel enough =
      taken_again levels others after place e found begun steps course alike fuel enough
      (λ then alike fuel enough.
      read_on_again course (λ inner. omega (arith, more_written s limits levels after place e found begun steps)) then alike fuel enough)

  pub read_again : reading s limits ≡ accepted trees → Kept s trees (reading t limits)
  unfolding reading add_trees
  read_again e = read_on_again (accepted_course s limits trees e) (λ inner. absurd (omega arith)) (whole_text none) (alike_text alike_none) (length t) (omega arith)
