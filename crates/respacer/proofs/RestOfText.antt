-- Along an accepted reading, what is written so far begins the respaced text, and a blank or a line end follows it there.
use Rattle.std.specs.Prelude.{Ok, Some}
use mathlib.Core.Path.{◌≡◌, refl, ◌∙◌}
use mathlib.Core.List.{List, [], ◌∷◌, ◌++◌, append_assoc}
use mathlib.Core.Bool.{Bool, true, false, ◌||◌}
use Prim.Native.Nat.{ℕ, ◌+◌, ◌-◌, ◌<◌, ◌≤◌}
use native.Mathlib.Omega.{arith}
use lib.ListN.{length, length-append}
use Rattle.text.specs.Bytes.{blank, line_end}
use Rattle.elements.specs.Elements.{element_at}
use Rattle.elements.specs.declared.Element.{Element}
use Rattle.elements.proofs.Bounds.{Placed, found_placed}
use Rattle.elements.proofs.Delimiters.{delimiter_byte}
use Rattle.rule.specs.Trees.{Trees}
use Rattle.rule.specs.Levels.{Levels, stated_by, depth}
use Rattle.prefix.specs.Reading.{Limits, more, step}
use Rattle.prefix.proofs.Course.{Course, ended, went}
use Rattle.elements.specs.Lexemes.{bytes_of}
use Rattle.spacing.specs.Respaced.{line_feed, space, separator, add_element, respaced}
use Rattle.spacing.specs.Machinery.Written.{written_of}
use Rattle.spacing.proofs.OverLaws.{bytes_length}
use Rattle.respacer.proofs.StepWrites.{line_written, step_written}

-- a text that goes on, behind what is written, with a blank or a line end
pub record GoesOn (text written : List ℕ) : Type 0 where
  pub next : ℕ
  pub rest : List ℕ
  pub separates : (blank next || line_end next) ≡ true
  pub is : text ≡ written ++ next ∷ rest

behind : (whole written bytes : List ℕ) (b : ℕ) → (blank b || line_end b) ≡ true → GoesOn whole (written ++ b ∷ bytes) → GoesOn whole written
behind whole written bytes b separates after =
    record { next = b; rest = bytes ++ after.next ∷ after.rest; separates = separates; is = after.is ∙ append_assoc written (b ∷ bytes) (after.next ∷ after.rest) }

-- it does so before an element that was written
before_element : (s whole written : List ℕ) (first end : ℕ) (newline : Bool) → 0 < length written → GoesOn whole (add_element s written first end newline) → GoesOn whole written
unfolding add_element blank line_end
before_element s whole [] first end newline some after = absurd (omega arith)
before_element s whole (b ∷ written) first end true some after = behind whole (b ∷ written) (bytes_of s first end) line_feed refl after
before_element s whole (b ∷ written) first end false some after = behind whole (b ∷ written) (bytes_of s first end) space refl after

-- an element adds its bytes
element_adds : (s written : List ℕ) (first end : ℕ) (newline : Bool) → first ≤ end → end ≤ length s → length written + (end - first) ≤ length (add_element s written first end newline)
unfolding add_element
element_adds s written first end newline h k =
    rw (length-append written (separator written newline ++ bytes_of s first end), length-append (separator written newline) (bytes_of s first end), bytes_length s first end h k)
    (omega arith)

-- one element of an accepted reading
module _ (s : List ℕ) (limits : Limits) (levels after : Levels) (place : ℕ) (e : Element) (found : element_at s place (stated_by levels) ≡ Ok (Some e))
    (begun : 0 < depth levels → 0 < length (written_of s levels)) (steps : step limits levels e ≡ more after) where
  pub element_written : written_of s after ≡ add_element s (written_of s levels) e.first e.end (line_written e)
  element_written = step_written s limits e after levels (delimiter_byte s place (stated_by levels) e found) begun steps

  pub more_written : length (written_of s levels) < length (written_of s after)
  more_written =
      let p : Placed s place e = found_placed s place (stated_by levels) e found in
      rw element_written (omega (arith, element_adds s (written_of s levels) e.first e.end (line_written e) (omega (arith, p.some)) p.within, p.some))

pub goes_on : (s : List ℕ) (limits : Limits) (trees : Trees) {levels : Levels} {place : ℕ} → Course s limits trees levels place → 0 < length (written_of s levels)
    → GoesOn (respaced s trees) (written_of s levels)
unfolding blank line_end
goes_on s limits trees ended some = record { next = line_feed; rest = []; separates = refl; is = refl }
goes_on s limits trees (went {levels = levels} {place = place} e after found steps course) some =
    let more = more_written s limits levels after place e found (λ inner. some) steps in
    before_element s (respaced s trees) (written_of s levels) e.first e.end (line_written e) some
    (rw (element_written s limits levels after place e found (λ inner. some) steps) at (goes_on s limits trees course (omega arith)))
