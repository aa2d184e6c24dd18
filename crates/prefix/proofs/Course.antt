-- The course of an accepted reading: the elements that it takes, one after the other, and the levels that each leaves.
use Rattle.std.specs.Prelude.{Ok, Some}
use mathlib.Core.Path.{◌≡◌}
use mathlib.Core.List.{List}
use Prim.Native.Nat.{ℕ}
use Rattle.elements.specs.Elements.{element_at}
use Rattle.elements.specs.declared.Element.{Element}
use Rattle.rule.specs.Trees.{Trees, none}
use Rattle.rule.specs.Levels.{Levels, whole_text, inside, stated_by}
use Rattle.prefix.specs.Reading.{Limits, more, step, Reading, accepted, refused, ending, reading}
use Rattle.prefix.proofs.Induction.{reading_tells}

-- from levels at a place to the trees of the whole text
pub data Course (bytes : List ℕ) (limits : Limits) (trees : Trees) : Levels → ℕ → Type 0 where
  ended : {place : ℕ} → Course bytes limits trees (whole_text trees) place
  went : {levels : Levels} {place : ℕ} (e : Element) (after : Levels) → element_at bytes place (stated_by levels) ≡ Ok (Some e)
      → step limits levels e ≡ more after → Course bytes limits trees after e.end → Course bytes limits trees levels place

module _ (bytes : List ℕ) (limits : Limits) where
  -- the courses that go on from here are the ends of whole ones
  abbrev Completes : Levels → ℕ → Type 0
  Completes levels place = (trees : Trees) → Course bytes limits trees levels place → Course bytes limits trees (whole_text none) 0

  abbrev Told : Reading → Type 0
  Told (accepted trees) = Course bytes limits trees (whole_text none) 0
  Told (refused number at) = Unit {0}

  told : (levels : Levels) (place : ℕ) → Completes levels place → Told (ending levels)
  told (whole_text trees) place complete = complete trees ended
  told (inside around kind first newline trees) place complete = tt

  pub accepted_course : (trees : Trees) → reading bytes limits ≡ accepted trees → Course bytes limits trees (whole_text none) 0
  accepted_course trees e =
      rw e at
      (reading_tells bytes limits Completes Told told (λ levels place fault p f. tt) (λ levels place e number at p f s. tt)
      (λ levels place e after complete f s trees course. complete trees (went e after f s course))
      (λ trees course. course))
