-- What holds before the first element, and is kept by each step, tells of the whole reading.
use Rattle.std.specs.Prelude.{Ok, Err, Some, None}
use mathlib.Core.Path.{◌≡◌, refl}
use mathlib.Core.List.{List}
use Prim.Native.Nat.{ℕ, zero, suc}
use lib.ListN.{length}
use Rattle.answers.specs.Faults.{fault_number, fault_place}
use Rattle.answers.specs.declared.faults.Fault.{Fault}
use Rattle.elements.specs.Elements.{element_at}
use Rattle.elements.specs.declared.Element.{Element}
use Rattle.elements.specs.Elements.{Next}
use Rattle.rule.specs.Trees.{Trees, none}
use Rattle.rule.specs.Levels.{Levels, whole_text, inside, stated_by}
use Rattle.prefix.specs.Reading.{Limits, Step, stop, more, step, Reading, accepted, refused, ending, read_on, reading}
use Rattle.prefix.proofs.ReadingLaws.{read_end, read_fault, read_stop, read_more}

module _ (bytes : List ℕ) (limits : Limits) (P : Levels → ℕ → Type 0) (Q : Reading → Type 0)
    (ends : (levels : Levels) (place : ℕ) → P levels place → Q (ending levels))
    (faults : (levels : Levels) (place : ℕ) (fault : Fault) → P levels place → element_at bytes place (stated_by levels) ≡ Err fault
    → Q (refused (fault_number fault) (fault_place fault)))
    (stops : (levels : Levels) (place : ℕ) (e : Element) (number at : ℕ) → P levels place → element_at bytes place (stated_by levels) ≡ Ok (Some e)
    → step limits levels e ≡ stop number at → Q (refused number at))
    (goes_on : (levels : Levels) (place : ℕ) (e : Element) (after : Levels) → P levels place → element_at bytes place (stated_by levels) ≡ Ok (Some e)
    → step limits levels e ≡ more after → P after e.end)
  where
    pub read_on_tells : (fuel : ℕ) (levels : Levels) (place : ℕ) → P levels place → Q (read_on bytes limits fuel levels place)
    unfolding read_on
    read_on_tells zero levels place p = ends levels place p
    read_on_tells (suc fuel) levels place p = found (element_at bytes place (stated_by levels)) refl (λ after next. read_on_tells fuel after next)
      where
        stepped : (e : Element) (y : Step) → element_at bytes place (stated_by levels) ≡ Ok (Some e) → step limits levels e ≡ y
            → ((after : Levels) (next : ℕ) → P after next → Q (read_on bytes limits fuel after next))
            → Q (read_on bytes limits (suc fuel) levels place)
        stepped e (stop n q) f s rest = rw (read_stop bytes limits fuel levels place e f n q s) (stops levels place e n q p f s)
        stepped e (more after) f s rest = rw (read_more bytes limits fuel levels place e f after s) (rest after e.end (goes_on levels place e after p f s))

        found : (next : Next) → element_at bytes place (stated_by levels) ≡ next
            → ((after : Levels) (q : ℕ) → P after q → Q (read_on bytes limits fuel after q))
            → Q (read_on bytes limits (suc fuel) levels place)
        found (Ok None) f rest = rw (read_end bytes limits fuel levels place f) (ends levels place p)
        found (Err fault) f rest = rw (read_fault bytes limits fuel levels place fault f) (faults levels place fault p f)
        found (Ok (Some e)) f rest = stepped e (step limits levels e) f refl rest

    pub reading_tells : P (whole_text none) 0 → Q (reading bytes limits)
    unfolding reading
    reading_tells p = read_on_tells (suc (length bytes)) (whole_text none) 0 p

-- a property of the trees of a reading, if it is accepted
abbrev pub Accepts : (Trees → Type 0) → Reading → Type 0
Accepts P (accepted trees) = P trees
Accepts P (refused number place) = Unit {0}

pub ending_accepts : (P : Levels → Type 0) (levels : Levels) → P levels → Accepts (λ trees. P (whole_text trees)) (ending levels)
ending_accepts P (whole_text trees) p = p
ending_accepts P (inside around kind first newline trees) p = tt

-- what holds of the levels before the first element, and is kept by each step, holds of the trees
module _ (bytes : List ℕ) (limits : Limits) (P : Levels → Type 0)
    (kept : (levels : Levels) (e : Element) (after : Levels) → P levels → step limits levels e ≡ more after → P after)
  where
    pub read_on_accepts : (fuel : ℕ) (levels : Levels) (place : ℕ) → P levels → Accepts (λ trees. P (whole_text trees)) (read_on bytes limits fuel levels place)
    read_on_accepts =
        read_on_tells bytes limits (λ levels place. P levels) (Accepts (λ trees. P (whole_text trees)))
        (λ levels place p. ending_accepts P levels p)
        (λ levels place fault p f. tt)
        (λ levels place e number at p f s. tt)
        (λ levels place e after p f s. kept levels e after p s)

    pub reading_accepts : P (whole_text none) → Accepts (λ trees. P (whole_text trees)) (reading bytes limits)
    unfolding reading
    reading_accepts p = read_on_accepts (suc (length bytes)) (whole_text none) 0 p
