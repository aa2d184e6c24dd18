-- One turn of a reading: by what stands at the place, and what the step makes of it.
use Rattle.std.specs.Prelude.{Ok, Err, Some, None}
use mathlib.Core.Path.{◌≡◌, ap, ◌∙◌}
use mathlib.Core.List.{List}
use Prim.Native.Nat.{ℕ, suc}
use Rattle.answers.specs.Faults.{fault_number, fault_place}
use Rattle.answers.specs.declared.faults.Fault.{Fault}
use Rattle.elements.specs.Elements.{element_at}
use Rattle.elements.specs.declared.Element.{Element}
use Rattle.rule.specs.Levels.{Levels, stated_by}
use Rattle.prefix.specs.Reading.{Limits, stop, more, step, Reading, refused, ending, Progress, over, on, stepped, met, proceed, read_on}

module _ (bytes : List ℕ) (limits : Limits) (fuel : ℕ) (levels : Levels) (place : ℕ) where
  pub taken : (t : Progress) → proceed bytes limits levels place ≡ t
      → read_on bytes limits (suc fuel) levels place ≡ elim t as (λ x. Reading) [ over reading ↦ reading | on after next ↦ read_on bytes limits fuel after next ]
  unfolding read_on
  taken t e = rw (e, read_on)

  pub read_end : element_at bytes place (stated_by levels) ≡ Ok None → read_on bytes limits (suc fuel) levels place ≡ ending levels
  unfolding proceed
  read_end e = taken (over (ending levels)) (ap (met limits levels) e)

  pub read_fault : (fault : Fault) → element_at bytes place (stated_by levels) ≡ Err fault
      → read_on bytes limits (suc fuel) levels place ≡ refused (fault_number fault) (fault_place fault)
  unfolding proceed
  read_fault fault e = taken (over (refused (fault_number fault) (fault_place fault))) (ap (met limits levels) e)

  module _ (e : Element) (found : element_at bytes place (stated_by levels) ≡ Ok (Some e)) where
    pub read_stop : (number at : ℕ) → step limits levels e ≡ stop number at → read_on bytes limits (suc fuel) levels place ≡ refused number at
    unfolding proceed
    read_stop number at s = taken (over (refused number at)) (ap (met limits levels) found ∙ ap (stepped e.end) s)

    pub read_more : (after : Levels) → step limits levels e ≡ more after → read_on bytes limits (suc fuel) levels place ≡ read_on bytes limits fuel after e.end
    unfolding proceed
    read_more after s = taken (on after e.end) (ap (met limits levels) found ∙ ap (stepped e.end) s)
