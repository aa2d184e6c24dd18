-- The loop of a reading: the levels of which something is kept read the rest of the text as the whole is read.
use Rattle.std.specs.Prelude.{Ok, Err, Some, None}
use mathlib.Core.Path.{◌≡◌, refl, ap, ◌∙◌}
use mathlib.Core.Bool.{Bool, true, false}
use mathlib.Core.List.{List}
use Prim.Native.Nat.{ℕ, zero, suc, ◌+◌, ◌≤◌}
use native.Mathlib.Omega.{arith}
use lib.ListN.{length}
use Rattle.answers.specs.Faults.{fault_number, fault_place}
use Rattle.answers.specs.declared.faults.Fault.{Fault}
use Rattle.elements.specs.Elements.{element_at}
use Rattle.elements.specs.declared.Element.{Element}
use Rattle.elements.specs.Elements.{Next}
use Rattle.elements.specs.declared.Stated.{Stated}
use Rattle.elements.proofs.Bounds.{Placed, found_placed}
use Rattle.rule.specs.Trees.{none, count}
use Rattle.rule.specs.Levels.{Levels, whole_text, stated_by}
use Rattle.prefix.specs.Reading.{Limits, Step, step, read_on, reading}
use Rattle.prefix.specs.Machinery.Represents.{Represents}
use Rattle.prefix.specs.declared.State.{State}
use Rattle.prefix.proofs.ReadingLaws.{read_end, read_fault, read_stop, read_more}
use Rattle.storing.specs.Records.{records}
use Rattle.spacing.specs.Respaced.{add_trees}
use Rattle.spacing.proofs.OverLaws.{over_nothing}
use Rattle.keeping.specs.Machinery.Keeping.{Lent, tag_of, Keeps, MayTake}
use Rattle.turns.specs.Machinery.Turns.{limits_for, Turned, goes_on, ends, MayRead, Runs, ran, halted}
use Rattle.turns.specs.declared.Reached.{Reached}

-- what the loop holds: there is fuel for the rest of the text
pub record At (spaced : Bool) (bytes : List ℕ) (was is : Lent) (room : ℕ) (reached : Reached) (place : ℕ) : Type 0 where
  pub levels : Levels
  pub fuel : ℕ
  pub meets : reading bytes (limits_for room) ≡ read_on bytes (limits_for room) (suc fuel) levels place
  pub enough : length bytes ≤ place + fuel
  pub inside : place ≤ length bytes
  pub keeps : Keeps spaced bytes was is room reached.state reached.written place levels

module _ (bytes : List ℕ) (was : Lent) (room : ℕ) where
  start_keeps : (spaced : Bool) (state : State) → MayRead spaced bytes was.trees was.stack room → Represents (tag_of spaced) was.stack state (whole_text none)
      → Keeps spaced bytes was was room state 0 0 (whole_text none)
  unfolding Keeps records count add_trees
  start_keeps true state may represented =
      record { represented = represented; output_is = over_nothing was.output; at_is = refl; few = omega arith; length_is = refl; stack_is = may.stack_is }
  start_keeps false state may represented =
      record
      { represented = represented; cells_are = refl; some = omega arith; room_fits = may.room_fits refl; room_small = may.room_small; length_is = refl; stack_is = may.stack_is }

  pub start_at : (spaced : Bool) (state : State) → MayRead spaced bytes was.trees was.stack room → Represents (tag_of spaced) was.stack state (whole_text none)
      → At spaced bytes was was room (record { state = state; written = 0 }) 0
  unfolding reading
  start_at spaced state may represented =
      record { levels = whole_text none; fuel = length bytes; meets = refl; enough = omega arith; inside = omega arith; keeps = start_keeps spaced state may represented }

  module _ (spaced : Bool) (is : Lent) (reached : Reached) (place : ℕ) (here : At spaced bytes was is room reached place) (stated : Stated) (p : stated ≡ stated_by here.levels) where
    limits : Limits
    limits = limits_for room

    -- the element that the rule's answer gives
    same : (next : Next) → element_at bytes place stated ≡ next → element_at bytes place (stated_by here.levels) ≡ next
    same next e = rw p at e

    pub at_end : element_at bytes place stated ≡ Ok None → Runs spaced bytes was is room (Ok reached)
    unfolding limits
    at_end e = ran here.levels here.keeps here.inside (here.meets ∙ read_end bytes limits here.fuel here.levels place (same (Ok None) e))

    pub at_fault : (after : Lent) (fault : Fault) → element_at bytes place stated ≡ Err fault
        → Runs spaced bytes was after room (Err fault)
    unfolding limits
    at_fault after fault e = halted {fault = fault} (here.meets ∙ read_fault bytes limits here.fuel here.levels place fault (same (Err fault) e))

    module _ (e : Element) (found : element_at bytes place stated ≡ Ok (Some e)) where
      placed : Placed bytes place e
      placed = found_placed bytes place stated e found

      pub may_take : MayRead spaced bytes was.trees was.stack room → MayTake spaced bytes is room reached.state reached.written e
      may_take may =
          record {
            was = was;
            place = place;
            levels = here.levels;
            keeps = here.keeps;
            near = placed.from;
            some = placed.some;
            within = placed.within;
            short = omega (arith, may.short);
            room_small = may.room_small;
          }

      stopped_by : (after : Lent) {fault : Fault} {y : Step} → step limits here.levels e ≡ y → Turned spaced bytes was after room e.end (Err fault) y
          → Runs spaced bytes was after room (Err fault)
      unfolding limits
      stopped_by after {fault} s ends =
          halted {fault = fault} (here.meets ∙ read_stop bytes limits here.fuel here.levels place e (same (Ok (Some e)) found) (fault_number fault) (fault_place fault) s)

      pub at_stop : (after : Lent) (fault : Fault) → Turned spaced bytes was after room e.end (Err fault) (step (limits_for room) here.levels e)
          → Runs spaced bytes was after room (Err fault)
      unfolding limits
      at_stop after fault t = stopped_by after refl t

      gone_on : (after : Lent) {to : Reached} {y : Step} (k : ℕ) → here.fuel ≡ suc k → step limits here.levels e ≡ y
          → Turned spaced bytes was after room e.end (Ok to) y → At spaced bytes was after room to e.end
      unfolding limits
      gone_on after k f s (goes_on {levels = next} h) =
          record {
            levels = next;
            fuel = k;
            meets = here.meets ∙ read_more bytes limits here.fuel here.levels place e (same (Ok (Some e)) found) next s ∙ ap (λ (n : ℕ). read_on bytes limits n next e.end) f;
            enough = omega (arith, here.enough, placed.from, placed.some);
            inside = placed.within;
            keeps = h;
          }

      pub at_more : (after : Lent) (to : Reached) → Turned spaced bytes was after room e.end (Ok to) (step (limits_for room) here.levels e)
          → At spaced bytes was after room to e.end
      unfolding limits
      at_more after to t = go here.fuel refl
        where
          go : (f : ℕ) → here.fuel ≡ f → At spaced bytes was after room to e.end
          go zero z = absurd (omega (arith, here.enough, placed.from, placed.some, placed.within))
          go (suc k) z = gone_on after k z refl t
