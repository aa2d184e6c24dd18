-- The fuel of a reading is never used up: the reading is what steps lead to.
use Rattle.std.specs.Prelude.{Ok, Err, Some, None}
use mathlib.Core.Path.{◌≡◌, refl, sym, subst}
use mathlib.Core.List.{List}
use Prim.Native.Nat.{ℕ, zero, suc, ◌+◌, ◌≤◌, ◌<◌}
use native.Mathlib.Omega.{arith}
use lib.ListN.{length}
use Rattle.elements.specs.Elements.{element_at}
use Rattle.elements.specs.declared.Element.{Element}
use Rattle.elements.specs.Elements.{Next}
use Rattle.elements.proofs.Bounds.{Placed, found_placed}
use Rattle.rule.specs.Trees.{none}
use Rattle.rule.specs.Levels.{Levels, whole_text, stated_by}
use Rattle.prefix.specs.Reading.{Limits, Step, stop, more, step, Reading, proceed, read_on, reading, Comes, comes_over, comes_on}
use Rattle.prefix.proofs.ReadingLaws.{read_end, read_fault, read_stop, read_more}

module _ (bytes : List ℕ) (limits : Limits) where
  -- each element has a byte of its own, so that what is left of the text falls with the fuel
  comes : (fuel : ℕ) (levels : Levels) (place : ℕ) → length bytes < place + fuel → place ≤ length bytes
      → Comes bytes limits (read_on bytes limits fuel levels place) levels place
  unfolding proceed
  comes zero levels place enough h = absurd (omega arith)
  comes (suc fuel) levels place enough h = found (element_at bytes place (stated_by levels)) refl (λ after next enough h. comes fuel after next enough h)
    where
      Rest : Type 0
      Rest = (after : Levels) (next : ℕ) → length bytes < next + fuel → next ≤ length bytes → Comes bytes limits (read_on bytes limits fuel after next) after next

      Here : Reading → Type 0
      Here read = Comes bytes limits read levels place

      stepped : (e : Element) (y : Step) → element_at bytes place (stated_by levels) ≡ Ok (Some e) → step limits levels e ≡ y → Rest
          → Here (read_on bytes limits (suc fuel) levels place)
      stepped e (stop n q) f s rest = subst Here (sym (read_stop bytes limits fuel levels place e f n q s)) (comes_over (rw (f, s)))
      stepped e (more after) f s rest =
          let p : Placed bytes place e = found_placed bytes place (stated_by levels) e f in
          subst Here (sym (read_more bytes limits fuel levels place e f after s)) (comes_on (rw (f, s)) (rest after e.end (omega arith) p.within))

      found : (next : Next) → element_at bytes place (stated_by levels) ≡ next → Rest → Here (read_on bytes limits (suc fuel) levels place)
      found (Ok None) f rest = subst Here (sym (read_end bytes limits fuel levels place f)) (comes_over (rw f))
      found (Err fault) f rest = subst Here (sym (read_fault bytes limits fuel levels place fault f)) (comes_over (rw f))
      found (Ok (Some e)) f rest = stepped e (step limits levels e) f refl rest

  pub reading_comes : Comes bytes limits (reading bytes limits) (whole_text none) 0
  unfolding reading
  reading_comes = comes (suc (length bytes)) (whole_text none) 0 (omega arith) (omega arith)
