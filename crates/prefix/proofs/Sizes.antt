-- The records and the depth of levels, as a reading goes on: a step adds one at most, and takes none away.
use mathlib.Core.Path.{◌≡◌, refl}
use mathlib.Core.List.{List}
use Prim.Native.Nat.{ℕ, ◌+◌, max, ◌≤◌, ◌<◌}
use native.Mathlib.Omega.{arith}
use Rattle.elements.specs.declared.Element.{Element}
use Rattle.rule.specs.Trees.{Trees, leaf, group, count, deepest}
use Rattle.rule.specs.Levels.{Levels, whole_text, inside, settled_in, depth, count_so_far, on_top}
use Rattle.prefix.specs.Reading.{Limits, accepted, read_on, reading}
use Rattle.prefix.proofs.Induction.{Accepts, read_on_accepts, reading_accepts}
use Rattle.prefix.proofs.StateLaws.{depth_on_top, count_on_top}
use Rattle.prefix.proofs.StepCases.{Taken, leaf_taken, open_taken, close_taken, step_taken}

-- the most groups open at once so far
abbrev pub reached : Levels → ℕ
reached (whole_text trees) = deepest trees
reached (inside around kind first newline trees) = max (reached around) (depth around + 1 + deepest trees)

depth_reached : (levels : Levels) → depth levels ≤ reached levels
depth_reached (whole_text trees) = omega arith
depth_reached (inside around kind first newline trees) = omega arith

reached_on_top : (add : Trees → Trees) (n : ℕ) → ((trees : Trees) → deepest (add trees) ≡ max (deepest trees) n)
    → (levels : Levels) → reached (on_top add levels) ≡ max (reached levels) (depth levels + n)
reached_on_top add n more (whole_text trees) = omega (arith, more trees)
reached_on_top add n more (inside around kind first newline trees) = omega (arith, more trees)

-- the sizes after a step, beside those before it and the limits
pub record Grown (limits : Limits) (levels after : Levels) : Type 0 where
  pub count_kept : count_so_far levels ≤ count_so_far after
  pub count_next : count_so_far after ≤ count_so_far levels + 1
  pub count_fits : count_so_far after ≤ max (count_so_far levels) limits.room
  pub depth_next : depth after ≤ depth levels + 1
  pub reached_kept : reached levels ≤ reached after
  pub reached_fits : reached after ≤ max (reached levels) limits.groups

pub taken_grown : (e : Element) {limits : Limits} {levels after : Levels} → Taken limits e levels after → Grown limits levels after
unfolding count deepest
taken_grown e (leaf_taken {levels = levels} k r) =
    let add : Trees → Trees = λ before. leaf before (settled_in levels e) in
    omega (arith, count_on_top add 1 (λ t. refl) levels, depth_on_top add levels, reached_on_top add 0 (λ t. omega arith) levels, depth_reached levels)
taken_grown e (open_taken {levels = levels} l h d r) = omega arith
taken_grown e (close_taken {around = around} {kind = kind} {first = first} {newline = newline} {trees = trees}) =
    let add : Trees → Trees = λ before. group before kind first e.end newline trees in
    omega (arith, count_on_top add (count trees + 1) (λ t. refl) around, depth_on_top add around, reached_on_top add (deepest trees + 1) (λ t. refl) around)

module _ (bytes : List ℕ) (limits : Limits) where
  -- what is accepted fits the limits
  fits : Accepts (λ trees. (count trees ≤ limits.room) × (deepest trees ≤ limits.groups)) (reading bytes limits)
  unfolding count deepest
  fits =
      reading_accepts bytes limits (λ levels. (count_so_far levels ≤ limits.room) × (reached levels ≤ limits.groups))
      (λ levels e after p s. omega (arith, taken_grown e (step_taken limits e levels after s)))
      (omega arith)

  pub accepted_fits : (trees : Trees) → reading bytes limits ≡ accepted trees → (count trees ≤ limits.room) × (deepest trees ≤ limits.groups)
  accepted_fits trees a = rw a at fits

  -- a size that no step takes from: where the levels pass a number, the trees do
  pub passed : (size : Levels → ℕ) → ((levels after : Levels) → Grown limits levels after → size levels ≤ size after)
      → (n fuel : ℕ) (levels : Levels) (place : ℕ) → n < size levels → Accepts (λ trees. n < size (whole_text trees)) (read_on bytes limits fuel levels place)
  passed size kept n =
      read_on_accepts bytes limits (λ levels. n < size levels)
      (λ levels e after p s. omega (arith, kept levels after (taken_grown e (step_taken limits e levels after s))))
