-- What a step that goes on has made of the levels, and where one that stops has stopped.
use mathlib.Core.Path.{◌≡◌, refl}
use mathlib.Core.Bool.{Bool, true, false, cond}
use Prim.Native.Nat.{ℕ, ◌≤◌, ◌<◌}
use native.Mathlib.Omega.{arith}
use borrow.Author.Tests.{eqb-false, leb-true, leb-false}
use lib.Dec.{eqb, leb}
use Rattle.elements.specs.Elements.{delimiter_kind, paren_opener, brace_opener, bracket_opener}
use Rattle.elements.specs.declared.Element.{Element}
use Rattle.elements.proofs.Choices.{cond_both, cond_known}
use Rattle.rule.specs.Trees.{Trees, none, leaf, group, paren_kind, object_kind, block_kind, bracket_kind}
use Rattle.rule.specs.Levels.{Levels, whole_text, inside, brace_opens, settled_in, depth, count_so_far, on_top}
use Rattle.prefix.specs.Reading.{Limits, Step, stop, more, add_leaf, open_group, closes, close_group, delimit, step, deep, wrong_closer, trees_full}

-- one element more, of its settled kind, one group more, or one group ended; the first two within the limits
pub data Taken (limits : Limits) (e : Element) : Levels → Levels → Type 0 where
  leaf_taken : {levels : Levels} → (e.kind ≡ 0 → ⊥) → count_so_far levels < limits.room → Taken limits e levels (on_top (λ before. leaf before (settled_in levels e)) levels)
  open_taken : {levels : Levels} {kind : ℕ} → 7 ≤ kind → kind ≤ 10 → depth levels < limits.groups → count_so_far levels < limits.room
      → Taken limits e levels (inside levels kind e.first e.newline none)
  close_taken : {around : Levels} {kind first : ℕ} {newline : Bool} {trees : Trees}
      → Taken limits e (inside around kind first newline trees) (on_top (λ before. group before kind first e.end newline trees) around)

-- why a step stops: a limit is reached, or the closer is wrong
pub data Stopped (limits : Limits) (levels : Levels) : ℕ → Type 0 where
  at_depth : limits.groups ≤ depth levels → Stopped limits levels deep
  at_room : limits.room ≤ count_so_far levels → Stopped limits levels trees_full
  at_closer : Stopped limits levels wrong_closer

-- a stop is no step onward
pub not_more : {A : Type 0} {n p : ℕ} {after : Levels} → stop n p ≡ more after → A
not_more e = absurd (let z : ◌≡◌ {A = ℕ} 0 1 = cc in omega arith)

-- what a step says: a stop stands at the element
abbrev pub Says : Limits → Element → Levels → Step → Type 0
Says limits e levels (stop n p) = (p ≡ e.first) × Stopped limits levels n
Says limits e levels (more after) = Taken limits e levels after

module _ (limits : Limits) (e : Element) where
  full_says : (levels : Levels) → leb limits.room (count_so_far levels) ≡ true → Says limits e levels (stop trees_full e.first)
  full_says levels reached = (refl, at_room (leb-true limits.room (count_so_far levels) reached))

  leaf_says : (levels : Levels) → (e.kind ≡ 0 → ⊥) → Says limits e levels (add_leaf limits levels e)
  leaf_says levels k = cond_known (Says limits e levels) (leb limits.room (count_so_far levels)) (full_says levels) (λ some. leaf_taken k (leb-false limits.room (count_so_far levels) some))

  open_says : (levels : Levels) (kind : ℕ) → 7 ≤ kind → kind ≤ 10 → Says limits e levels (open_group limits levels kind e)
  open_says levels kind l h =
      cond_known (Says limits e levels) (leb limits.groups (depth levels)) (λ reached. (refl, at_depth (leb-true limits.groups (depth levels) reached))) λ shallow.
      cond_known (Says limits e levels) (leb limits.room (count_so_far levels)) (full_says levels) λ some.
      open_taken l h (leb-false limits.groups (depth levels) shallow) (leb-false limits.room (count_so_far levels) some)

  close_says : (levels : Levels) → Says limits e levels (close_group levels e)
  close_says (whole_text trees) = (refl, at_closer)
  close_says (inside around kind first newline trees) = cond_both (Says limits e (inside around kind first newline trees)) (closes e.which kind) close_taken (refl, at_closer)

  brace_says : (levels : Levels) (b : Bool) → Says limits e levels (open_group limits levels (cond b object_kind block_kind) e)
  brace_says levels true = open_says levels object_kind (omega arith) (omega arith)
  brace_says levels false = open_says levels block_kind (omega arith) (omega arith)

  pub step_says : (levels : Levels) → Says limits e levels (step limits levels e)
  unfolding step
  step_says levels = go (eqb e.kind delimiter_kind) refl
    where
      go : (d : Bool) → eqb e.kind delimiter_kind ≡ d → Says limits e levels (cond d (delimit limits levels e) (add_leaf limits levels e))
      go true q =
          cond_both (Says limits e levels) (eqb e.which paren_opener) (open_says levels paren_kind (omega arith) (omega arith))
          (cond_both (Says limits e levels) (eqb e.which brace_opener) (brace_says levels (brace_opens levels e.newline))
          (cond_both (Says limits e levels) (eqb e.which bracket_opener) (open_says levels bracket_kind (omega arith) (omega arith)) (close_says levels)))
      go false q = leaf_says levels (eqb-false e.kind 0 q)

  pub step_taken : (levels after : Levels) → step limits levels e ≡ more after → Taken limits e levels after
  step_taken levels after s = rw s at (step_says levels)

  module _ (levels : Levels) (n p : ℕ) (s : step limits levels e ≡ stop n p) where
    stop_says : Says limits e levels (stop n p)
    stop_says = rw s at (step_says levels)

    pub step_stopped : p ≡ e.first
    step_stopped = stop_says.0

    pub step_reason : Stopped limits levels n
    step_reason = stop_says.1
