-- What a leaf, an opener and a closer make of the output.
use mathlib.Core.Path.{◌≡◌, refl, ◌∙◌}
use mathlib.Core.List.{List}
use mathlib.Core.Bool.{Bool}
use Prim.Native.Nat.{ℕ, ◌+◌, ◌-◌, ◌<◌, ◌≤◌}
use native.Mathlib.Omega.{arith}
use lib.ListN.{length}
use Rattle.elements.specs.declared.Element.{Element}
use Rattle.rule.specs.Trees.{Trees, none, leaf, group}
use Rattle.rule.specs.Levels.{Levels, whole_text, inside, on_top}
use Rattle.prefix.specs.Machinery.Represents.{Represents, Closes, closed}
use Rattle.prefix.specs.declared.State.{State}
use Rattle.prefix.specs.declared.OpenGroup.{OpenGroup}
use Rattle.spacing.specs.Respaced.{add_element, add_closer, add_trees}
use Rattle.spacing.specs.Machinery.Over.{over, Puts}
use Rattle.spacing.specs.Machinery.Written.{opener_place, written_of, Writes}

-- a leaf more, and a group ended
pub written_leaf : (bytes : List ℕ) (e : Element) (levels : Levels)
    → written_of bytes (on_top (λ before. leaf before e) levels) ≡ add_element bytes (written_of bytes levels) e.first e.end e.newline
unfolding add_trees
written_leaf bytes e (whole_text trees) = refl
written_leaf bytes e (inside around kind first newline trees) = refl

pub written_group : (bytes : List ℕ) (kind first end : ℕ) (newline : Bool) (trees : Trees) (around : Levels)
    → written_of bytes (on_top (λ before. group before kind first end newline trees) around)
    ≡ add_closer bytes (add_trees bytes (add_element bytes (written_of bytes around) first (first + 1) newline) trees) (end - 1) end
unfolding add_trees
written_group bytes kind first end newline trees (whole_text t) = refl
written_group bytes kind first end newline trees (inside around k f l t) = refl

module _ (bytes old output : List ℕ) (stack after : List OpenGroup) (state : State) (at place : ℕ) (e : Element) (next : List ℕ) (to : ℕ) (near : place ≤ e.first) (some : e.first < e.end)
    (same : length after ≡ length stack) (kept : length next ≡ length output) where
  wrote : {levels : Levels} → Writes bytes old output stack state at place levels → (s : State) (then : Levels) → Represents opener_place after s then
      → to + e.first ≤ at + e.end + 1 → (to ≡ length (written_of bytes then)) × (next ≡ over (written_of bytes then) old)
      → Writes bytes old next after s to e.end then
  wrote h s then represented few p =
      record { represented = represented; output_is = p.1; at_is = p.0; few = omega (arith, h.few); length_is = kept ∙ h.length_is; stack_is = same ∙ h.stack_is }

  pub write_leaf : {levels : Levels} → Writes bytes old output stack state at place levels → (s : State) → Represents opener_place after s (on_top (λ before. leaf before e) levels)
      → to + e.first ≤ at + e.end + 1 → Puts (λ w. add_element bytes w e.first e.end e.newline) output next at to
      → Writes bytes old next after s to e.end (on_top (λ before. leaf before e) levels)
  write_leaf {levels} h s represented few put =
      wrote h s (on_top (λ before. leaf before e) levels) represented few (rw (written_leaf bytes e levels) (put (written_of bytes levels) old h.at_is h.output_is))

  pub write_opener : {levels : Levels} → Writes bytes old output stack state at place levels → (kind : ℕ) (s : State)
      → Represents opener_place after s (inside levels kind e.first e.newline none)
      → to + e.first ≤ at + (e.first + 1) + 1 → Puts (λ w. add_element bytes w e.first (e.first + 1) e.newline) output next at to
      → Writes bytes old next after s to e.end (inside levels kind e.first e.newline none)
  unfolding add_trees
  write_opener {levels} h kind s represented few put =
      wrote h s (inside levels kind e.first e.newline none) represented (omega arith) (put (written_of bytes levels) old h.at_is h.output_is)

  pub write_closer : {m : ℕ} {levels outer : Levels} → Closes opener_place e m levels outer → Writes bytes old output stack state at place levels → (s : State)
      → Represents opener_place after s outer → to + (e.end - 1) ≤ at + e.end + 1 → Puts (λ w. add_closer bytes w (e.end - 1) e.end) output next at to
      → Writes bytes old next after s to e.end outer
  write_closer (closed {around = around} {kind = kind} {first = first} {newline = newline} {trees = trees} q) h s represented few put =
      wrote h s (on_top (λ before. group before kind first e.end newline trees) around) represented (omega arith)
      (rw (written_group bytes kind first e.end newline trees around) (put (written_of bytes (inside around kind first newline trees)) old h.at_is h.output_is))
