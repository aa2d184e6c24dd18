-- A reading under limits beside the unlimited one: the same turns, until a limit is reached.
use Rattle.std.specs.Prelude.{Ok, Err, Some, None}
use mathlib.Core.Path.{◌≡◌, refl}
use mathlib.Core.List.{List}
use mathlib.Core.Bool.{Bool, true, false, cond}
use Prim.Native.Nat.{ℕ, zero, suc, ◌≤◌, ◌<◌}
use native.Mathlib.Omega.{arith}
use borrow.Author.Tests.{leb-true, lt-leb}
use lib.Dec.{eqb, leb}
use lib.ListN.{length}
use Rattle.elements.specs.Elements.{element_at, delimiter_kind, paren_opener, brace_opener, bracket_opener}
use Rattle.elements.specs.declared.Element.{Element}
use Rattle.elements.specs.Elements.{Next}
use Rattle.elements.proofs.Choices.{cond_known}
use Rattle.elements.proofs.Bounds.{found_placed, fault_numbered}
use Rattle.rule.specs.Trees.{Trees, none, leaf, count, deepest, paren_kind, object_kind, block_kind, bracket_kind}
use Rattle.rule.specs.Levels.{Levels, whole_text, inside, stated_by, brace_opens, settled_in, depth, count_so_far, on_top}
use Rattle.prefix.specs.Reading.{
  Limits,
  Step,
  stop,
  more,
  add_leaf,
  open_group,
  close_group,
  step,
  deep,
  trees_full,
  Reading,
  accepted,
  refused,
  ending,
  read_on,
  reading,
  unlimited,
  unlimited_reading,
}
use Rattle.prefix.proofs.ReadingLaws.{read_end, read_fault, read_stop, read_more}
use Rattle.prefix.proofs.Induction.{Accepts, reading_tells}
use Rattle.prefix.proofs.StateLaws.{count_on_top}
use Rattle.prefix.proofs.StepCases.{Stopped, at_depth, at_room, at_closer, step_taken, step_reason}
use Rattle.prefix.proofs.Sizes.{reached, taken_grown, passed}
use Rattle.prefix.specs.Limits.{NoLimit}

-- a step under limits, beside the same under limits that are not reached there
data StepUnder (limits : Limits) : Step → Step → Type 0 where
  same_step : {s : Step} → StepUnder limits s s
  full_step : {place : ℕ} {after : Levels} → limits.room < count_so_far after → StepUnder limits (stop trees_full place) (more after)
  deep_step : {place : ℕ} {after : Levels} → limits.groups < reached after → StepUnder limits (stop deep place) (more after)

module _ (limits free : Limits) (levels : Levels) (e : Element) (some : count_so_far levels < free.room) (shallow : depth levels < free.groups) where
  leaf_under : StepUnder limits (add_leaf limits levels e) (add_leaf free levels e)
  unfolding count
  leaf_under =
      let add : Trees → Trees = λ before. leaf before (settled_in levels e) in
      rw (lt-leb free.room (count_so_far levels) some)
      (cond_known (λ s. StepUnder limits s (more (on_top add levels))) (leb limits.room (count_so_far levels))
      (λ full. full_step (omega (arith, leb-true limits.room (count_so_far levels) full, count_on_top add 1 (λ t. refl) levels)))
      (λ rest. same_step))

  open_under : (kind : ℕ) → StepUnder limits (open_group limits levels kind e) (open_group free levels kind e)
  unfolding count deepest
  open_under kind =
      let P : Step → Type 0 = λ s. StepUnder limits s (more (inside levels kind e.first e.newline none)) in
      rw (lt-leb free.groups (depth levels) shallow, lt-leb free.room (count_so_far levels) some)
      (cond_known P (leb limits.groups (depth levels)) (λ full. deep_step (omega (arith, leb-true limits.groups (depth levels) full))) λ shallow.
      cond_known P (leb limits.room (count_so_far levels)) (λ full. full_step (omega (arith, leb-true limits.room (count_so_far levels) full))) λ rest.
      same_step)

  step_under : StepUnder limits (step limits levels e) (step free levels e)
  unfolding step
  step_under = go (eqb e.kind delimiter_kind) (eqb e.which paren_opener) (eqb e.which brace_opener) (brace_opens levels e.newline) (eqb e.which bracket_opener)
    where
      go : (d p b o k : Bool)
          → StepUnder limits
          (cond d
          (cond p (open_group limits levels paren_kind e) (cond b (open_group limits levels (cond o object_kind block_kind) e) (cond k (open_group limits levels bracket_kind e) (close_group levels e))))
          (add_leaf limits levels e))
          (cond d
          (cond p (open_group free levels paren_kind e) (cond b (open_group free levels (cond o object_kind block_kind) e) (cond k (open_group free levels bracket_kind e) (close_group levels e))))
          (add_leaf free levels e))
      go true true b o k = open_under paren_kind
      go true false true o k = open_under (cond o object_kind block_kind)
      go true false false o true = open_under bracket_kind
      go true false false o false = same_step
      go false p b o k = leaf_under

-- A reading under limits, beside the unlimited one: the same, or refused for a limit that the trees pass, if there are any.
pub data Under (limits : Limits) : Reading → Reading → Type 0 where
  same : {r : Reading} → Under limits r r
  full : {place : ℕ} {r : Reading} → Accepts (λ trees. limits.room < count trees) r → Under limits (refused trees_full place) r
  deeper : {place : ℕ} {r : Reading} → Accepts (λ trees. limits.groups < deepest trees) r → Under limits (refused deep place) r

-- levels at a place have at most as many records, and groups open, as there are bytes before it
record Small (levels : Levels) (place : ℕ) : Type 0 where
  count_small : count_so_far levels ≤ place
  depth_small : depth levels ≤ place

abbrev NoLimitRefused : Reading → Type 0
NoLimitRefused (accepted trees) = Unit {0}
NoLimitRefused (refused number place) = NoLimit number

module _ (bytes : List ℕ) where
  module _ (levels : Levels) (place : ℕ) (e : Element) (p : Small levels place) (f : element_at bytes place (stated_by levels) ≡ Ok (Some e)) where
    -- each element has a byte of its own
    not_reached : (count_so_far levels < length bytes) × (depth levels < length bytes)
    not_reached = omega (arith, found_placed bytes place (stated_by levels) e f)

    small_next : (limits : Limits) (after : Levels) → step limits levels e ≡ more after → Small after e.end
    small_next limits after s = omega (arith, found_placed bytes place (stated_by levels) e f, taken_grown e (step_taken limits e levels after s))

    stop_no_limit : (number : ℕ) → Stopped (unlimited bytes) levels number → NoLimit number
    stop_no_limit number (at_depth h) = absurd (omega (arith, not_reached))
    stop_no_limit number (at_room h) = absurd (omega (arith, not_reached))
    stop_no_limit number at_closer = omega arith

  ending_no_limit : (levels : Levels) → NoLimitRefused (ending levels)
  ending_no_limit (whole_text trees) = tt
  ending_no_limit (inside around kind first newline trees) = omega arith

  unlimited_refused : NoLimitRefused (unlimited_reading bytes)
  unfolding count
  unlimited_refused =
      reading_tells bytes (unlimited bytes) Small NoLimitRefused
      (λ levels place p. ending_no_limit levels)
      (λ levels place fault p f. omega (arith, fault_numbered bytes place (stated_by levels) fault f))
      (λ levels place e number at p f s. stop_no_limit levels place e p f number (step_reason (unlimited bytes) e levels number at s))
      (λ levels place e after p f s. small_next levels place e p f (unlimited bytes) after s)
      (omega arith)

  -- no refusal without limits is for a limit
  pub unlimited_number : (number place : ℕ) → unlimited_reading bytes ≡ refused number place → NoLimit number
  unlimited_number number place r = rw r at unlimited_refused

  module _ (limits : Limits) where
    abbrev UnderFrom : ℕ → Levels → ℕ → Type 0
    UnderFrom fuel levels place = Under limits (read_on bytes limits fuel levels place) (read_on bytes (unlimited bytes) fuel levels place)

    read_under : (fuel : ℕ) (levels : Levels) (place : ℕ) → Small levels place → UnderFrom fuel levels place
    unfolding read_on
    read_under zero levels place p = same
    read_under (suc fuel) levels place p = found (element_at bytes place (stated_by levels)) refl (λ after next. read_under fuel after next)
      where
        steps : (e : Element) → element_at bytes place (stated_by levels) ≡ Ok (Some e)
            → {x y : Step} → StepUnder limits x y → step limits levels e ≡ x → step (unlimited bytes) levels e ≡ y
            → ((after : Levels) (next : ℕ) → Small after next → UnderFrom fuel after next) → UnderFrom (suc fuel) levels place
        steps e f (same_step {s = stop n at}) x y rest =
            rw (read_stop bytes limits fuel levels place e f n at x, read_stop bytes (unlimited bytes) fuel levels place e f n at y) same
        steps e f (same_step {s = more after}) x y rest =
            rw (read_more bytes limits fuel levels place e f after x, read_more bytes (unlimited bytes) fuel levels place e f after y)
            (rest after e.end (small_next levels place e p f limits after x))
        steps e f (full_step {place = at} {after = after} h) x y rest =
            rw (read_stop bytes limits fuel levels place e f trees_full at x, read_more bytes (unlimited bytes) fuel levels place e f after y)
            (full (passed bytes (unlimited bytes) count_so_far (λ l a g. g.count_kept) limits.room fuel after e.end h))
        steps e f (deep_step {place = at} {after = after} h) x y rest =
            rw (read_stop bytes limits fuel levels place e f deep at x, read_more bytes (unlimited bytes) fuel levels place e f after y)
            (deeper (passed bytes (unlimited bytes) reached (λ l a g. g.reached_kept) limits.groups fuel after e.end h))

        found : (next : Next) → element_at bytes place (stated_by levels) ≡ next
            → ((after : Levels) (at : ℕ) → Small after at → UnderFrom fuel after at) → UnderFrom (suc fuel) levels place
        found (Ok None) f rest = rw (read_end bytes limits fuel levels place f, read_end bytes (unlimited bytes) fuel levels place f) same
        found (Err fault) f rest = rw (read_fault bytes limits fuel levels place fault f, read_fault bytes (unlimited bytes) fuel levels place fault f) same
        found (Ok (Some e)) f rest =
            let h = not_reached levels place e p f in
            steps e f (step_under limits (unlimited bytes) levels e h.0 h.1) refl refl rest

    pub reading_under : Under limits (reading bytes limits) (unlimited_reading bytes)
    unfolding reading count
    reading_under = read_under (suc (length bytes)) (whole_text none) 0 (omega arith)
