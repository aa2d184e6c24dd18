-- A `?` is open behind an operand, and is answered, as the level has it.
use mathlib.Core.Path.{◌≡◌, refl, ◌∙◌, ap}
use mathlib.Core.List.{List, ◌∷◌}
use Prim.Native.Nat.{ℕ, ◌+◌, ◌-◌, ◌≤◌, ◌<◌}
use native.Mathlib.Omega.{arith}
use lib.ListN.{length, get_or}
use Rattle.tables.specs.Records.{most_trees}
use Rattle.machine.specs.Tokens.{question}
use Rattle.machine.specs.Syntax.{Syntax, nil}
use Rattle.machine.specs.Operators.{least_binary}
use Rattle.machine.specs.Machinery.Machine as machine
use Rattle.machine.specs.Machinery.Machine.{Frame, wrap, empty, operand_of, value_of, expression_value, some_target, by_colon, Control, operand_due, asking}
use Rattle.controls.specs.Machinery.Numbers.{control_of}
use Rattle.controls.specs.Machinery.Steps.{Ended}
use Rattle.controls.specs.declared.Control as code
use Rattle.waiting.specs.Machinery.Waiting.{nothing_waits, Closes, stack_with, stack_as, waiting_one, restarted}
use Rattle.waiting.specs.declared.Level.{Level}
use Rattle.waiting.specs.declared.Waiting.{Waiting}
use Rattle.frames.specs.Machinery.Stands.{asked, asked_in, AskNumber, Stands}
use Rattle.frames.specs.Machinery.Effects.{TurnedTo}
use Rattle.frames.proofs.CloseLaws.{below_stops, close_reduces, reduce_wraps}
use Rattle.frames.proofs.CarryLaws.{stands, closes_lightens, carries_closed, carries_expression, carries_asked, Answering, carries_answered}
use Rattle.frames.proofs.AtLaws.{AtEnded, at_ended}

-- what stands behind an open `?` is the rest of its left side
turned : {g : Frame} {nests : List machine.Open} {table : List ℕ} {stack₀ : List Waiting} {first floor next : ℕ} {r : Level} {stack : List Waiting} {after : List ℕ} {c : code.Control} {value : Syntax} (kind : ℕ)
    → value_of expression_value g ≡ value → (a : Answering nests table stack₀ first floor value r stack after)
    → r.count + r.top ≤ first + floor + next → first + floor + next ≤ most_trees → (get_or stack (r.top - 1) nothing_waits).kind ≡ kind → control_of c ≡ operand_due (asked_in kind) some_target
    → TurnedTo g nests table stack₀ first floor next (record { control = c; level = restarted r }) (stack_as stack r.top question) after
turned kind value_is a passes few at control_is =
    let same : kind ≡ a.kind = omega (arith, a.stacked) in
    record {
      ending = asked_in a.kind;
      mark = a.mark;
      f = machine.frame a.done a.starts a.waiting a.condition;
      rest = a.rest;
      is = a.is;
      control_is = rw same at control_is;
      stands = rw value_is (stands nil a.carries (refl, a.within) tt (omega arith) few);
    }

module _ {g : Frame} {nests : List machine.Open} {table : List ℕ} {stack₀ : List Waiting} {first floor passed : ℕ} {l r : Level} {stack : List Waiting} {cells after : List ℕ}
    (f : r.floor ≡ l.floor) (w : r.held ≡ l.held) where
  -- what is binary or tighter is closed, and the condition waits
  pub asks : {from : Control} (kind mark : ℕ) → first + floor + passed < most_trees → AskNumber kind → mark ≤ most_trees → l.top < length stack → Closes (least_binary + 1) l stack cells r after
      → Ended from (asked_in kind) → Stands from g nests table stack₀ first floor passed l stack cells
      → Stands (operand_due by_colon some_target) empty (asking (asked_in kind) mark (machine.reduced least_binary g) ∷ nests) table stack₀ first floor (passed + 1) (waiting_one r)
      (stack_with stack r.top kind mark r.start) after
  asks kind mark more many small fits closes ended s =
      let e = at_ended ended s in
      let h = e.carries in
      let k = close_reduces least_binary e.done e.operand (omega arith) h.operators h.beginnings (below_stops h.below) in
      let light = closes_lightens _ h.holds f closes in
      rw (e.is, k.is)
      (stands nil
      (carries_asked kind mark (carries_closed h least_binary f w closes k) e.within many (omega (arith, light, e.passes)) small (omega (arith, light)))
      (refl, (refl, refl, asked)) tt (omega (arith, light, e.passes)) (omega arith))

  -- all operators behind it are closed
  pub answering : (e : AtEnded by_colon g nests table stack₀ first floor passed l stack cells) → Closes 2 l stack cells r after
      → Answering nests table stack₀ first floor (wrap e.waiting e.operand) r stack after
  answering e closes = carries_answered e.within.2 (rw (e.within.0, e.within.1) at (carries_expression e.carries f w closes))

  pub turns : {c : code.Control} (kind : ℕ) → first + floor + passed < most_trees → (e : AtEnded by_colon g nests table stack₀ first floor passed l stack cells) → Closes 2 l stack cells r after
      → (get_or stack (r.top - 1) nothing_waits).kind ≡ kind → control_of c ≡ operand_due (asked_in kind) some_target
      → TurnedTo g nests table stack₀ first floor (passed + 1) (record { control = c; level = restarted r }) (stack_as stack r.top question) after
  turns kind more e closes at control_is =
      let light = closes_lightens _ e.carries.holds f closes in
      turned kind (ap (value_of expression_value) e.is ∙ ap operand_of (reduce_wraps e.done e.starts e.waiting e.operand)) (answering e closes)
      (omega (arith, light, e.passes)) (omega arith) at control_is
