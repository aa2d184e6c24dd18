-- Where a token stands in the text decides only where the machine dies, not whether.
use mathlib.Core.Path.{◌≡◌, refl}
use mathlib.Core.Bool.{Bool}
use mathlib.Core.List.{List, [], ◌∷◌}
use Prim.Native.Nat.{ℕ}
use native.Mathlib.Omega.{arith}
use Rattle.machine.specs.Tokens.{token, Spot}
use Rattle.machine.specs.Syntax.{Syntax}
use Rattle.machine.specs.Machinery.Machine.{
  Frame,
  close,
  Control,
  Action,
  fail,
  goto,
  push,
  enter,
  pop,
  leave,
  ask,
  turn,
  finish,
  look,
  row,
  Open,
  grouped,
  nested,
  asking,
  State,
  dead,
  live,
  pop_in,
  head_in,
  pop_to,
  turn_to,
  finish_in,
  act_by,
  leave_to,
  consume,
}

-- the same state, or both dead
pub data Alike : State → State → Type 0 where
  alike : {state : State} → Alike state state
  both_dead : {place other : ℕ} → Alike (dead place) (dead other)

pub alike_live : {state other : State} → Alike state other → {control : Control} {f : Frame} {around : List Open} → state ≡ live control f around
    → other ≡ live control f around
alike_live alike e = e
alike_live both_dead e = absurd (let z : ◌≡◌ {A = ℕ} 0 1 = cc in omega arith)

pub alike_dead : {state other : State} → Alike state other → {place : ℕ} → state ≡ dead place → (there : ℕ) × (other ≡ dead there)
alike_dead alike {place} e = (place, e)
alike_dead (both_dead {other = other}) e = (other, refl)

-- two tokens that differ in their first byte alone
module _ (newline : Bool) (mark here there : ℕ) where
  abbrev one : Spot
  one = record { newline = newline; mark = mark; first = here }

  abbrev other : Spot
  other = record { newline = newline; mark = mark; first = there }

  pops_alike : (value : Syntax) (around : List Open) → Alike (pop_to here value around) (pop_to there value around)
  pops_alike value [] = both_dead
  pops_alike value (grouped behind closing mark f ∷ around) = alike
  pops_alike value (nested behind closing mark f ∷ around) = both_dead
  pops_alike value (asking ending mark f ∷ around) = both_dead

  turns_alike : (value : Syntax) (around : List Open) → Alike (turn_to here value around) (turn_to there value around)
  turns_alike value [] = both_dead
  turns_alike value (grouped behind closing mark f ∷ around) = both_dead
  turns_alike value (nested behind closing mark f ∷ around) = both_dead
  turns_alike value (asking ending mark f ∷ around) = alike

  finishes_alike : (f : Frame) (around : List Open) → Alike (finish_in here f around) (finish_in there f around)
  finishes_alike f [] = alike
  finishes_alike f (h ∷ around) = both_dead

  acts_alike : (out away : Syntax → State) → ((value : Syntax) → Alike (out value) (away value)) → (action : Action) (f : Frame) (around : List Open)
      → Alike (act_by out action one f around) (act_by away action other f around)
  acts_alike out away left fail f around = both_dead
  acts_alike out away left (goto control effect) f around = alike
  acts_alike out away left (push inside behind closing) f around = alike
  acts_alike out away left (enter inside effect outer behind closing) f around = alike
  acts_alike out away left (pop value) f around = pops_alike _ around
  acts_alike out away left (leave value) f around = left _
  acts_alike out away left (ask ending) f around = alike
  acts_alike out away left pop_in f around = pops_alike _ (head_in around)
  acts_alike out away left turn f around = turns_alike _ around
  acts_alike out away left finish f around = finishes_alike f around

  leaves_alike : (class : ℕ) (around : List Open) (value : Syntax) → Alike (leave_to class one around value) (leave_to class other around value)
  leaves_alike class [] value = both_dead
  leaves_alike class (grouped behind closing opened f ∷ around) value = both_dead
  leaves_alike class (asking ending opened f ∷ around) value = both_dead
  leaves_alike class (nested behind closing opened f ∷ around) value =
      acts_alike (leave_to class one around) (leave_to class other around) (leaves_alike class around) (look class (row behind newline))
      (close closing opened value f) around

  pub take_alike : (class : ℕ) {state away : State} → Alike state away → Alike (consume state (token class one)) (consume away (token class other))
  take_alike class (alike {state = dead place}) = alike
  take_alike class (alike {state = live control f around}) =
      acts_alike (leave_to class one around) (leave_to class other around) (leaves_alike class around) (look class (row control newline)) f around
  take_alike class both_dead = both_dead
