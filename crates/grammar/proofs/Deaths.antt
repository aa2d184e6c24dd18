-- The machine dies by a token: at its first byte, and it was alive before it.
use mathlib.Core.Path.{◌≡◌, refl, sym, ◌∙◌, ap}
use mathlib.Core.Bool.{false}
use mathlib.Core.List.{List, [], ◌∷◌, ◌++◌}
use Prim.Native.Nat.{ℕ}
use native.Mathlib.Omega.{arith}
use Rattle.machine.specs.Tokens.{Token, token, Spot}
use Rattle.machine.specs.Syntax.{Syntax}
use Rattle.grammar.specs.Grammar.{body}
use Rattle.machine.specs.Machinery.Machine.{
  Frame,
  empty,
  close,
  among,
  Control,
  statement_due,
  Action,
  fail,
  goto,
  push,
  enter,
  pop,
  leave,
  ask,
  turn,
  finish,
  look,
  row,
  Open,
  grouped,
  nested,
  asking,
  State,
  dead,
  live,
  pop_in,
  head_in,
  pop_to,
  turn_to,
  finish_in,
  act_by,
  leave_to,
  consume,
  run,
  start,
}
use Rattle.machine.proofs.Ran.{stays_dead}

-- if the state is dead, it died at a place
abbrev DeadAt : ℕ → State → Type 0
DeadAt place (dead there) = there ≡ place
DeadAt place (live control f around) = Unit {0}

pop_dies : (place : ℕ) (value : Syntax) (around : List Open) → DeadAt place (pop_to place value around)
pop_dies place value [] = refl
pop_dies place value (grouped behind closing mark f ∷ around) = tt
pop_dies place value (nested behind closing mark f ∷ around) = refl
pop_dies place value (asking ending mark f ∷ around) = refl

turn_dies : (place : ℕ) (value : Syntax) (around : List Open) → DeadAt place (turn_to place value around)
turn_dies place value [] = refl
turn_dies place value (grouped behind closing mark f ∷ around) = refl
turn_dies place value (nested behind closing mark f ∷ around) = refl
turn_dies place value (asking ending mark f ∷ around) = tt

finish_dies : (place : ℕ) (f : Frame) (around : List Open) → DeadAt place (finish_in place f around)
finish_dies place f [] = tt
finish_dies place f (h ∷ around) = refl

module _ (class : ℕ) (spot : Spot) where
  act_dies : (out : Syntax → State) → ((value : Syntax) → DeadAt spot.first (out value)) → (action : Action) (f : Frame) (around : List Open)
      → DeadAt spot.first (act_by out action spot f around)
  act_dies out left fail f around = refl
  act_dies out left (goto control effect) f around = tt
  act_dies out left (push inside behind closing) f around = tt
  act_dies out left (enter inside effect outer behind closing) f around = tt
  act_dies out left (pop value) f around = pop_dies spot.first _ around
  act_dies out left (leave value) f around = left _
  act_dies out left (ask ending) f around = tt
  act_dies out left pop_in f around = pop_dies spot.first _ (head_in around)
  act_dies out left turn f around = turn_dies spot.first _ around
  act_dies out left finish f around = finish_dies spot.first f around

  leave_dies : (around : List Open) (value : Syntax) → DeadAt spot.first (leave_to class spot around value)
  leave_dies [] value = refl
  leave_dies (grouped behind closing opened f ∷ around) value = refl
  leave_dies (asking ending opened f ∷ around) value = refl
  leave_dies (nested behind closing opened f ∷ around) value =
      act_dies (leave_to class spot around) (leave_dies around) (look class (row behind spot.newline)) (close closing opened value f) around

  take_dies : (control : Control) (f : Frame) (around : List Open) → DeadAt spot.first (consume (live control f around) (token class spot))
  take_dies control f around =
      act_dies (leave_to class spot around) (leave_dies around) (look class (row control spot.newline)) f around

-- a run from a state dies at a place: by a token there, and the tokens before it are followed
pub record Death (state : State) (ts : List Token) (place : ℕ) : Type 0 where
  pub before : List Token
  pub class : ℕ
  pub spot : Spot
  pub after : List Token
  pub split : ts ≡ before ++ (token class spot ∷ after)
  pub control : Control
  pub f : Frame
  pub around : List Open
  pub alive : run state before ≡ live control f around
  pub dies : run state (before ++ (token class spot ∷ [])) ≡ dead place
  pub here : spot.first ≡ place

pub death_from : (control : Control) (f : Frame) (around : List Open) (ts : List Token) (place : ℕ) → run (live control f around) ts ≡ dead place
    → Death (live control f around) ts place
death_from control f around [] place e = absurd (let z : ◌≡◌ {A = ℕ} 0 1 = cc in omega arith)
death_from control f around (token class spot ∷ ts) place e =
    go (consume (live control f around) (token class spot)) refl (take_dies class spot control f around) e (λ next g outside. death_from next g outside ts place)
  where
    go : (state : State) → consume (live control f around) (token class spot) ≡ state → DeadAt spot.first state → run state ts ≡ dead place
        → ((next : Control) (g : Frame) (outside : List Open) → run (live next g outside) ts ≡ dead place → Death (live next g outside) ts place)
        → Death (live control f around) (token class spot ∷ ts) place
    go (dead there) q at e later =
        let same : there ≡ place = cc (stays_dead there ts) in
        record {
          before = [];
          class = class;
          spot = spot;
          after = ts;
          split = refl;
          control = control;
          f = f;
          around = around;
          alive = refl;
          dies = q ∙ ap dead same;
          here = sym at ∙ same;
        }
    go (live next g outside) q at e later =
        let d = later next g outside e in
        record {
          before = token class spot ∷ d.before;
          class = d.class;
          spot = d.spot;
          after = d.after;
          split = ap (λ (z : List Token). token class spot ∷ z) d.split;
          control = d.control;
          f = d.f;
          around = d.around;
          alive = ap (λ (z : State). run z d.before) q ∙ d.alive;
          dies = ap (λ (z : State). run z (d.before ++ (token d.class d.spot ∷ []))) q ∙ d.dies;
          here = d.here;
        }

pub death : (ts : List Token) (place : ℕ) → run start ts ≡ dead place → Death start ts place
death ts place e = death_from (statement_due false (among body)) empty [] ts place e
