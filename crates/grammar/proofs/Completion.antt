-- Tokens that take the machine to where a program may end, given by their classes alone: each has a spelling of its own, and
-- where they stand does not matter, but that no line end lies before them: behind `throw` none may.
use mathlib.Core.Path.{◌≡◌, refl, sym, ap, subst}
use mathlib.Core.Bool.{Bool, false, not}
use mathlib.Core.List.{List, [], ◌∷◌}
use Prim.Native.Nat.{ℕ}
use lib.Dec.{T, eqb}
use Rattle.machine.specs.Tokens.{Token, token, Spot, name, else_word, while_word, catch_word, finally_word, colon, semicolon, open_paren, close_paren, close_bracket, open_brace, close_brace}
use Rattle.machine.specs.Operators.{is_among}
use Rattle.machine.specs.Machinery.Machine.{
  end_of_text,
  Frame,
  Closing,
  close,
  Value,
  done_value,
  statement_value,
  value_of,
  Nest,
  if_nest,
  else_nest,
  do_nest,
  Control,
  statement_done,
  catch_done,
  try_ended,
  finished,
  Action,
  leave,
  otherwise,
  look,
  row,
  Open,
  nested,
  State,
  live,
  act,
  consume,
}
use Rattle.machine.proofs.Ran.{ran}
use Rattle.grammar.proofs.TableLaws.{look_past, each_class, at_class}

-- the classes that a completion needs; no slash is among them, and nothing that starts with one
pub data Spelled : ℕ → Type 0 where
  spelled_name : Spelled name
  spelled_colon : Spelled colon
  spelled_semicolon : Spelled semicolon
  spelled_open_paren : Spelled open_paren
  spelled_close_paren : Spelled close_paren
  spelled_close_bracket : Spelled close_bracket
  spelled_open_brace : Spelled open_brace
  spelled_close_brace : Spelled close_brace
  spelled_while : Spelled while_word
  spelled_catch : Spelled catch_word

-- a test that each passes
abbrev spelled_classes : List ℕ
spelled_classes =
    name ∷ colon ∷ semicolon ∷ open_paren ∷ close_paren ∷ close_bracket ∷ open_brace ∷ close_brace ∷ while_word ∷ catch_word ∷ []

at_spelled : {class : ℕ} (test : ℕ → Bool) → T (each_class test spelled_classes) → Spelled class → T (test class)
at_spelled {class} test each spelled = at_class test spelled_classes class (among spelled) each
  where
    among : {class : ℕ} → Spelled class → T (is_among spelled_classes class)
    among spelled_name = tt
    among spelled_colon = tt
    among spelled_semicolon = tt
    among spelled_open_paren = tt
    among spelled_close_paren = tt
    among spelled_close_bracket = tt
    among spelled_open_brace = tt
    among spelled_close_brace = tt
    among spelled_while = tt
    among spelled_catch = tt

pub data AllSpelled : List ℕ → Type 0 where
  none_spelled : AllSpelled []
  more_spelled : {class : ℕ} {classes : List ℕ} → Spelled class → AllSpelled classes → AllSpelled (class ∷ classes)

-- tokens of these classes, wherever they stand with no line end before them
pub data OfClasses : List ℕ → List Token → Type 0 where
  no_tokens : OfClasses [] []
  more_tokens : {class : ℕ} {spot : Spot} {classes : List ℕ} {more : List Token} → spot.newline ≡ false → OfClasses classes more
      → OfClasses (class ∷ classes) (token class spot ∷ more)

-- the same spot, with no line end before it
abbrev pub inline : Spot → Spot
inline spot = record { newline = false; mark = spot.mark; first = spot.first }

-- tokens of these classes take a state to where a program may end: the text's end is taken there
abbrev pub Ends : List ℕ → State → Type 0
Ends [] state = (stop : Spot) → (f : Frame) × (consume state (token end_of_text stop) ≡ live finished f [])
Ends (class ∷ classes) state = (spot : Spot) → Ends classes (consume state (token class (inline spot)))

pub ends_run : {classes : List ℕ} {more : List Token} (state : State) → OfClasses classes more → Ends classes state
    → (stop : Spot) → (f : Frame) × (ran stop state more ≡ live finished f [])
ends_run state no_tokens ends stop = ends stop
ends_run state (more_tokens {class = class} {spot = spot} {classes = classes} same tokens) ends stop =
    let is : inline spot ≡ spot = ap (λ (newline : Bool). record { newline = newline; mark = spot.mark; first = spot.first }) (sym same) in
    ends_run (consume state (token class spot)) tokens (subst (λ (z : Spot). Ends classes (consume state (token class z))) is (ends spot)) stop

-- a control and what is open around it can be completed, whatever the frame
pub record Completion (control : Control) (around : List Open) : Type 0 where
  pub classes : List ℕ
  pub spelled : AllSpelled classes
  pub ends : (f : Frame) → Ends classes (live control f around)

-- through a token of one more class
pub through : {class : ℕ} {control next : Control} {around beyond : List Open} → Spelled class → (c : Completion next beyond)
    → ((f : Frame) (spot : Spot) → Ends c.classes (consume (live control f around) (token class (inline spot)))) → Completion control around
through {class} spelled c ends = record { classes = class ∷ c.classes; spelled = more_spelled spelled c.spelled; ends = ends }

-- where a nest may be complete, and the value that it is then left with
pub data NestDone : Control → Value → Type 0 where
  statement-done : (nest : Nest) → NestDone (statement_done nest) statement_value
  catch-done : NestDone catch_done done_value
  try-done : NestDone try_ended done_value

-- it is left at any token but an `else` or a `finally`
leaves : {control : Control} {value : Value} → NestDone control value → (newline : Bool) (class : ℕ) → T (not (eqb class else_word))
    → T (not (eqb class finally_word)) → look class (row control newline) ≡ leave value
leaves (statement-done if_nest) newline class no-else no-finally = look_past class else_word _ (otherwise (leave statement_value) ∷ []) no-else
leaves (statement-done else_nest) newline class no-else no-finally = refl
leaves (statement-done do_nest) newline class no-else no-finally = refl
leaves catch-done newline class no-else no-finally = look_past class finally_word _ (otherwise (leave done_value) ∷ []) no-finally
leaves try-done newline class no-else no-finally = refl

-- and completed by what completes what stands around it
leave_ends : {control : Control} {value : Value} {classes : List ℕ} → NestDone control value → (behind : Control) (closing : Closing) (mark : ℕ) (g : Frame)
    (around : List Open) (f : Frame) → AllSpelled classes → Ends classes (live behind (close closing mark (value_of value f) g) around)
    → Ends classes (live control f (nested behind closing mark g ∷ around))
leave_ends nest behind closing mark g around f none_spelled ends = λ stop.
    subst (λ (z : Action). (h : Frame) × (act z end_of_text stop f (nested behind closing mark g ∷ around) ≡ live finished h []))
    (sym (leaves nest stop.newline end_of_text tt tt)) (ends stop)
leave_ends nest behind closing mark g around f (more_spelled {class = class} {classes = classes} spelled all) ends = λ spot.
    subst (λ (z : Action). Ends classes (act z class (inline spot) f (nested behind closing mark g ∷ around)))
    (sym
    (leaves nest false class (at_spelled (λ x. not (eqb x else_word)) tt spelled) (at_spelled (λ x. not (eqb x finally_word)) tt spelled))) (ends spot)

pub out_of_nest : {control : Control} {value : Value} {behind : Control} {closing : Closing} {mark : ℕ} {g : Frame} {around : List Open}
    → NestDone control value → Completion behind around → Completion control (nested behind closing mark g ∷ around)
out_of_nest {behind = behind} {closing = closing} {mark = mark} {g = g} {around = around} nest c =
    record { classes = c.classes; spelled = c.spelled; ends = λ f. leave_ends nest behind closing mark g around f c.spelled (c.ends _) }
