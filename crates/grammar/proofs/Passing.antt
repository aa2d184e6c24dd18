-- The machine passes an expression: the run stands behind its last operand, with operators pending that close to its syntax.
use mathlib.Core.Path.{◌≡◌, refl, ◌∙◌, ap}
use mathlib.Core.Bool.{Bool, true, false, not}
use mathlib.Core.List.{List, [], ◌∷◌}
use Prim.Native.Nat.{ℕ, ◌≤◌}
use native.Mathlib.Omega.{arith}
use lib.Dec.{T, leb→le}
use Rattle.machine.specs.Tokens.{Token, token, Spot, name, assign, question, comma, colon, semicolon, close_paren, close_bracket, in_word}
use Rattle.machine.specs.Syntax.{Syntax, nil, node, snoc, expression_syntax, variable_syntax}
use Rattle.grammar.specs.Grammar.{
  precedence,
  least_binary,
  assignment_operators,
  binary_operators_by,
  postfix_operators,
  postfix_kind,
  is_among,
  Items,
  call_arguments,
  array_elements,
  object_properties,
}
use Rattle.machine.specs.Machinery.Machine.{
  in_for,
  Pending,
  pending,
  Frame,
  frame,
  empty,
  new_precedence,
  tightness,
  threshold,
  reduce,
  complete_statement,
  complete_expression,
  complete_value,
  complete_variable,
  complete_head,
  headed,
  operand_of,
  done_of,
  await,
  answered,
  postfixed,
  take_operator,
  end_value,
  Closing,
  close,
  to_statement,
  Setting,
  in_clause,
  Variables,
  in_statement,
  in_head,
  is_first,
  later_variables,
  behind_variables,
  Target,
  no_target,
  some_target,
  lone_target,
  is_target,
  allows_in,
  Ending,
  by_statement,
  by_return,
  by_variable,
  by_start,
  by_test,
  by_step,
  by_object,
  by_case,
  by_paren,
  by_bracket,
  by_colon,
  by_item,
  Control,
  behind_statement,
  behind_comma,
  operand_due,
  operand_done,
  postfix_done,
  variable_due,
  variable_named,
  statement_due,
  start_due,
  test_due,
  step_due,
  clause_due,
  item_due,
  list_closer,
  Action,
  goto,
  look,
  ending_row,
  after_unary,
  row,
  Open,
  grouped,
  nested,
  asking,
  State,
  live,
  act,
  consume,
}
use Rattle.machine.proofs.Ran.{ran}
use Rattle.grammar.proofs.TableLaws.{binary_by, binary_threshold, assignment_threshold}
use Rattle.grammar.proofs.ReduceLaws.{Looser, reduce_stops, reduce_closes}
use Rattle.grammar.proofs.Beginnings.{between_variables, HeadPart, start_part, test_part, step_part}
use Rattle.grammar.proofs.Following.{UnaryDone, past_postfix, expression_ends, takes_comma, look_assignment, look_postfix, look_behind_unary, look_binary, look_question, look_end, look_comma}

from_none : (n : ℕ) → 0 ≤ n
from_none n = omega arith

itself : (n : ℕ) → n ≤ n
itself n = omega arith

through : (a b c : ℕ) → a ≤ b → b ≤ c → a ≤ c
through a b c h k = omega arith

-- From a state the run comes from the tokens before an expression to those after it, and stands at a control. The operators that were waiting
-- still are, and those that have come close to the value, if closed by one that binds no tighter than the expression's operators.
pub record Reached (stop : Spot) (control : Control) (done : Syntax) (starts : List Pending) (around : List Open) (least : ℕ) (waiting : List Pending)
    (from : State) (before after : List Token) (value : Syntax) : Type 0 where
  pub unclosed : List Pending
  pub last : Syntax
  pub runs : ran stop from before ≡ ran stop (live control (frame done starts unclosed last) around) after
  pub closes : (n : ℕ) → n ≤ least → reduce n done starts unclosed last ≡ reduce n done starts waiting value

-- the same, and the control is one behind a Unary
pub record Passed (stop : Spot) (ending : Ending) (done : Syntax) (starts : List Pending) (around : List Open) (least : ℕ) (waiting : List Pending)
    (from : State) (before after : List Token) (value : Syntax) : Type 0 where
  pub control : Control
  pub ends : UnaryDone ending control
  pub reached : Reached stop control done starts around least waiting from before after value

module _ {stop : Spot} {ending : Ending} {done : Syntax} {starts : List Pending} {around : List Open} {least : ℕ} {waiting : List Pending}
    {from : State} {before : List Token} {value : Syntax} where
  -- the token behind it is looked up
  met : {class : ℕ} {spot : Spot} {after : List Token}
      (p : Passed stop ending done starts around least waiting from before (token class spot ∷ after) value) → T (is_among expression_ends class)
      → ran stop from before
      ≡ ran stop (act (look class (ending_row ending)) class spot (frame done starts p.reached.unclosed p.reached.last) around) after
  met {class} {spot} {after} p h =
      p.reached.runs
      ∙ ap (λ (z : Action). ran stop (act z class spot (frame done starts p.reached.unclosed p.reached.last) around) after)
      (look_end p.ends spot.newline class h)

  pub passed_down : {lower : ℕ} {after : List Token} → lower ≤ least → Passed stop ending done starts around least waiting from before after value
      → Passed stop ending done starts around lower waiting from before after value
  passed_down {lower} down p = record {
    control = p.control;
    ends = p.ends;
    reached = record {
      unclosed = p.reached.unclosed;
      last = p.reached.last;
      runs = p.reached.runs;
      closes = λ n h. p.reached.closes n (through n lower least h down);
    };
  }

-- the endings that stand for a closer
pub data ClosedBy : Ending → ℕ → Type 0 where
  by-paren : ClosedBy by_paren close_paren
  by-bracket : ClosedBy by_bracket close_bracket

closer_listed : {ending : Ending} {class : ℕ} → ClosedBy ending class → T (is_among expression_ends class)
closer_listed by-paren = tt
closer_listed by-bracket = tt

list_closer_listed : (items : Items) → T (is_among expression_ends (list_closer items))
list_closer_listed call_arguments = tt
list_closer_listed array_elements = tt
list_closer_listed object_properties = tt

-- what the closer of a group does behind an expression, and that of a list behind an item
module _ (behind : Control) (closing : Closing) (mark : ℕ) (f : Frame) (around : List Open) (closer : Spot) where
  group_closed : {ending : Ending} {class : ℕ} → ClosedBy ending class → (unclosed : List Pending) (last : Syntax)
      → act (look class (ending_row ending)) class closer (frame nil [] unclosed last) (grouped behind closing mark f ∷ around)
      ≡ live behind (close closing mark (operand_of (reduce 0 nil [] unclosed last)) f) around
  group_closed by-paren unclosed last = refl
  group_closed by-bracket unclosed last = refl

  last_closed : (items : Items) (done : Syntax) (unclosed : List Pending) (last : Syntax)
      → act (look (list_closer items) (ending_row (by_item items))) (list_closer items) closer (frame done [] unclosed last)
      (grouped behind closing mark f ∷ around) ≡ live behind (close closing mark (done_of (complete_value (reduce 0 done [] unclosed last))) f) around
  last_closed call_arguments done unclosed last = refl
  last_closed array_elements done unclosed last = refl
  last_closed object_properties done unclosed last = refl

-- the ends of an expression: a group's closer, `;`, and `,`
module _ {stop : Spot} {least : ℕ} {behind : Control} {closing : Closing} {mark : ℕ} {f : Frame} {around : List Open} {closer : Spot}
    {inside after : List Token} {value : Syntax} where
  pub group_passed : {ending : Ending} {class : ℕ} → ClosedBy ending class
      → Passed stop ending nil [] (grouped behind closing mark f ∷ around) least []
      (live (operand_due ending some_target) empty (grouped behind closing mark f ∷ around)) inside (token class closer ∷ after) value
      → ran stop (live (operand_due ending some_target) empty (grouped behind closing mark f ∷ around)) inside
      ≡ ran stop (live behind (close closing mark value f) around) after
  group_passed closed p =
      met p (closer_listed closed)
      ∙ ap (λ (z : State). ran stop z after)
      (group_closed behind closing mark f around closer closed p.reached.unclosed p.reached.last)
      ∙ ap (λ (z : Frame). ran stop (live behind (close closing mark (operand_of z) f) around) after) (p.reached.closes 0 (from_none least))

module _ {stop : Spot} {least : ℕ} {done : Syntax} {starts : List Pending} {around : List Open} {from : State} {before after : List Token}
    {value : Syntax} where
  pub expression_passed : {setting : Setting} {end : Spot}
      → Passed stop (by_statement setting) done starts around least [] from before (token semicolon end ∷ after) value
      → ran stop from before
      ≡ ran stop (live (behind_statement setting) (complete_statement done starts (node expression_syntax end.mark value nil)) around) after
  expression_passed {setting} {end} p =
      met p tt
      ∙ ap (λ (z : Frame). ran stop (live (behind_statement setting) (complete_expression end.mark z) around) after)
      (p.reached.closes 0 (from_none least))

  pub return_passed : {setting : Setting} {end : Spot}
      → Passed stop (by_return setting) done starts around least [] from before (token semicolon end ∷ after) value
      → ran stop from before ≡ ran stop (live (behind_statement setting) (complete_statement done starts value) around) after
  return_passed {setting} p =
      met p tt
      ∙ ap (λ (z : Frame). ran stop (live (behind_statement setting) (complete_value z) around) after) (p.reached.closes 0 (from_none least))

  -- behind an item stands a `,`
  pub item_passed : {items : Items} {sign : Spot} → Passed stop (by_item items) done starts around least [] from before (token comma sign ∷ after) value
      → ran stop from before ≡ ran stop (live (behind_comma items) (complete_statement done starts value) around) after
  item_passed {items} p =
      met p tt ∙ ap (λ (z : Frame). ran stop (live (behind_comma items) (complete_value z) around) after) (p.reached.closes 0 (from_none least))

-- The run comes from the tokens of a list to those after it, where the closer ends the list with its value.
pub record ListPassed (stop : Spot) (items : Items) (behind : Control) (closing : Closing) (mark : ℕ) (f : Frame) (around : List Open) (before after : List Token)
    (value : Syntax) : Type 0 where
  pub control : Control
  pub last : Frame
  pub runs : ran stop (live (item_due items) empty (grouped behind closing mark f ∷ around)) before
      ≡ ran stop (live control last (grouped behind closing mark f ∷ around)) after
  pub closes : (closer : Spot) → consume (live control last (grouped behind closing mark f ∷ around)) (token (list_closer items) closer)
      ≡ live behind (close closing mark value f) around

module _ {stop : Spot} {behind : Control} {closing : Closing} {mark : ℕ} {f : Frame} {around : List Open} {before after : List Token} {value : Syntax} where
  pub list_passed : {items : Items} {closer : Spot} → ListPassed stop items behind closing mark f around before (token (list_closer items) closer ∷ after) value
      → ran stop (live (item_due items) empty (grouped behind closing mark f ∷ around)) before ≡ ran stop (live behind (close closing mark value f) around) after
  list_passed {closer = closer} p = p.runs ∙ ap (λ (z : State). ran stop z after) (p.closes closer)

  -- the list ends with an item
  pub last_passed : {items : Items} {least : ℕ} {done : Syntax} {from : State} {middle : List Token}
      → ran stop (live (item_due items) empty (grouped behind closing mark f ∷ around)) before ≡ ran stop from middle
      → Passed stop (by_item items) done [] (grouped behind closing mark f ∷ around) least [] from middle after value
      → ListPassed stop items behind closing mark f around before after (snoc done value)
  last_passed {items} {least} {done} runs p =
      let last = frame done [] p.reached.unclosed p.reached.last in
      record {
        control = p.control;
        last = last;
        runs = runs ∙ p.reached.runs;
        closes = λ closer. ap (λ (z : Action). act z (list_closer items) closer last (grouped behind closing mark f ∷ around))
            (look_end p.ends closer.newline (list_closer items) (list_closer_listed items))
            ∙ last_closed behind closing mark f around closer items done p.reached.unclosed p.reached.last
            ∙ ap (λ (z : Frame). live behind (close closing mark (done_of (complete_value z)) f) around) (p.reached.closes 0 (from_none least));
      }

-- The run comes from the tokens of a variable to those after it, with the `var` that waits for it around it: there a `;` ends the variables, a `,` the
-- variable, and, if it is the first in the head of a `for`, `in` them too.
pub record VariablePassed (stop : Spot) (place : Variables) (done : Syntax) (word mark : ℕ) (variables : Syntax) (starts : List Pending) (around : List Open)
    (before after : List Token) (value : Syntax) : Type 0 where
  pub control : Control
  pub last : Frame
  pub runs : ran stop (live (variable_due place) (frame done (pending word mark variables ∷ starts) [] nil) around) before
      ≡ ran stop (live control last around) after
  pub ends : (end : Spot) → consume (live control last around) (token semicolon end)
      ≡ live (behind_variables place) (complete_statement done starts (node word mark variables value)) around
  pub joins : (sign : Spot) → consume (live control last around) (token comma sign)
      ≡ live (variable_due (later_variables place)) (frame done (pending word mark (snoc variables value) ∷ starts) [] nil) around
  pub leads : T (is_first place) → (sign : Spot) → consume (live control last around) (token in_word sign)
      ≡ live (operand_due by_object some_target) (complete_statement done starts (node word mark variables value)) around

module _ {stop : Spot} {place : Variables} {done : Syntax} {word mark : ℕ} {variables : Syntax} {starts : List Pending} {around : List Open} where
  pub bare_passed : {called : Spot} {after : List Token}
      → VariablePassed stop place done word mark variables starts around (token name called ∷ after) after (node variable_syntax called.mark nil nil)
  bare_passed {called} = record {
    control = variable_named place;
    last = frame done (pending variable_syntax called.mark nil ∷ pending word mark variables ∷ starts) [] nil;
    runs = refl;
    ends = λ end. refl;
    joins = λ sign. refl;
    leads = λ first sign. only place first sign;
  }
    where
      only : (place : Variables) → T (is_first place) → (sign : Spot)
          → consume (live (variable_named place) (frame done (pending variable_syntax called.mark nil ∷ pending word mark variables ∷ starts) [] nil) around)
          (token in_word sign)
          ≡ live (operand_due by_object some_target) (complete_statement done starts (node word mark variables (node variable_syntax called.mark nil nil))) around
      only (in_statement setting) first sign = absurd first
      only (in_head true) first sign = refl
      only (in_head false) first sign = absurd first

  -- a variable with an initialiser, which is passed
  pub initialised_passed : {called sign : Spot} {least : ℕ} {before after : List Token} {value : Syntax}
      → (let here = pending variable_syntax called.mark nil ∷ pending word mark variables ∷ starts in
      Passed stop (by_variable place) done here around least [] (live (operand_due (by_variable place) some_target) (frame done here [] nil) around) before after value)
      → VariablePassed stop place done word mark variables starts around (token name called ∷ token assign sign ∷ before) after
      (node variable_syntax called.mark nil value)
  initialised_passed {called} {least = least} {value = value} p =
      let here = pending variable_syntax called.mark nil ∷ pending word mark variables ∷ starts in
      let last = frame done here p.reached.unclosed p.reached.last in
      record {
        control = p.control;
        last = last;
        runs = p.reached.runs;
        ends = λ end. ap (λ (z : Action). act z semicolon end last around) (look_end p.ends end.newline semicolon tt)
            ∙ ap (λ (z : Frame). live (behind_variables place) (complete_value z) around) (p.reached.closes 0 (from_none least));
        joins = λ sign. ap (λ (z : Action). act z comma sign last around) (look_end p.ends sign.newline comma tt)
            ∙ ap (λ (z : Frame). live (variable_due (later_variables place)) (complete_variable z) around) (p.reached.closes 0 (from_none least));
        leads = λ first sign. ap (λ (z : Action). act z in_word sign last around)
            (look_behind_unary p.ends sign.newline in_word tt ∙ only place first)
            ∙ ap (λ (z : Frame). live (operand_due by_object some_target) (complete_value z) around) (p.reached.closes 0 (from_none least));
      }
    where
      only : (place : Variables) → T (is_first place) → look in_word (after_unary (by_variable place)) ≡ goto (operand_due by_object some_target) end_value
      only (in_statement setting) first = absurd first
      only (in_head true) first = refl
      only (in_head false) first = absurd first

  pub variables_passed : {end : Spot} {before after : List Token} {value : Syntax}
      → VariablePassed stop place done word mark variables starts around before (token semicolon end ∷ after) value
      → ran stop (live (variable_due place) (frame done (pending word mark variables ∷ starts) [] nil) around) before
      ≡ ran stop (live (behind_variables place) (complete_statement done starts (node word mark variables value)) around) after
  variables_passed {end} {after = after} p = p.runs ∙ ap (λ (z : State). ran stop z after) (p.ends end)

  -- behind a variable stands a `,`
  pub variable_passed : {sign : Spot} {before after : List Token} {value : Syntax}
      → VariablePassed stop place done word mark variables starts around before (token comma sign ∷ after) value
      → ran stop (live (variable_due place) (frame done (pending word mark variables ∷ starts) [] nil) around) before
      ≡ ran stop (live (variable_due (later_variables place)) (frame done (pending word mark (snoc variables value) ∷ starts) [] nil) around) after
  variable_passed {sign} {after = after} p = p.runs ∙ ap (λ (z : State). ran stop z after) (p.joins sign)

  -- behind the one variable of a `for` stands `in`
  pub only_passed : {sign : Spot} {before after : List Token} {value : Syntax} → T (is_first place)
      → VariablePassed stop place done word mark variables starts around before (token in_word sign ∷ after) value
      → ran stop (live (variable_due place) (frame done (pending word mark variables ∷ starts) [] nil) around) before
      ≡ ran stop (live (operand_due by_object some_target) (complete_statement done starts (node word mark variables value)) around) after
  only_passed {sign} {after = after} first p = p.runs ∙ ap (λ (z : State). ran stop z after) (p.leads first sign)

-- one behind a `,` is a later one, and has `in` or not as the first has
pub later_between : (place : Variables) (first : Bool) → later_variables (between_variables place first) ≡ between_variables place false
later_between (in_statement setting) first = refl
later_between (in_head only) first = refl

pub between_allows : (place : Variables) (first : Bool) → allows_in (by_variable (between_variables place first)) ≡ allows_in (by_variable place)
between_allows (in_statement setting) first = refl
between_allows (in_head only) first = refl

-- The run comes from where a part of the head of a `for` may begin to the tokens after it, where the class that ends it is looked up with its value.
pub record PartPassed (stop : Spot) (due : Control) (ending : Ending) (class : ℕ) (done : Syntax) (around : List Open) (before after : List Token) (value : Syntax) : Type 0 where
  pub control : Control
  pub unclosed : List Pending
  pub last : Syntax
  pub runs : ran stop (live due (frame done [] [] nil) around) before ≡ ran stop (live control (frame done [] unclosed last) around) after
  pub looks : (newline : Bool) → look class (row control newline) ≡ look class (ending_row ending)
  pub closes : reduce 0 done [] unclosed last ≡ frame done [] [] value

module _ {stop : Spot} {due : Control} {ending : Ending} {class : ℕ} {done : Syntax} {around : List Open} where
  -- the part is left out
  pub none_passed : {target : Target} {here : List Token} → HeadPart due ending target class → PartPassed stop due ending class done around here here nil
  none_passed part = record { control = due; unclosed = []; last = nil; runs = refl; looks = λ newline. looked part newline; closes = refl }
    where
      looked : {due : Control} {ending : Ending} {target : Target} {class : ℕ} → HeadPart due ending target class → (newline : Bool)
          → look class (row due newline) ≡ look class (ending_row ending)
      looked start_part newline = refl
      looked test_part newline = refl
      looked step_part newline = refl

  pub part_passed : {target : Target} {least : ℕ} {before after : List Token} {value : Syntax} → HeadPart due ending target class
      → ran stop (live due (frame done [] [] nil) around) before ≡ ran stop (live (operand_due ending target) (frame done [] [] nil) around) before
      → Passed stop ending done [] around least [] (live (operand_due ending target) (frame done [] [] nil) around) before after value
      → PartPassed stop due ending class done around before after value
  part_passed {least = least} part taken p = record {
    control = p.control;
    unclosed = p.reached.unclosed;
    last = p.reached.last;
    runs = taken ∙ p.reached.runs;
    looks = λ newline. look_end p.ends newline class (listed part);
    closes = p.reached.closes 0 (from_none least);
  }
    where
      listed : {due : Control} {ending : Ending} {target : Target} {class : ℕ} → HeadPart due ending target class → T (is_among expression_ends class)
      listed start_part = tt
      listed test_part = tt
      listed step_part = tt

  -- what ends it is looked up
  part_met : {end : Spot} {before after : List Token} {value : Syntax} (p : PartPassed stop due ending class done around before (token class end ∷ after) value)
      → ran stop (live due (frame done [] [] nil) around) before
      ≡ ran stop (act (look class (ending_row ending)) class end (frame done [] p.unclosed p.last) around) after
  part_met {end} {after = after} p =
      p.runs ∙ ap (λ (z : Action). ran stop (act z class end (frame done [] p.unclosed p.last) around) after) (p.looks end.newline)

module _ {stop : Spot} {done : Syntax} {before after : List Token} {value : Syntax} where
  pub start_passed : {end : Spot} {around : List Open} → PartPassed stop start_due by_start semicolon done around before (token semicolon end ∷ after) value
      → ran stop (live start_due (frame done [] [] nil) around) before ≡ ran stop (live test_due (frame (snoc done value) [] [] nil) around) after
  start_passed {around = around} p = part_met p ∙ ap (λ (z : Frame). ran stop (live test_due (complete_value z) around) after) p.closes

  pub test_passed : {end : Spot} {around : List Open} → PartPassed stop test_due by_test semicolon done around before (token semicolon end ∷ after) value
      → ran stop (live test_due (frame done [] [] nil) around) before ≡ ran stop (live step_due (frame (snoc done value) [] [] nil) around) after
  test_passed {around = around} p = part_met p ∙ ap (λ (z : Frame). ran stop (live step_due (complete_value z) around) after) p.closes

  -- behind the start of the head `in` may stand, if that is a Target
  pub target_passed : {sign : Spot} {least : ℕ} {around : List Open} {from : State}
      → Reached stop (operand_done by_start lone_target) done [] around least [] from before (token in_word sign ∷ after) value
      → ran stop from before ≡ ran stop (live (operand_due by_object some_target) (frame (snoc done value) [] [] nil) around) after
  target_passed {least = least} {around = around} p =
      p.runs ∙ ap (λ (z : Frame). ran stop (live (operand_due by_object some_target) (complete_value z) around) after) (p.closes 0 (from_none least))

  -- the `)` of the head
  pub step_passed : {behind : Control} {closing : Closing} {mark : ℕ} {f : Frame} {around : List Open} {closer : Spot}
      → PartPassed stop step_due by_step close_paren done (grouped behind closing mark f ∷ around) before (token close_paren closer ∷ after) value
      → ran stop (live step_due (frame done [] [] nil) (grouped behind closing mark f ∷ around)) before
      ≡ ran stop (live behind (close closing mark (snoc done value) f) around) after
  step_passed {behind} {closing} {mark} {f} {around} p =
      part_met p ∙ ap (λ (z : Frame). ran stop (live behind (close closing mark (done_of (complete_value z)) f) around) after) p.closes

  pub object_passed : {least : ℕ} {from : State} {behind : Control} {closing : Closing} {mark : ℕ} {f : Frame} {around : List Open} {closer : Spot}
      → Passed stop by_object done [] (grouped behind closing mark f ∷ around) least [] from before (token close_paren closer ∷ after) value
      → ran stop from before ≡ ran stop (live behind (close (in_for closing) mark (snoc done value) f) around) after
  object_passed {least} {behind = behind} {closing = closing} {mark = mark} {f = f} {around = around} p =
      met p tt
      ∙ ap (λ (z : Frame). ran stop (live behind (close (in_for closing) mark (done_of (complete_value z)) f) around) after) (p.reached.closes 0 (from_none least))

  -- the `:` of a `case`, behind which its statements are a nest
  pub case_passed : {least : ℕ} {seen : Bool} {starts : List Pending} {around : List Open} {from : State} {sign : Spot}
      → Passed stop (by_case seen) done starts around least [] from before (token colon sign ∷ after) value
      → ran stop from before
      ≡ ran stop (live (statement_due false in_clause) empty
      (nested (clause_due seen) to_statement sign.mark (frame done (headed value starts) [] nil) ∷ around)) after
  case_passed {least} {seen} {around = around} {sign = sign} p =
      met p tt
      ∙ ap (λ (z : Frame). ran stop (live (statement_due false in_clause) empty (nested (clause_due seen) to_statement sign.mark (complete_head z) ∷ around)) after)
      (p.reached.closes 0 (from_none least))

module _ {stop : Spot} {done : Syntax} {starts : List Pending} {around : List Open} {waiting : List Pending} {from : State}
    {before after : List Token} where
  -- what has no operators pending
  pub operand_reached : {control : Control} {least : ℕ} {value : Syntax}
      → ran stop from before ≡ ran stop (live control (frame done starts waiting value) around) after
      → Reached stop control done starts around least waiting from before after value
  operand_reached {value = value} runs = record { unclosed = waiting; last = value; runs = runs; closes = λ n h. refl }

  -- `++` or `--` closes the `new`s that wait
  pub postfix_passed : {ending : Ending} {target : Target} {least class : ℕ} {sign : Spot} {value : Syntax} → T (is_among postfix_operators class)
      → T (not sign.newline) → Looser new_precedence waiting
      → Reached stop (operand_done ending target) done starts around new_precedence waiting from before (token class sign ∷ after) value
      → Passed stop ending done starts around least waiting from before after (node (postfix_kind class) sign.mark value nil)
  postfix_passed {ending} {target} {class = class} {sign = sign} {value = value} op same loose p = record {
    control = postfix_done ending;
    ends = past_postfix;
    reached = operand_reached (p.runs
        ∙ ap (λ (z : Action). ran stop (act z class sign (frame done starts p.unclosed p.last) around) after)
        (look_postfix ending target sign.newline class op same)
        ∙ ap (λ (z : Frame). ran stop (live (postfix_done ending) (postfixed (postfix_kind class) sign.mark z) around) after)
        (p.closes new_precedence (itself new_precedence) ∙ reduce_stops new_precedence done starts waiting value loose));
  }

  -- what waits is closed with the part that it waits for
  pub awaited_reached : {control : Control} {least more class mark : ℕ} {next : State} {middle : List Token} {left right : Syntax} → least ≤ tightness class
      → least ≤ more → ran stop from before ≡ ran stop next middle
      → Reached stop control done starts around more (pending class mark left ∷ waiting) next middle after right
      → Reached stop control done starts around least waiting from before after (node class mark left right)
  awaited_reached {least = least} {more = more} {class = class} {mark = mark} {left = left} {right = right} tight up runs q = record {
    unclosed = q.unclosed;
    last = q.last;
    runs = runs ∙ q.runs;
    closes = λ n h. q.closes n (through n least more h up)
        ∙ reduce_closes n done starts class mark left waiting right (through n least (tightness class) h tight);
  }

  pub awaited_passed : {ending : Ending} {least more class mark : ℕ} {next : State} {middle : List Token} {left right : Syntax} → least ≤ tightness class
      → least ≤ more → ran stop from before ≡ ran stop next middle
      → Passed stop ending done starts around more (pending class mark left ∷ waiting) next middle after right
      → Passed stop ending done starts around least waiting from before after (node class mark left right)
  awaited_passed tight up runs q =
      record { control = q.control; ends = q.ends; reached = awaited_reached tight up runs q.reached }

-- operators between operands are taken: those that bind at least as tight as they say are closed, and they wait
module _ {stop : Spot} {done : Syntax} {starts : List Pending} {around : List Open} {waiting : List Pending} {from : State} {before middle : List Token}
    {left : Syntax} where
  operator_taken : {control next : Control} {least class : ℕ} {sign : Spot} (n : ℕ) → threshold class ≡ n → n ≤ least → Looser n waiting
      → look class (row control sign.newline) ≡ goto next (take_operator class)
      → Reached stop control done starts around least waiting from before (token class sign ∷ middle) left
      → ran stop from before ≡ ran stop (live next (frame done starts (pending class sign.mark left ∷ waiting) nil) around) middle
  operator_taken {next = next} {class = class} {sign = sign} n closed under loose looked p =
      p.runs
      ∙ ap (λ (z : Action). ran stop (act z class sign (frame done starts p.unclosed p.last) around) middle) looked
      ∙ ap (λ (z : ℕ). ran stop (live next (await class sign.mark (reduce z done starts p.unclosed p.last)) around) middle) closed
      ∙ ap (λ (z : Frame). ran stop (live next (await class sign.mark z) around) middle)
      (p.closes n under ∙ reduce_stops n done starts waiting left loose)

  pub binary_taken : {ending : Ending} {class : ℕ} {sign : Spot} → T (is_among (binary_operators_by (allows_in ending)) class) → Looser (precedence class) waiting
      → Passed stop ending done starts around (precedence class) waiting from before (token class sign ∷ middle) left
      → ran stop from before ≡ ran stop (live (operand_due ending no_target) (frame done starts (pending class sign.mark left ∷ waiting) nil) around) middle
  binary_taken {ending} {class} {sign} op loose p =
      operator_taken (precedence class) (binary_threshold class (binary_by (allows_in ending) class op)) (itself (precedence class)) loose (look_binary p.ends sign.newline class op)
      p.reached

  pub assignment_taken : {ending : Ending} {target : Target} {class : ℕ} {sign : Spot} → T (is_target target) → T (is_among assignment_operators class)
      → Looser least_binary waiting → Reached stop (operand_done ending target) done starts around new_precedence waiting from before (token class sign ∷ middle) left
      → ran stop from before ≡ ran stop (live (operand_due ending some_target) (frame done starts (pending class sign.mark left ∷ waiting) nil) around) middle
  assignment_taken {ending} {target} {class} {sign} may op loose p =
      operator_taken least_binary (assignment_threshold class op) (leb→le least_binary new_precedence tt) loose
      (look_assignment ending target sign.newline class may op) p

  -- `?` closes what is binary or tighter, and its middle part stands by itself
  pub question_taken : {ending : Ending} {sign : Spot} → Looser least_binary waiting
      → Passed stop ending done starts around least_binary waiting from before (token question sign ∷ middle) left
      → ran stop from before
      ≡ ran stop (live (operand_due by_colon some_target) empty (asking ending sign.mark (frame done starts waiting left) ∷ around)) middle
  question_taken {ending} {sign} loose p =
      p.reached.runs
      ∙ ap (λ (z : Action). ran stop (act z question sign (frame done starts p.reached.unclosed p.reached.last) around) middle)
      (look_question p.ends sign.newline)
      ∙ ap (λ (z : Frame). ran stop (live (operand_due by_colon some_target) empty (asking ending sign.mark z ∷ around)) middle)
      (p.reached.closes least_binary (itself least_binary) ∙ reduce_stops least_binary done starts waiting left loose)

  -- its `:` answers it
  pub answer_taken : {ending : Ending} {least mark : ℕ} {answer : Spot} {condition : Syntax}
      → Passed stop by_colon nil [] (asking ending mark (frame done starts waiting condition) ∷ around) least [] from before (token colon answer ∷ middle) left
      → ran stop from before
      ≡ ran stop (live (operand_due ending some_target) (frame done starts (pending question mark (snoc condition left) ∷ waiting) nil) around) middle
  answer_taken {ending} {least} {mark} {condition = condition} p =
      met p tt
      ∙ ap (λ (z : Frame). ran stop (live (operand_due ending some_target) (answered mark (operand_of z) (frame done starts waiting condition)) around) middle)
      (p.reached.closes 0 (from_none least))

pub comma_taken : {stop : Spot} {ending : Ending} {done : Syntax} {starts : List Pending} {around : List Open} {from : State} {sign : Spot}
    {before middle : List Token} {left : Syntax} → T (takes_comma ending)
    → Passed stop ending done starts around (precedence comma) [] from before (token comma sign ∷ middle) left
    → ran stop from before ≡ ran stop (live (operand_due ending some_target) (frame done starts (pending comma sign.mark left ∷ []) nil) around) middle
comma_taken {sign = sign} takes p =
    operator_taken (precedence comma) refl (itself (precedence comma)) tt (look_comma p.ends sign.newline takes) p.reached
