-- The machine takes each brace, `++`, `--` and answering `:` of a derivation as the derivation has it.
use mathlib.Core.Path.{◌≡◌, refl, sym, ◌∙◌, ap, subst}
use mathlib.Core.Bool.{Bool, true, false, not, cond, ◌&&◌, ◌||◌}
use mathlib.Core.List.{List, [], ◌∷◌, ◌++◌, append_assoc, append-nil}
use Prim.Native.Nat.{ℕ}
use lib.Dec.{T, eqb}
use Rattle.rule.specs.Machinery.Summary.{operand}
use Rattle.derivations.specs.Tokens.{Token, token, Spot, open_paren, close_paren, open_brace, comma, colon}
use Rattle.machine.specs.Tokens.{new_word, in_word, question, semicolon, var_word, else_word, for_word, continue_word, break_word, default_word, catch_word, finally_word}
use Rattle.machine.specs.Syntax.{Syntax}
use Rattle.grammar.specs.Grammar.{
  assignment_operators,
  binary_operators,
  binary_operators_by,
  prefix_operators,
  postfix_operators,
  least_binary,
  is_among,
  Leaf,
  body,
  block,
  Items,
  call_arguments,
  array_elements,
  object_properties,
  may_end_in_comma,
  Names,
  one_name,
  more_names,
  Parameters,
  no_parameters,
  some_parameters,
  Form,
  expression_form,
  assign_form,
  binary_form,
  unary_form,
  target_form,
  chain_form,
  function_form,
  statement_form,
  block_form,
  catch_form,
  finally_form,
  clauses_form,
  variables_form,
  variable_form,
  optional_form,
  statements_form,
  items_form,
  list_form,
  Derives,
  Function,
  identifier,
  reserved_word,
  chain_leaf,
  chain_array,
  chain_object,
  chain_parens,
  chain_function,
  chain_unnamed,
  chain_index,
  chain_member,
  chain_call,
  chain_new,
  no_items,
  add_item,
  add_hole,
  list_empty,
  list_items,
  list_last,
  expression_assign,
  expression_comma,
  assign_binary,
  assign_to,
  assign_conditional,
  binary_unary,
  binary_operator,
  unary_target,
  unary_prefix,
  unary_postfix,
  target_chain,
  target_new,
  function_all,
  block_all,
  statement_block,
  statement_expression,
  statement_var,
  no_variables,
  add_variable,
  variable_bare,
  variable_initialised,
  statement_empty,
  no_else,
  no_finally,
  statement_if,
  statement_else,
  statement_do,
  while-word,
  with-word,
  statement_head,
  statement_for,
  statement_for_var,
  left_out,
  not_left_out,
  statement_for_in,
  statement_for_var_in,
  continue-word,
  break-word,
  statement_bare_jump,
  statement_jump,
  statement_bare_return,
  statement_full_return,
  statement_switch,
  no_clauses,
  add_case,
  add_default,
  statement_throw,
  statement_try,
  statement_try_finally,
  statement_try_all,
  catch_all,
  finally_all,
  statement_debugger,
  statement_label,
  no_statements,
  add_statement,
  add_declaration,
  Program,
}
use Rattle.derivations.specs.Senses.{Sense, block_at, before_at, after_at, answer_at}
use Rattle.shown.specs.Shown.{senses_of}
use Rattle.machine.specs.Machinery.Machine.{Frame, empty, reduced, Effect, affect, hold_word, take_prefix, take_else, start_statement, end_value, end_head, Value, done_value, list_value, statement_value, value_of, Target, no_target, some_target, lone_target, is_target, allows_in, Ending, by_statement, by_return, by_variable, by_start, by_test, by_step, by_object, by_case, by_paren, by_bracket, by_colon, by_item, Role, declared, operand_in, if_nest, else_nest, do_nest, Setting, among, in_clause, in_nest, Variables, in_statement, in_head, later_variables, behind_variables, Control, statement_due, statement_done, clause_due, try_first, try_done, catch_past, catch_done, finally_first, try_ended, switch_past, test_due, step_due, variable_due, variable_named, body_done, test_first, semicolon_due, behind_statement, operand_due, operand_done, postfix_done, function_first, function_named, parameter_past, item_due, parameter_due, parameter_named, list_closer, Action, goto, push, leave, otherwise, look, row, Closing, to_parameter, to_statement, to_block, to_for, to_for_in, to_test, to_body, to_try, close, Open, grouped, nested, asking, State, live, act, consume, start, asks, asks_in}
use Rattle.machine.specs.Machinery.Classes.{is_sensed}
use Rattle.agreement.proofs.TreeClasses.{is_update, holds, fails}
use Rattle.agreement.proofs.Related.{is_last}
use Rattle.derivations.proofs.MachineSenses.{brace_behind, update_behind, sense_at, senses_from}
use Rattle.grammar.proofs.TableLaws.{at_class, at_leaf, binary_by, look_past}
use Rattle.grammar.proofs.Beginnings.{no_colon, Sees, widened, target_begins, assign_begins, expression_begins, between_items, between_variables, HeadPart, start_part, test_part, step_part, look_leaf, look_prefix, expression_is_taken, target_is_taken, value_is_returned, value_is_thrown, label_is_taken, item_is_taken, part_is_taken}
use Rattle.grammar.proofs.Following.{UnaryDone, past_operand, past_postfix, behind_unary, takes_comma, look_assignment, look_postfix, look_behind_unary, look_binary, look_question, look_end, look_comma}
use Rattle.grammar.proofs.Passing.{later_between, between_allows}
use Rattle.grammar.proofs.Complete.{behind_function}

-- a token that the prefix rule does not settle has no sense
no_sense : (asked : Bool) (after : State) (class first : ℕ) → T (not (is_sensed asked class)) → sense_at asked after class first ≡ []
no_sense asked after class first = go (eqb class open_brace) (is_update class) (eqb class colon && asked)
  where
    go : (a b c : Bool) → T (not (a || (b || c)))
        → cond a (brace_behind after first ∷ []) (cond b (update_behind after first ∷ []) (cond c (answer_at first ∷ []) [])) ≡ []
    go true b c none = absurd none
    go false true c none = absurd none
    go false false true none = absurd none
    go false false false none = refl

senses_see : Sees senses_from
senses_see = record {
  by_take = same_sense;
  past_other = λ state class spot ts other.
      let next = consume state (token class spot) in
      ap (λ (ss : List Sense). ss ++ senses_from next ts) (no_sense (asks_in state) next class spot.first other);
}
  where
    same_sense : (state other : State) (t : Token) (ts : List Token) → asks_in state ≡ asks_in other → consume state t ≡ consume other t
        → senses_from state (t ∷ ts) ≡ senses_from other (t ∷ ts)
    same_sense state other (token class spot) ts asked same =
        ap (λ (a : Bool). sense_at a (consume state (token class spot)) class spot.first ++ senses_from (consume state (token class spot)) ts) asked
        ∙ ap (λ (s : State). sense_at (asks_in other) s class spot.first ++ senses_from s ts) same

-- From a state and the tokens before, the machine comes past these senses to one of some controls, with these groups open, at the tokens after. Its
-- frame there is no matter: what a token is taken for is up to the controls.
record PastTo (from : State) (before : List Token) (senses : List Sense) {A : Type 0} (control : A → Control) (around : List Open) (after : List Token) : Type 0 where
  which : A
  f : Frame
  passes : senses_from from before ≡ senses ++ senses_from (live (control which) f around) after

-- to one control
abbrev only : Control → Unit {0} → Control
only control u = control

abbrev Past : State → List Token → List Sense → Control → List Open → List Token → Type 0
Past from before senses control around after = PastTo from before senses (only control) around after

-- to one that stands somewhere, as behind a Unary
abbrev control_of : (stands : Control → Type 0) → (control : Control) × stands control → Control
control_of stands s = s.0

abbrev PastWhere : State → List Token → List Sense → (Control → Type 0) → List Open → List Token → Type 0
PastWhere from before senses stands around after = PastTo from before senses (control_of stands) around after

abbrev PastUnary : State → List Token → List Sense → Ending → List Open → List Token → Type 0
PastUnary from before senses ending around after = PastWhere from before senses (UnaryDone ending) around after

module _ {from : State} {before middle : List Token} {first : List Sense} {A : Type 0} {control : A → Control} {around : List Open} where
  -- the same from another state, if its senses are the same, or one more
  led_by : {state : State} {tokens : List Token} → senses_from state tokens ≡ senses_from from before → PastTo from before first control around middle
      → PastTo state tokens first control around middle
  led_by same p = record { which = p.which; f = p.f; passes = same ∙ p.passes }

  sensed : {state : State} {tokens : List Token} {sense : Sense} → senses_from state tokens ≡ sense ∷ senses_from from before
      → PastTo from before first control around middle → PastTo state tokens (sense ∷ first) control around middle
  sensed {sense = sense} same p = record { which = p.which; f = p.f; passes = same ∙ ap (λ (ss : List Sense). sense ∷ ss) p.passes }

  -- And more senses behind them, or none. What follows is said of any frame, so that no type in it holds a proof of what came before: that would make
  -- the check many times longer.
  and_then : {after : List Token} {second : List Sense} {B : Type 0} {next : B → Control} {groups : List Open} → PastTo from before first control around middle
      → ((x : A) (f : Frame) → PastTo (live (control x) f around) middle second next groups after) → PastTo from before (first ++ second) next groups after
  and_then {after} {second} {next = next} {groups = groups} p rest =
      let q = rest p.which p.f in
      record {
        which = q.which;
        f = q.f;
        passes = p.passes ∙ ap (λ (ss : List Sense). first ++ ss) q.passes ∙ sym (append_assoc first second (senses_from (live (next q.which) q.f groups) after));
      }

  and_on : {after : List Token} {B : Type 0} {next : B → Control} {groups : List Open} → PastTo from before first control around middle
      → ((x : A) (f : Frame) → PastTo (live (control x) f around) middle [] next groups after) → PastTo from before first next groups after
  and_on p rest =
      let q = rest p.which p.f in
      record { which = q.which; f = q.f; passes = p.passes ∙ ap (λ (ss : List Sense). first ++ ss) q.passes }

module _ {from : State} {before after : List Token} {control : Control} {around : List Open} where
  -- past no sense
  straight : (f : Frame) → senses_from from before ≡ senses_from (live control f around) after → Past from before [] control around after
  straight f same = record { which = tt; f = f; passes = same }

  -- where the control stands
  standing : {senses : List Sense} {stands : Control → Type 0} → stands control → Past from before senses control around after
      → PastWhere from before senses stands around after
  standing s p = record { which = (control, s); f = p.f; passes = p.passes }

-- a token that the machine goes on with, by its sense, and one that has none
step_past : {control next : Control} {effect : Effect} {senses : List Sense} (class : ℕ) (spot : Spot) (after : List Token) (f : Frame) (around : List Open)
    → look class (row control spot.newline) ≡ goto next effect
    → ((g : Frame) → sense_at (asks control) (live next g around) class spot.first ≡ senses)
    → Past (live control f around) (token class spot ∷ after) senses next around after
step_past {control} {next} {effect} class spot after f around looked sense =
    let g = affect effect spot.mark f in
    record {
      which = tt;
      f = g;
      passes = ap
          (λ (z : Action). sense_at (asks control) (act z class spot f around) class spot.first ++ senses_from (act z class spot f around) after) looked
          ∙ ap (λ (ss : List Sense). ss ++ senses_from (live next g around) after) (sense g);
    }

plain_past : {control next : Control} {effect : Effect} (class : ℕ) (spot : Spot) (after : List Token) (f : Frame) (around : List Open)
    → look class (row control spot.newline) ≡ goto next effect → T (not (is_sensed (asks control) class))
    → Past (live control f around) (token class spot ∷ after) [] next around after
plain_past {control} {next} class spot after f around looked other =
    step_past class spot after f around looked λ g. no_sense (asks control) (live next g around) class spot.first other

leaf_past : {class : ℕ} (spot : Spot) (after : List Token) (ending : Ending) (target : Target) (f : Frame) (around : List Open) → Leaf class
    → Past (live (operand_due ending target) f around) (token class spot ∷ after) [] (operand_done ending target) around after
leaf_past {class} spot after ending target f around leaf =
    plain_past class spot after f around (look_leaf ending target leaf) (at_leaf (λ x. not (is_sensed (asks (operand_due ending target)) x)) tt leaf)

-- operators between two operands have no sense
assignment_past : (class : ℕ) (sign : Spot) (after : List Token) (ending : Ending) (target : Target) (f : Frame) (around : List Open) → T (is_target target)
    → T (is_among assignment_operators class)
    → Past (live (operand_done ending target) f around) (token class sign ∷ after) [] (operand_due ending some_target) around after
assignment_past class sign after ending target f around may op =
    plain_past class sign after f around (look_assignment ending target sign.newline class may op)
    (at_class (λ x. not (is_sensed (asks (operand_done ending target)) x)) assignment_operators class op tt)

binary_past : {ending : Ending} {control : Control} (class : ℕ) (sign : Spot) (after : List Token) (f : Frame) (around : List Open)
    → T (is_among (binary_operators_by (allows_in ending)) class) → UnaryDone ending control
    → Past (live control f around) (token class sign ∷ after) [] (operand_due ending no_target) around after
binary_past {ending} {control} class sign after f around op ends =
    plain_past class sign after f around (look_binary ends sign.newline class op)
    (at_class (λ x. not (is_sensed (asks control) x)) binary_operators class (binary_by (allows_in ending) class op) tt)

comma_past : {ending : Ending} {control : Control} (sign : Spot) (after : List Token) (f : Frame) (around : List Open) → T (takes_comma ending)
    → UnaryDone ending control → Past (live control f around) (token comma sign ∷ after) [] (operand_due ending some_target) around after
comma_past sign after f around takes ends = plain_past comma sign after f around (look_comma ends sign.newline takes) tt

-- nor has the `?` of a conditional, behind which its middle part stands by itself
question_past : {ending : Ending} {control : Control} (sign : Spot) (after : List Token) (f : Frame) (around : List Open) → UnaryDone ending control
    → senses_from (live control f around) (token question sign ∷ after)
    ≡ senses_from (live (operand_due by_colon some_target) empty (asking ending sign.mark (reduced least_binary f) ∷ around)) after
question_past {control = control} sign after f around ends =
    senses_see.past_other (live control f around) question sign after tt
    ∙ ap (λ (z : Action). senses_from (act z question sign f around) after) (look_question ends sign.newline)

-- where an operand is due, none stands last
no_operand : (ending : Ending) (target : Target) → is_last (operand_due ending target) operand ≡ false
no_operand (by_statement setting) _ = refl
no_operand (by_return setting) _ = refl
no_operand (by_variable place) _ = refl
no_operand by_start _ = refl
no_operand by_test _ = refl
no_operand by_step _ = refl
no_operand by_object _ = refl
no_operand (by_case seen) _ = refl
no_operand by_paren _ = refl
no_operand by_bracket _ = refl
no_operand by_colon _ = refl
no_operand (by_item call_arguments) _ = refl
no_operand (by_item array_elements) _ = refl
no_operand (by_item object_properties) _ = refl

-- so `++` and `--` stand before it; the other operators there have no sense
prefix_past : (class : ℕ) (sign : Spot) (after : List Token) (ending : Ending) (target : Target) (f : Frame) (around : List Open)
    → T (is_among prefix_operators class)
    → Past (live (operand_due ending target) f around) (token class sign ∷ after) (cond (is_update class) (before_at sign.first ∷ []) [])
    (operand_due ending no_target) around after
prefix_past class sign after ending target f around op =
    step_past class sign after f around (look_prefix ending target class op) λ g.
    rw (
      fails (eqb class open_brace) (at_class (λ x. not (eqb x open_brace)) prefix_operators class op tt),
      fails (eqb class colon) (at_class (λ x. not (eqb x colon)) prefix_operators class op tt),
      no_operand ending no_target,
    )

-- behind an operand they stand after it
postfix_past : (class : ℕ) (sign : Spot) (after : List Token) (ending : Ending) (target : Target) (f : Frame) (around : List Open)
    → T (is_among postfix_operators class) → T (not sign.newline)
    → Past (live (operand_done ending target) f around) (token class sign ∷ after) (after_at sign.first ∷ []) (postfix_done ending) around after
postfix_past class sign after ending target f around op same =
    step_past class sign after f around (look_postfix ending target sign.newline class op same) λ g.
    rw (fails (eqb class open_brace) (at_class (λ x. not (eqb x open_brace)) postfix_operators class op tt), holds (is_update class) op)

-- what may follow a Unary is taken alike wherever that ends
done_asks : {ending : Ending} {control : Control} → UnaryDone ending control → asks control ≡ asks (postfix_done ending)
done_asks past_operand = refl
done_asks past_postfix = refl

unary_done : {ending : Ending} {control : Control} (class : ℕ) (spot : Spot) (after : List Token) (f : Frame) (around : List Open)
    → T (is_among (behind_unary ending) class) → UnaryDone ending control
    → senses_from (live control f around) (token class spot ∷ after) ≡ senses_from (live (postfix_done ending) f around) (token class spot ∷ after)
unary_done {ending} {control} class spot after f around follows ends =
    senses_see.by_take (live control f around) (live (postfix_done ending) f around) (token class spot) after (done_asks ends)
    (ap (λ (z : Action). act z class spot f around) (look_behind_unary ends spot.newline class follows))

behind-unary : {from : State} {before after : List Token} {senses : List Sense} {ending : Ending} {around : List Open} {class : ℕ} {spot : Spot}
    → T (is_among (behind_unary ending) class) → PastUnary from before senses ending around (token class spot ∷ after)
    → Past from before senses (postfix_done ending) around (token class spot ∷ after)
behind-unary {after = after} {around = around} {class = class} {spot = spot} follows p =
    and_on p λ s f. straight f (unary_done class spot after f around follows s.1)

-- a nest that is complete is left before these tokens, if any come
abbrev Left : Control → Value → List Token → Type 0
Left control value [] = Unit {0}
Left control value (token class spot ∷ after) = look class (row control spot.newline) ≡ leave value

-- what stands behind it takes the token
nest_left : {control behind : Control} (value : Value) (closing : Closing) (mark : ℕ) (g f : Frame) (around : List Open) (after : List Token)
    → asks control ≡ asks behind → Left control value after
    → Past (live control g (nested behind closing mark f ∷ around)) after [] behind around after
nest_left value closing mark g f around [] asked left = straight f refl
nest_left {control} {behind} value closing mark g f around (token class spot ∷ after) asked left =
    let nests = nested behind closing mark f ∷ around in
    let h = close closing mark (value_of value g) f in
    straight h (senses_see.by_take (live control g nests) (live behind h around) (token class spot) after asked (ap (λ (z : Action). act z class spot g nests) left))

unasked : (setting : Setting) → false ≡ asks (behind_statement setting)
unasked (among scope) = refl
unasked in_clause = refl
unasked (in_nest nest) = refl

-- the nest of an `else` is left whatever comes, that of an `if` before all but `else`; that of a `try` is left so behind its `finally`, and behind its
-- `catch` before all but `finally`
else_left : (after : List Token) → Left (statement_done else_nest) statement_value after
else_left [] = tt
else_left (token class spot ∷ after) = refl

if_left : (after : List Token) → T (no_else after) → Left (statement_done if_nest) statement_value after
if_left [] alone = tt
if_left (token class spot ∷ after) alone =
    look_past class else_word (goto (statement_due true (in_nest else_nest)) take_else) (otherwise (leave statement_value) ∷ []) alone

finally_left : (after : List Token) → Left try_ended done_value after
finally_left [] = tt
finally_left (token class spot ∷ after) = refl

catch_left : (after : List Token) → T (no_finally after) → Left catch_done done_value after
catch_left [] alone = tt
catch_left (token class spot ∷ after) alone =
    look_past class finally_word (goto finally_first (start_statement finally_word)) (otherwise (leave done_value) ∷ []) alone

-- a function without a name goes on as one with a name
unnamed_past : {before after : List Token} {value : Syntax} (ending : Ending) (target : Target) (f : Frame) (around : List Open) → Function before after value
    → senses_from (live (function_first (operand_in ending target)) f around) before ≡ senses_from (live (function_named (operand_in ending target)) f around) before
unnamed_past ending _ f around (function_all _ _) = refl

-- no parameter has a sense
names_past : {before after : List Token} (f : Frame) (around : List Open) → Names before after
    → Past (live (parameter_due false) f around) before [] parameter_named around after
names_past f around one_name = straight f refl
names_past f around (more_names names) = and_on (names_past f around names) λ u g. straight _ refl

parameters_past : {before after : List Token} {closer : Spot} (f : Frame) (behind : Control) (mark : ℕ) (g : Frame) (around : List Open)
    → Parameters before (token close_paren closer ∷ after)
    → Past (live (parameter_due false) f (grouped behind to_parameter mark g ∷ around)) before [] behind around after
parameters_past f behind mark g around no_parameters = straight _ refl
parameters_past f behind mark g around (some_parameters names) = and_on (names_past f (grouped behind to_parameter mark g ∷ around) names) λ u h. straight _ refl

-- where a list may be closed: behind an item, where no argument has come, and behind a `,` that may be the last
data MayClose : Items → Control → Type 0 where
  behind_item : {items : Items} {control : Control} → UnaryDone (by_item items) control → MayClose items control
  no_argument : MayClose call_arguments (item_due call_arguments)
  behind-comma : {items : Items} (first : Bool) → T (may_end_in_comma items) → MayClose items (between_items items first)

item_closed : (items : Items) (f : Frame) (behind : Control) (closing : Closing) (mark : ℕ) (g : Frame) (around : List Open) (closer : Spot) (after : List Token)
    → T (is_among (behind_unary (by_item items)) (list_closer items))
    × Past (live (postfix_done (by_item items)) f (grouped behind closing mark g ∷ around)) (token (list_closer items) closer ∷ after) [] behind around after
item_closed call_arguments f behind closing mark g around closer after = (tt, straight _ refl)
item_closed array_elements f behind closing mark g around closer after = (tt, straight _ refl)
item_closed object_properties f behind closing mark g around closer after = (tt, straight _ refl)

closer_past : {items : Items} {control : Control} (f : Frame) (behind : Control) (closing : Closing) (mark : ℕ) (g : Frame) (around : List Open) (closer : Spot)
    (after : List Token) → MayClose items control
    → Past (live control f (grouped behind closing mark g ∷ around)) (token (list_closer items) closer ∷ after) [] behind around after
closer_past f behind closing mark g around closer after (behind_item {items = items} ends) =
    let closed = item_closed items f behind closing mark g around closer after in
    led_by (unary_done (list_closer items) closer after f (grouped behind closing mark g ∷ around) closed.0 ends) closed.1
closer_past f behind closing mark g around closer after no_argument = straight _ refl
closer_past f behind closing mark g around closer after (behind-comma {items = call_arguments} first allowed) = absurd allowed
closer_past f behind closing mark g around closer after (behind-comma {items = array_elements} true allowed) = straight _ refl
closer_past f behind closing mark g around closer after (behind-comma {items = array_elements} false allowed) = straight _ refl
closer_past f behind closing mark g around closer after (behind-comma {items = object_properties} true allowed) = straight _ refl
closer_past f behind closing mark g around closer after (behind-comma {items = object_properties} false allowed) = straight _ refl

abbrev PastList : Items → Frame → List Open → List Token → List Sense → List Token → Type 0
PastList items f around before senses after = PastWhere (live (item_due items) f around) before senses (MayClose items) around after

list_past : {items : Items} {f : Frame} {behind : Control} {closing : Closing} {mark : ℕ} {g : Frame} {around : List Open} {closer : Spot}
    {before after : List Token} {senses : List Sense}
    → PastList items f (grouped behind closing mark g ∷ around) before senses (token (list_closer items) closer ∷ after)
    → Past (live (item_due items) f (grouped behind closing mark g ∷ around)) before senses behind around after
list_past {behind = behind} {closing = closing} {mark = mark} {g = g} {around = around} {closer = closer} {after = after} p =
    and_on p λ s h. closer_past h behind closing mark g around closer after s.1

hole_past : (first : Bool) (f : Frame) (around : List Open) (sign : Spot) (after : List Token)
    → PastTo (live (between_items array_elements first) f around) (token comma sign ∷ after) [] (between_items array_elements) around after
hole_past true f around sign after = record { which = true; f = _; passes = refl }
hole_past false f around sign after = record { which = true; f = _; passes = refl }

-- a variable is complete behind its name, or behind its initialiser
data VariableDone : Variables → Control → Type 0 where
  bare_done : {place : Variables} → VariableDone place (variable_named place)
  value_done : {place : Variables} {control : Control} → UnaryDone (by_variable place) control → VariableDone place control

next_variable : {place : Variables} {control : Control} (f : Frame) (around : List Open) (sign : Spot) (after : List Token) → VariableDone place control
    → Past (live control f around) (token comma sign ∷ after) [] (variable_due (later_variables place)) around after
next_variable f around sign after bare_done = straight _ refl
next_variable f around sign after (value_done ends) = plain_past comma sign after f around (look_end ends sign.newline comma tt) tt

-- behind a `,` another may come
another_variable : (place : Variables) (first : Bool) {control : Control} (f : Frame) (around : List Open) (sign : Spot) (after : List Token)
    → VariableDone (between_variables place first) control
    → PastTo (live control f around) (token comma sign ∷ after) [] (λ (first : Bool). variable_due (between_variables place first)) around after
another_variable place first {control} f around sign after done =
    let p = next_variable f around sign after done in
    record {
      which = false;
      f = p.f;
      passes = subst (λ (z : Variables). senses_from (live control f around) (token comma sign ∷ after) ≡ senses_from (live (variable_due z) p.f around) after)
          (later_between place first) p.passes;
    }

variables_end : {place : Variables} {control : Control} (f : Frame) (around : List Open) (end : Spot) (after : List Token) → VariableDone place control
    → Past (live control f around) (token semicolon end ∷ after) [] (behind_variables place) around after
variables_end f around end after bare_done = straight (affect end_value end.mark f) refl
variables_end f around end after (value_done ends) = plain_past semicolon end after f around (look_end ends end.newline semicolon tt) tt

-- behind the one variable of a `for` stands `in`
only_variable : {control : Control} (f : Frame) (around : List Open) (sign : Spot) (after : List Token) → VariableDone (in_head true) control
    → Past (live control f around) (token in_word sign ∷ after) [] (operand_due by_object some_target) around after
only_variable f around sign after bare_done = straight (affect end_value sign.mark f) refl
only_variable f around sign after (value_done ends) = straight (affect end_value sign.mark f) (unary_done in_word sign after f around tt ends)

-- a part of the head of a `for` is complete where it may begin, or behind its value
data PartDone : Control → Ending → Control → Type 0 where
  none_done : {due : Control} {ending : Ending} → PartDone due ending due
  some_done : {due : Control} {ending : Ending} {control : Control} → UnaryDone ending control → PartDone due ending control

abbrev PastPart : Control → Ending → Frame → List Open → List Token → List Sense → List Token → Type 0
PastPart due ending f around before senses after = PastWhere (live due f around) before senses (PartDone due ending) around after

-- what ends it is taken alike there
part_done : {due control : Control} {ending : Ending} {target : Target} {class : ℕ} (spot : Spot) (after : List Token) (f : Frame) (around : List Open)
    → HeadPart due ending target class → PartDone due ending control
    → senses_from (live control f around) (token class spot ∷ after) ≡ senses_from (live (postfix_done ending) f around) (token class spot ∷ after)
part_done spot after f around start_part none_done = refl
part_done spot after f around test_part none_done = refl
part_done spot after f around step_part none_done = refl
part_done spot after f around start_part (some_done ends) = unary_done semicolon spot after f around tt ends
part_done spot after f around test_part (some_done ends) = unary_done semicolon spot after f around tt ends
part_done spot after f around step_part (some_done ends) = unary_done close_paren spot after f around tt ends

behind_part : {due : Control} {ending : Ending} {target : Target} {class : ℕ} {f : Frame} {around : List Open} {before after : List Token}
    {senses : List Sense} {spot : Spot} → HeadPart due ending target class → PastPart due ending f around before senses (token class spot ∷ after)
    → Past (live due f around) before senses (postfix_done ending) around (token class spot ∷ after)
behind_part {around = around} {after = after} {spot = spot} part p = and_on p λ s f. straight f (part_done spot after f around part s.1)

-- the head of a `for` from its first `;` on, or from its `in` on, and the statement behind it
module _ {setting : Setting} {mark : ℕ} {g : Frame} {around : List Open} {f : Frame} {closer : Spot} {before middle after : List Token} where
  parts_past : {end : Spot} {update : List Token} {first second third : List Sense} → (let groups = grouped (statement_due true setting) to_for mark g ∷ around in
      PastPart test_due by_test f groups before first (token semicolon end ∷ update)
      → ((f : Frame) → PastPart step_due by_step f groups update second (token close_paren closer ∷ middle))
      → ((f : Frame) → Past (live (statement_due true setting) f around) middle third (behind_statement setting) around after)
      → Past (live test_due f groups) before (first ++ (second ++ third)) (behind_statement setting) around after)
  parts_past {end} test step inner =
      and_then (behind_part test_part test) λ u t.
      and_then
      (and_on (led_by refl (behind_part step_part (step (affect end_value end.mark t)))) λ u s.
      straight {after = middle} {control = statement_due true setting} {around = around} (close to_for mark (value_of list_value s) g) refl) λ u h.
      inner h

  object_past : {first second : List Sense} → (let groups = grouped (statement_due true setting) to_for mark g ∷ around in
      PastUnary (live (operand_due by_object some_target) f groups) before first by_object groups (token close_paren closer ∷ middle)
      → ((f : Frame) → Past (live (statement_due true setting) f around) middle second (behind_statement setting) around after)
      → Past (live (operand_due by_object some_target) f groups) before (first ++ second) (behind_statement setting) around after)
  object_past object inner =
      and_then
      (and_on (behind-unary tt object) λ u o.
      straight {after = middle} {control = statement_due true setting} {around = around} (close to_for_in mark (value_of list_value o) g) refl) λ u h.
      inner h

-- what the machine makes of the senses of a form, wherever it stands
abbrev PastForm : Form → List Token → List Sense → List Token → Type 0
PastForm (chain_form calls) before senses after =
    (ending : Ending) (target : Target) (f : Frame) (around : List Open)
    → Past (live (operand_due ending target) f around) before senses (operand_done ending target) around after
PastForm (target_form calls) before senses after =
    (ending : Ending) (target : Target) (f : Frame) (around : List Open)
    → Past (live (operand_due ending target) f around) before senses (operand_done ending target) around after
PastForm unary_form before senses after =
    (ending : Ending) (target : Target) (f : Frame) (around : List Open)
    → PastUnary (live (operand_due ending target) f around) before senses ending around after
PastForm (binary_form within least) before senses after =
    (ending : Ending) (target : Target) (f : Frame) (around : List Open) → within ≡ allows_in ending
    → PastUnary (live (operand_due ending target) f around) before senses ending around after
PastForm (assign_form within) before senses after =
    (ending : Ending) (target : Target) (f : Frame) (around : List Open) → within ≡ allows_in ending → T (is_target target)
    → PastUnary (live (operand_due ending target) f around) before senses ending around after
PastForm (expression_form within) before senses after =
    (ending : Ending) (target : Target) (f : Frame) (around : List Open) → within ≡ allows_in ending → T (is_target target) → T (takes_comma ending)
    → PastUnary (live (operand_due ending target) f around) before senses ending around after
PastForm function_form before senses after =
    (role : Role) (f : Frame) (around : List Open) → Past (live (function_named role) f around) before senses (behind_function role) around after
PastForm statement_form before senses after =
    (must : Bool) (setting : Setting) (f : Frame) (around : List Open)
    → Past (live (statement_due must setting) f around) before senses (behind_statement setting) around after
PastForm block_form before senses after =
    (control behind : Control) (f : Frame) (around : List Open)
    → ((newline : Bool) → look open_brace (row control newline) ≡ push (statement_due false (among block)) behind to_block)
    → Past (live control f around) before senses behind around after
PastForm catch_form before senses after = (f : Frame) (around : List Open) → Past (live try_done f around) before senses catch_done around after
PastForm finally_form before senses after =
    (control : Control) (f : Frame) (around : List Open)
    → ((newline : Bool) → look finally_word (row control newline) ≡ goto finally_first (start_statement finally_word))
    → Past (live control f around) before senses try_ended around after
PastForm (clauses_form seen) before senses after =
    (f : Frame) (around : List Open) → Left (statement_due false in_clause) done_value after
    → Past (live (clause_due false) f around) before senses (clause_due seen) around after
PastForm (variables_form within) before senses after =
    (place : Variables) (f : Frame) (around : List Open) → within ≡ allows_in (by_variable place)
    → PastTo (live (variable_due (between_variables place true)) f around) before senses (λ (first : Bool). variable_due (between_variables place first)) around after
PastForm (variable_form within) before senses after =
    (place : Variables) (f : Frame) (around : List Open) → within ≡ allows_in (by_variable place)
    → PastWhere (live (variable_due place) f around) before senses (VariableDone place) around after
PastForm (optional_form within) before senses after =
    (due : Control) (ending : Ending) (target : Target) (class : ℕ) (f : Frame) (around : List Open) → HeadPart due ending target class
    → within ≡ allows_in ending → T (is_target target) → T (takes_comma ending) → T (no_colon after) → PastPart due ending f around before senses after
-- another statement is due behind each; declarations stand only among the statements of a body
PastForm (statements_form scope) before senses after =
    (setting : Setting) (f : Frame) (around : List Open) → behind_statement setting ≡ statement_due false setting → (scope ≡ body → setting ≡ among body)
    → Past (live (statement_due false setting) f around) before senses (statement_due false setting) around after
PastForm (items_form items) before senses after =
    (f : Frame) (around : List Open) → PastTo (live (item_due items) f around) before senses (between_items items) around after
PastForm (list_form items) before senses after = (f : Frame) (around : List Open) → T (no_colon after) → PastList items f around before senses after

-- an Expression in `( )`
parens_past : {closer : Spot} {inside after : List Token} {senses : List Sense} → PastForm (expression_form true) inside senses (token close_paren closer ∷ after)
    → (behind : Control) (closing : Closing) (mark : ℕ) (f : Frame) (around : List Open)
    → Past (live (operand_due by_paren some_target) empty (grouped behind closing mark f ∷ around)) inside senses behind around after
parens_past value behind closing mark f around =
    and_on (behind-unary tt (value by_paren some_target empty (grouped behind closing mark f ∷ around) refl tt tt)) λ u g. straight _ refl

past : {form : Form} {before after : List Token} {value : Syntax} (d : Derives form before after value) → PastForm form before (senses_of d) after
unfolding senses_of
past (chain_leaf {spot = spot} {after = after} leaf) = λ ending target f around. leaf_past spot after ending target f around leaf
past (chain_array values) = λ ending target f around. led_by refl (list_past (past values empty _ tt))
past (chain_object values) = λ ending target f around. sensed refl (list_past (past values empty _ tt))
past (chain_parens value) = λ ending target f around. led_by refl (parens_past (past value) _ _ _ _ _)
past (chain_function function) = λ ending target f around. led_by refl (past function (operand_in ending target) _ around)
past (chain_unnamed {word = word} function) =
    λ ending target f around.
    led_by (unnamed_past ending target (affect hold_word word.mark f) around function) (past function (operand_in ending target) _ around)
past (chain_index object value) =
    λ ending target f around.
    and_then (past object ending target f around) λ u g.
    and_on (led_by refl (behind-unary tt (past value by_bracket some_target empty _ refl tt tt))) λ u h.
    straight _ refl
past (chain_member identifier object) = λ ending target f around. and_on (past object ending target f around) λ u g. straight _ refl
past (chain_member reserved_word object) = λ ending target f around. and_on (past object ending target f around) λ u g. straight _ refl
past (chain_call callee values) =
    λ ending target f around. and_then (past callee ending target f around) λ u g. led_by refl (list_past (past values empty _ tt))
past (chain_new {word = word} callee values) =
    λ ending target f around.
    let g = affect (take_prefix new_word) word.mark f in
    and_then (led_by (target_is_taken senses_see ending target g around (target_begins (target_chain callee))) (past callee ending target g around)) λ u h.
    led_by refl (list_past (past values empty _ tt))
past (target_chain chain) = past chain
past (target_new {word = word} callee) =
    λ ending target f around.
    let g = affect (take_prefix new_word) word.mark f in
    led_by (target_is_taken senses_see ending target g around (target_begins callee)) (past callee ending target g around)
past (unary_target target) = λ ending assignable f around. standing past_operand (past target ending assignable f around)
past (unary_prefix {class = class} {sign = sign} {middle = middle} op value) =
    λ ending target f around. and_then (prefix_past class sign middle ending target f around op) λ u g. past value ending no_target g around
past (unary_postfix {class = class} {sign = sign} {after = after} op same value) =
    λ ending target f around.
    standing past_postfix (and_then (past value ending target f around) λ u g. postfix_past class sign after ending target g around op same)
past (binary_unary unary) = λ ending target f around allowed. past unary ending target f around
past (binary_operator {class = class} {sign = sign} {middle = middle} op tight left right) =
    λ ending target f around allowed.
    let among = subst (λ (b : Bool). T (is_among (binary_operators_by b) class)) allowed op in
    and_then (and_on (past left ending target f around allowed) λ s g. binary_past class sign middle g around among s.1) λ u g.
    past right ending no_target g around allowed
past (assign_binary binary) = λ ending target f around allowed may. past binary ending target f around allowed
past (assign_to {class = class} {sign = sign} {middle = middle} op target value) =
    λ ending assignable f around allowed may.
    and_then (and_on (past target ending assignable f around) λ u g. assignment_past class sign middle ending assignable g around may op) λ u g.
    past value ending some_target g around allowed tt
past (assign_conditional {sign = sign} {inside = inside} condition first second) =
    λ ending target f around allowed may.
    and_then (past condition ending target f around allowed) λ s g.
    led_by (question_past sign inside g around s.1)
    (and_then (behind-unary tt (past first by_colon some_target empty (asking ending sign.mark (reduced least_binary g) ∷ around) refl tt)) λ u h.
    sensed refl (past second ending some_target _ around allowed tt))
past (expression_assign value) = λ ending target f around allowed may takes. past value ending target f around allowed may
past (expression_comma {sign = sign} {middle = middle} left right) =
    λ ending target f around allowed may takes.
    and_then (and_on (past left ending target f around allowed may takes) λ s g. comma_past sign middle g around takes s.1) λ u g.
    past right ending some_target g around allowed tt
past (function_all {opener = opener} {openBody = openBody} {inside = inside} {after = after} parameters statements) =
    λ role f around.
    and_then (led_by refl (parameters_past empty (parameter_past role) opener.mark f around parameters)) λ u g.
    elim role as (λ (z : Role). PastTo (live (only (parameter_past z) u) g around) (token open_brace openBody ∷ inside) (block_at openBody.first ∷ senses_of statements) (only (behind_function z)) around after) [
      | declared ↦ sensed refl (and_on (past statements (among body) empty _ refl (λ same. refl)) λ u h. straight _ refl)
      | operand_in ending _ ↦ sensed refl (and_on (past statements (among body) empty _ refl (λ same. refl)) λ u h. straight _ refl)
    ]
past (block_all {opener = opener} {inside = inside} statements) =
    λ control behind f around opens.
    sensed
    (ap (λ (z : Action). sense_at (asks control) (act z open_brace opener f around) open_brace opener.first
    ++ senses_from (act z open_brace opener f around) inside) (opens opener.newline))
    (and_on (past statements (among block) empty (grouped behind to_block opener.mark f ∷ around) refl (ap among)) λ u g. straight _ refl)
past (statement_block inner) = λ must setting f around. past inner (statement_due must setting) (behind_statement setting) f around (λ newline. refl)
past (statement_expression allowed value) =
    λ must setting f around.
    and_on
    (led_by (expression_is_taken senses_see must setting f around (expression_begins value tt) allowed)
    (behind-unary tt (past value (by_statement setting) some_target f around refl tt tt))) λ u g.
    straight _ refl
past (statement_if {word = word} {after = after} alone condition inner) =
    λ must setting f around.
    let groups = nested (behind_statement setting) to_statement word.mark f ∷ around in
    and_then (led_by refl (parens_past (past condition) (statement_due true (in_nest if_nest)) _ _ _ groups)) λ u g.
    and_on (past inner true (in_nest if_nest) g groups) λ u h.
    nest_left statement_value to_statement word.mark h f around after (unasked setting) (if_left after alone)
past (statement_else {word = word} {rest = rest} {after = after} condition first second) =
    λ must setting f around.
    let groups = nested (behind_statement setting) to_statement word.mark f ∷ around in
    and_then (led_by refl (parens_past (past condition) (statement_due true (in_nest if_nest)) _ _ _ groups)) λ u g.
    and_then
    (and_on (past first true (in_nest if_nest) g groups) λ u h. straight {after = rest} {control = statement_due true (in_nest else_nest)} {around = groups} _ refl) λ u h.
    and_on (past second true (in_nest else_nest) h groups) λ u k.
    nest_left statement_value to_statement word.mark k f around after (unasked setting) (else_left after)
past (statement_do {word = word} {opener = opener} {end = end} {inside = inside} inner condition) =
    λ must setting f around.
    and_then
    (led_by refl
    (and_on (past inner true (in_nest do_nest) empty (nested (body_done setting) to_body word.mark f ∷ around)) λ u g.
    straight {after = token open_paren opener ∷ inside} {control = test_first setting} {around = around} _ refl)) λ u g.
    and_on (led_by refl (parens_past (past condition) (semicolon_due setting) to_test opener.mark g around)) λ u h.
    straight (affect end_value end.mark h) refl
past (statement_head while-word head inner) =
    λ must setting f around.
    and_then (led_by refl (parens_past (past head) (statement_due true setting) _ _ _ around)) λ u g.
    past inner true setting g around
past (statement_head with-word head inner) =
    λ must setting f around.
    and_then (led_by refl (parens_past (past head) (statement_due true setting) _ _ _ around)) λ u g.
    past inner true setting g around
past (statement_for {word = word} {opener = opener} {first = end} {test = test} first condition step inner) =
    λ must setting f around.
    let groups = grouped (statement_due true setting) to_for opener.mark (affect (start_statement for_word) word.mark f) ∷ around in
    and_then
    (led_by refl
    (and_on (behind_part start_part (past first _ _ _ _ empty groups start_part refl tt tt tt)) λ u g.
    straight {after = test} {control = test_due} {around = groups} (affect end_value end.mark g) refl)) λ u g.
    parts_past (past condition _ _ _ _ g groups test_part refl tt tt tt) (λ f. past step _ _ _ _ f groups step_part refl tt tt tt)
    (λ f. past inner true setting f around)
past (statement_for_var {word = word} {opener = opener} {declared = var} {first = end} {test = test} variables last condition step inner) =
    λ must setting f around.
    let groups = grouped (statement_due true setting) to_for opener.mark (affect (start_statement for_word) word.mark f) ∷ around in
    and_then (led_by refl (past variables (in_head true) (affect (start_statement var_word) var.mark empty) groups refl)) λ one g.
    and_then (and_on (past last (in_head one) g groups refl) λ s h. variables_end h groups end test s.1) λ u g.
    parts_past (past condition _ _ _ _ g groups test_part refl tt tt tt) (λ f. past step _ _ _ _ f groups step_part refl tt tt tt)
    (λ f. past inner true setting f around)
past left_out = λ due ending target class f around part allowed may takes next. standing none_done (straight f refl)
past (not_left_out {before = before} value) =
    λ due ending target class f around part allowed may takes next.
    led_by (part_is_taken senses_see part f around before (expression_begins value next))
    (and_on (past value ending target f around allowed may takes) λ s g. standing (some_done s.1) (straight g refl))
past (statement_for_in {word = word} {opener = opener} {sign = sign} {inside = inside} {rest = rest} target object inner) =
    λ must setting f around.
    let groups = grouped (statement_due true setting) to_for opener.mark (affect (start_statement for_word) word.mark f) ∷ around in
    and_then
    (led_by (part_is_taken senses_see start_part empty groups inside (widened (target_begins target)))
    (and_on (past target by_start lone_target empty groups) λ u g.
    straight {after = rest} {control = operand_due by_object some_target} {around = groups} (affect end_value sign.mark g) refl)) λ u g.
    object_past (past object by_object some_target g groups refl tt tt) (λ f. past inner true setting f around)
past (statement_for_var_in {word = word} {opener = opener} {declared = var} {sign = sign} {rest = rest} variable object inner) =
    λ must setting f around.
    let groups = grouped (statement_due true setting) to_for opener.mark (affect (start_statement for_word) word.mark f) ∷ around in
    and_then
    (led_by refl
    (and_on (past variable (in_head true) (affect (start_statement var_word) var.mark empty) groups refl) λ s g. only_variable g groups sign rest s.1)) λ u g.
    object_past (past object by_object some_target g groups refl tt tt) (λ f. past inner true setting f around)
past (statement_var {word = word} {end = end} {after = after} variables last) =
    λ must setting f around.
    and_then (led_by refl (past variables (in_statement setting) (affect (start_statement var_word) word.mark f) around refl)) λ one g.
    and_on (past last (in_statement setting) g around refl) λ s h.
    variables_end h around end after s.1
past no_variables = λ place f around allowed. record { which = true; f = f; passes = refl }
past (add_variable {sign = sign} {after = after} variables last) =
    λ place f around allowed.
    and_then (past variables place f around allowed) λ one g.
    and_on (past last (between_variables place one) g around (allowed ∙ sym (between_allows place one))) λ s h.
    another_variable place one h around sign after s.1
past variable_bare = λ place f around allowed. standing bare_done (straight _ refl)
past (variable_initialised value) =
    λ place f around allowed.
    led_by refl (and_on (past value (by_variable place) some_target _ around allowed tt) λ s g. standing (value_done s.1) (straight g refl))
past statement_empty = λ must setting f around. straight _ refl
past (statement_bare_jump continue-word) = λ must setting f around. straight _ refl
past (statement_bare_jump break-word) = λ must setting f around. straight _ refl
past (statement_jump {word = word} {label = label} {end = end} {after = after} continue-word same) =
    λ must setting f around.
    straight _ (label_is_taken senses_see setting (affect (start_statement continue_word) word.mark f) around label (token semicolon end ∷ after) same)
past (statement_jump {word = word} {label = label} {end = end} {after = after} break-word same) =
    λ must setting f around.
    straight _ (label_is_taken senses_see setting (affect (start_statement break_word) word.mark f) around label (token semicolon end ∷ after) same)
past (statement_switch {opener = opener} subject clauses) =
    λ must setting f around.
    and_then (led_by refl (parens_past (past subject) (switch_past setting) _ _ _ around)) λ u g.
    sensed refl (and_on (past clauses empty (grouped (behind_statement setting) to_statement opener.mark g ∷ around) refl) λ u h. straight _ refl)
past no_clauses = λ f around left. straight f refl
past (add_case {seen = seen} {sign = sign} {after = after} clauses test statements) =
    λ f around left.
    and_then (past clauses f around refl) λ u g.
    and_then (led_by refl (behind-unary tt (past test (by_case seen) some_target _ around refl tt tt))) λ u h.
    let ended = affect end_head sign.mark h in
    led_by refl
    (and_on (past statements in_clause empty (nested (clause_due seen) to_statement sign.mark ended ∷ around) refl (λ same. cc)) λ u k.
    nest_left done_value to_statement sign.mark k ended around after refl left)
past (add_default {word = word} {sign = sign} {after = after} clauses statements) =
    λ f around left.
    and_then (past clauses f around refl) λ u g.
    let ended = affect end_head sign.mark (affect (start_statement default_word) word.mark g) in
    led_by refl
    (and_on (past statements in_clause empty (nested (clause_due true) to_statement sign.mark ended ∷ around) refl (λ same. cc)) λ u k.
    nest_left done_value to_statement sign.mark k ended around after refl left)
past (statement_throw {before = before} same value) =
    λ must setting f around.
    and_on
    (led_by (value_is_thrown senses_see setting _ around before (expression_begins value tt) same)
    (behind-unary tt (past value (by_return setting) some_target _ around refl tt tt))) λ u g.
    straight _ refl
past (statement_try {word = word} {after = after} alone inner handler) =
    λ must setting f around.
    let groups = nested (behind_statement setting) to_try word.mark f ∷ around in
    and_then (led_by refl (past inner try_first try_done empty groups (λ newline. refl))) λ u g.
    and_on (past handler g groups) λ u h.
    nest_left done_value to_try word.mark h f around after (unasked setting) (catch_left after alone)
past (statement_try_finally {word = word} {after = after} inner last) =
    λ must setting f around.
    let groups = nested (behind_statement setting) to_try word.mark f ∷ around in
    and_then (led_by refl (past inner try_first try_done empty groups (λ newline. refl))) λ u g.
    and_on (past last try_done g groups (λ newline. refl)) λ u h.
    nest_left done_value to_try word.mark h f around after (unasked setting) (finally_left after)
past (statement_try_all {word = word} {after = after} inner handler last) =
    λ must setting f around.
    let groups = nested (behind_statement setting) to_try word.mark f ∷ around in
    and_then (led_by refl (past inner try_first try_done empty groups (λ newline. refl))) λ u g.
    and_then (past handler g groups) λ u h.
    and_on (past last catch_done h groups (λ newline. refl)) λ u k.
    nest_left done_value to_try word.mark k f around after (unasked setting) (finally_left after)
past (catch_all {word = word} inner) =
    λ f around. led_by refl (past inner catch_past catch_done (affect (start_statement catch_word) word.mark f) around (λ newline. refl))
past (finally_all {word = word} {inside = inside} inner) =
    λ control f around starts.
    and_then (plain_past {control = control} finally_word word inside f around (starts word.newline) tt) λ u g.
    past inner finally_first try_ended g around (λ newline. refl)
past statement_debugger = λ must setting f around. straight _ refl
past statement_bare_return = λ must setting f around. straight _ refl
past (statement_full_return {before = before} same value) =
    λ must setting f around.
    and_on
    (led_by (value_is_returned senses_see setting _ around before (expression_begins value tt) same)
    (behind-unary tt (past value (by_return setting) some_target _ around refl tt tt))) λ u g.
    straight _ refl
past (statement_label inner) = λ must setting f around. led_by refl (past inner true setting _ around)
past no_statements = λ setting f around another level. straight f refl
past (add_statement {before = before} {after = after} statements last) =
    λ setting f around another level.
    subst (λ (z : Control). Past (live (statement_due false setting) f around) before (senses_of statements ++ senses_of last) z around after) another
    (and_then (past statements setting f around another level) λ u g. past last false setting g around)
past (add_declaration {word = word} statements function) =
    λ setting f around another level.
    rw (level refl)
    (and_then (past statements (among body) f around refl (λ same. refl)) λ u g. led_by refl (past function declared (affect hold_word word.mark g) around))
past no_items = λ f around. record { which = true; f = f; passes = refl }
past (add_item {items = items} values starts last) =
    λ f around.
    and_then (past values f around) λ one g.
    and_on
    (led_by (item_is_taken senses_see items one g around starts (assign_begins last tt))
    (behind-unary tt (past last (by_item items) some_target g around refl tt))) λ u h.
    record { which = false; f = _; passes = refl }
past (add_hole {sign = sign} {after = after} values) =
    λ f around. and_on (past values f around) λ one g. hole_past one g around sign after
past list_empty = λ f around next. standing no_argument (straight f refl)
past (list_items allowed values) =
    λ f around next. and_on (past values f around) λ one g. standing (behind-comma one allowed) (straight g refl)
past (list_last {items = items} values starts last) =
    λ f around next.
    and_then (past values f around) λ one g.
    led_by (item_is_taken senses_see items one g around starts (assign_begins last next))
    (and_on (past last (by_item items) some_target g around refl tt) λ s h. standing (behind_item s.1) (straight h refl))

-- so it does along a program
pub senses_taken : {all : List Token} {parts : Syntax} (program : Program all parts) → senses_from start all ≡ senses_of program
senses_taken program = let p = past program (among body) empty [] refl (λ same. refl) in p.passes ∙ append-nil (senses_of program)
