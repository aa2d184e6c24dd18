-- What the token machine follows, the prefix rule reads the same: one test over the machine's table.
use mathlib.Core.Path.{◌≡◌, refl, sym, ◌∙◌}
use mathlib.Core.Bool.{Bool, true, false, not, cond, ◌&&◌, ◌||◌}
use mathlib.Core.List.{List, [], ◌∷◌}
use Prim.Native.Nat.{ℕ, zero, suc, ◌+◌, ◌-◌, ◌≤◌}
use native.Mathlib.Omega.{arith}
use borrow.Author.Tests.{ltb-false}
use lib.Dec.{T, eqb, ltb, eqb→eq}
use Rattle.text.proofs.Range.{and_left, and_right, alike, alike→eq}
use Rattle.rule.specs.Trees.{object_kind, block_kind}
use Rattle.rule.specs.Rule.{Class, is, group_class, leaving}
use Rattle.rule.specs.Levels.{is_expression}
use Rattle.rule.specs.Machinery.Summary.{Summary, nothing, operand, after_operator, brace_by, slash_by, name_by, add}
use Rattle.vocabulary.specs.Vocabulary.{Row, words, token_class}
use Rattle.rule.proofs.Finite.{both_bools, at_bool, all_summaries, at_summary}
use Rattle.machine.specs.Tokens.{pattern, divide, divide_assign, question, colon, semicolon, word_name}
use Rattle.machine.specs.Scopes.{body, block, call_arguments, array_elements, object_properties}
use Rattle.machine.specs.Machinery.Machine.{
  if_nest,
  else_nest,
  do_nest,
  Setting,
  among,
  in_clause,
  in_nest,
  Variables,
  in_statement,
  in_head,
  Target,
  no_target,
  some_target,
  lone_target,
  Ending,
  by_statement,
  by_return,
  by_variable,
  by_start,
  by_test,
  by_step,
  by_object,
  by_case,
  by_paren,
  by_bracket,
  by_colon,
  by_item,
  Role,
  declared,
  operand_in,
  Control,
  statement_due,
  statement_done,
  name_first,
  return_first,
  throw_first,
  jump_first,
  head_first,
  variable_due,
  variable_named,
  body_done,
  test_first,
  semicolon_due,
  for_first,
  start_due,
  test_due,
  step_due,
  switch_first,
  switch_past,
  clause_due,
  default_first,
  try_first,
  try_done,
  catch_first,
  catch_due,
  catch_named,
  catch_past,
  catch_done,
  finally_first,
  try_ended,
  if_first,
  operand_due,
  member_due,
  operand_done,
  postfix_done,
  dot_last,
  function_first,
  function_named,
  parameter_past,
  item_due,
  property_named,
  parameter_due,
  parameter_named,
  finished,
  Effect,
  Closing,
  Value,
  Action,
  fail,
  goto,
  push,
  enter,
  pop,
  pop_in,
  leave,
  ask,
  turn,
  finish,
  Entry,
  on,
  otherwise,
  look,
  row,
  end_of_text,
  asks,
}
use Rattle.text.proofs.Members.{Has, here, there, all_in, at, is_in, found}
use Rattle.agreement.proofs.TreeClasses.{is_leaf, tree_class, each_leaf, is_update, settled_class, opens_group, opened_kind, closes_group, closes_kind, fails}
use Rattle.agreement.proofs.Related.{kinds, is_last, related, on_kind, settled, implies, implied, takes_over}

-- the classes of the reserved words that are taken as words
abbrev with_class : ℕ → List ℕ → List ℕ
with_class zero rest = rest
with_class (suc class) rest = suc class ∷ rest

abbrev classes_in : List Row → List ℕ
classes_in [] = []
classes_in (row ∷ rows) = with_class (token_class row) (classes_in rows)

abbrev pub word_classes : List ℕ
word_classes = classes_in words

-- a slash, and a reserved word, is taken as the summary answers; a slash that divides may have `=` behind it
unfoldable pub taken_right : ℕ → Summary → ℕ → Bool
taken_right kind s class =
    cond (eqb class pattern) (slash_by s)
    (cond (eqb class divide || eqb class divide_assign) (not (slash_by s))
    (cond (eqb class word_name) (name_by (eqb kind object_kind) s)
    (cond (is_in word_classes class) (not (name_by (eqb kind object_kind) s))
    true)))

-- the summary behind a tree that a token of a class makes, where a `?` is open or not
abbrev pub add_token : ℕ → Summary → Bool → Bool → ℕ → Summary
add_token kind s newline asked class = add (is_expression kind) s (settled_class (slash_by s || newline) asked class) newline

-- a control has a place on one side of the brace alone: in a block or in an object
abbrev pub one_sided : Control → Bool
one_sided control = not (is_in (kinds control) block_kind && is_in (kinds control) object_kind)

-- a group of a kind is opened behind trees with a summary: the control inside it, and the one behind it
unfoldable pub opens_right : ℕ → Summary → Bool → Bool → ℕ → Control → Control → Bool
opens_right kind s newline asked group within behind =
    (related within group nothing && (not (asks within) && one_sided within))
    && (related behind kind (add (is_expression kind) s (group_class group) newline) && alike (asks behind) asked)

-- `++` or `--` stands behind its operand exactly if the machine does then
abbrev pub updates_right : Summary → Bool → ℕ → Control → Bool
updates_right s newline class next = implies (is_update class) (alike (is_last next operand) (not (slash_by s || newline)))

-- a tree of a class leaves as many `?`s open as there were
abbrev pub keeps_questions : Bool → ℕ → Bool
keeps_questions asked class = not (eqb class question) && not (asked && (eqb class semicolon || eqb class colon))

-- What is asked of an action for a class of tokens, where a `?` is open or not: a tree more, a group more or a group ended leaves the machine where
-- it may stand, a nest is left only where a statement is complete, and a `?` is opened and answered. The whole text, of kind 0, is no group: there
-- the machine stops.
unfoldable pub allows : ℕ → Summary → Bool → Bool → ℕ → Action → Bool
allows kind s newline asked class fail = true
allows kind s newline asked class (goto next effect) =
    taken_right kind s class && (is_leaf class && ((related next kind (add_token kind s newline asked class) && updates_right s newline class next) && (alike (asks next) asked && keeps_questions asked class)))
allows kind s newline asked class (push within behind closing) =
    taken_right kind s class && (opens_group class && opens_right kind s newline asked (opened_kind (brace_by (is_expression kind) s newline) class) within behind)
allows kind s newline asked class (enter within effect outer behind closing) =
    taken_right kind s class && (is_leaf class && (((related within kind (add_token kind s newline asked class) && updates_right s newline class within) && takes_over behind)
    && ((not (asks within) && not (asks behind)) && (not asked && keeps_questions asked class))))
allows kind s newline asked class (pop value) = taken_right kind s class && (closes_group class && (eqb kind 0 || closes_kind class kind))
allows kind s newline asked class pop_in = taken_right kind s class && (closes_group class && (eqb kind 0 || closes_kind class kind))
allows kind s newline asked class (leave value) = settled kind s
allows kind s newline asked class (ask ending) =
    taken_right kind s class && (is_leaf class && ((eqb class question && related (operand_due by_colon some_target) kind (add_token kind s newline asked class))
    && (related (operand_due ending some_target) kind after_operator && alike (asks (operand_due ending some_target)) asked)))
allows kind s newline asked class turn = taken_right kind s class && (is_leaf class && (eqb class colon && asked))
allows kind s newline asked class finish = eqb class end_of_text

-- the same part by part
pub both : (a b : Bool) → T (a && b) → T a × T b
both a b t = (and_left a b t, and_right a b t)

three : (a b c : Bool) → T (a && (b && c)) → T a × T b × T c
three a b c t = (and_left a (b && c) t, and_left b c (and_right a (b && c) t), and_right b c (and_right a (b && c) t))

module _ (kind : ℕ) (s : Summary) (newline asked : Bool) where
  -- a group that is opened
  pub record OpensRight (group : ℕ) (within behind : Control) : Type 0 where
    pub stands : T (related within group nothing)
    pub unasked : asks within ≡ false
    pub one-sided : T (one_sided within)
    pub behind_stands : T (related behind kind (add (is_expression kind) s (group_class group) newline))
    pub behind_asked : asks behind ≡ asked

  pub opens-right : (group : ℕ) (within behind : Control) → T (opens_right kind s newline asked group within behind) → OpensRight group within behind
  unfolding opens_right
  opens-right group within behind t =
      let u = both (related within group nothing && (not (asks within) && one_sided within))
      (related behind kind (add (is_expression kind) s (group_class group) newline) && alike (asks behind) asked) t in
      let v = three (related within group nothing) (not (asks within)) (one_sided within) u.0 in
      let w = both (related behind kind (add (is_expression kind) s (group_class group) newline)) (alike (asks behind) asked) u.1 in
      record {
        stands = v.0;
        unasked = fails (asks within) v.1;
        one-sided = v.2;
        behind_stands = w.0;
        behind_asked = alike→eq (asks behind) asked w.1;
      }

  module _ (class : ℕ) where
    -- a tree more
    pub record GoesRight (next : Control) : Type 0 where
      pub taken : T (taken_right kind s class)
      pub leaf : T (is_leaf class)
      pub stands : T (related next kind (add_token kind s newline asked class))
      pub updates : T (updates_right s newline class next)
      pub same_asked : asks next ≡ asked
      pub keeps : T (keeps_questions asked class)

    pub goto_allowed : (next : Control) (effect : Effect) → T (allows kind s newline asked class (goto next effect)) → GoesRight next
    unfolding allows
    goto_allowed next effect t =
        let u = three (taken_right kind s class) (is_leaf class)
        ((related next kind (add_token kind s newline asked class) && updates_right s newline class next) && (alike (asks next) asked && keeps_questions asked class)) t in
        let v = three (related next kind (add_token kind s newline asked class) && updates_right s newline class next) (alike (asks next) asked) (keeps_questions asked class) u.2 in
        let w = both (related next kind (add_token kind s newline asked class)) (updates_right s newline class next) v.0 in
        record { taken = u.0; leaf = u.1; stands = w.0; updates = w.1; same_asked = alike→eq (asks next) asked v.1; keeps = v.2 }

    pub push_allowed : (within behind : Control) (closing : Closing) → T (allows kind s newline asked class (push within behind closing))
        → T (taken_right kind s class) × T (opens_group class) × T (opens_right kind s newline asked (opened_kind (brace_by (is_expression kind) s newline) class) within behind)
    unfolding allows
    push_allowed within behind closing =
        three (taken_right kind s class) (opens_group class) (opens_right kind s newline asked (opened_kind (brace_by (is_expression kind) s newline) class) within behind)

    -- a nest more
    pub record EntersRight (within behind : Control) : Type 0 where
      pub goes : GoesRight within
      pub takes : T (takes_over behind)
      pub behind_unasked : asks behind ≡ false
      pub unasked : asked ≡ false

    pub enter_allowed : (within : Control) (effect outer : Effect) (behind : Control) (closing : Closing) → T (allows kind s newline asked class (enter within effect outer behind closing)) → EntersRight within behind
    unfolding allows
    enter_allowed within effect outer behind closing t =
        let u = three (taken_right kind s class) (is_leaf class) (((related within kind (add_token kind s newline asked class) && updates_right s newline class within) && takes_over behind)
        && ((not (asks within) && not (asks behind)) && (not asked && keeps_questions asked class))) t in
        let v = both ((related within kind (add_token kind s newline asked class) && updates_right s newline class within) && takes_over behind)
        ((not (asks within) && not (asks behind)) && (not asked && keeps_questions asked class)) u.2 in
        let w = both (related within kind (add_token kind s newline asked class) && updates_right s newline class within) (takes_over behind) v.0 in
        let g = both (related within kind (add_token kind s newline asked class)) (updates_right s newline class within) w.0 in
        let x = both (not (asks within) && not (asks behind)) (not asked && keeps_questions asked class) v.1 in
        let y = both (not (asks within)) (not (asks behind)) x.0 in
        let z = both (not asked) (keeps_questions asked class) x.1 in
        record {
          goes = record { taken = u.0; leaf = u.1; stands = g.0; updates = g.1; same_asked = fails (asks within) y.0 ∙ sym (fails asked z.0); keeps = z.1 };
          takes = w.1;
          behind_unasked = fails (asks behind) y.1;
          unasked = fails asked z.0;
        }

    pub leave_allowed : (value : Value) → T (allows kind s newline asked class (leave value)) → T (settled kind s)
    unfolding allows
    leave_allowed value t = t

    pub pop_allowed : (value : Value) → T (allows kind s newline asked class (pop value))
        → T (taken_right kind s class) × T (closes_group class) × T (eqb kind 0 || closes_kind class kind)
    unfolding allows
    pop_allowed value = three (taken_right kind s class) (closes_group class) (eqb kind 0 || closes_kind class kind)

    pub pop_in_allowed : T (allows kind s newline asked class pop_in) → T (taken_right kind s class) × T (closes_group class) × T (eqb kind 0 || closes_kind class kind)
    unfolding allows
    pop_in_allowed = three (taken_right kind s class) (closes_group class) (eqb kind 0 || closes_kind class kind)

    -- a `?` more, and its answer
    pub record AsksRight (ending : Ending) : Type 0 where
      pub taken : T (taken_right kind s class)
      pub leaf : T (is_leaf class)
      pub is_question : T (eqb class question)
      pub stands : T (related (operand_due by_colon some_target) kind (add_token kind s newline asked class))
      pub behind_stands : T (related (operand_due ending some_target) kind after_operator)
      pub behind_asked : asks (operand_due ending some_target) ≡ asked

    pub ask_allowed : (ending : Ending) → T (allows kind s newline asked class (ask ending)) → AsksRight ending
    unfolding allows
    ask_allowed ending t =
        let u = three (taken_right kind s class) (is_leaf class) ((eqb class question && related (operand_due by_colon some_target) kind (add_token kind s newline asked class))
        && (related (operand_due ending some_target) kind after_operator && alike (asks (operand_due ending some_target)) asked)) t in
        let v = both (eqb class question && related (operand_due by_colon some_target) kind (add_token kind s newline asked class))
        (related (operand_due ending some_target) kind after_operator && alike (asks (operand_due ending some_target)) asked) u.2 in
        let w = both (eqb class question) (related (operand_due by_colon some_target) kind (add_token kind s newline asked class)) v.0 in
        let x = both (related (operand_due ending some_target) kind after_operator) (alike (asks (operand_due ending some_target)) asked) v.1 in
        record {
          taken = u.0;
          leaf = u.1;
          is_question = w.0;
          stands = w.1;
          behind_stands = x.0;
          behind_asked = alike→eq (asks (operand_due ending some_target)) asked x.1;
        }

    pub turn_allowed : T (allows kind s newline asked class turn) → T (taken_right kind s class) × T (is_leaf class) × T (eqb class colon && asked)
    unfolding allows
    turn_allowed = three (taken_right kind s class) (is_leaf class) (eqb class colon && asked)

    pub finish_allowed : T (allows kind s newline asked class finish) → T (eqb class end_of_text)
    unfolding allows
    finish_allowed t = t

-- what is asked of the action for any other class: to leave the token to another row, if anything
abbrev allows_other : ℕ → Summary → Action → Bool
allows_other kind s fail = true
allows_other kind s (goto next effect) = false
allows_other kind s (push within behind closing) = false
allows_other kind s (enter within effect outer behind closing) = false
allows_other kind s (pop value) = false
allows_other kind s pop_in = false
allows_other kind s (leave value) = settled kind s
allows_other kind s (ask ending) = false
allows_other kind s turn = false
allows_other kind s finish = false

-- the test of a control: all entries of its rows, wherever it may stand
abbrev allows_entry : ℕ → Summary → Bool → Bool → Entry → Bool
allows_entry kind s newline asked (on class action) = allows kind s newline asked class action
allows_entry kind s newline asked (otherwise action) = allows_other kind s action

other_allowed : (kind : ℕ) (s : Summary) (newline asked : Bool) (class : ℕ) (action : Action) → T (allows_other kind s action) → T (allows kind s newline asked class action)
unfolding allows
other_allowed kind s newline asked class fail t = tt
other_allowed kind s newline asked class (goto next effect) t = absurd t
other_allowed kind s newline asked class (push within behind closing) t = absurd t
other_allowed kind s newline asked class (enter within effect outer behind closing) t = absurd t
other_allowed kind s newline asked class (pop value) t = absurd t
other_allowed kind s newline asked class pop_in t = absurd t
other_allowed kind s newline asked class (leave value) t = t
other_allowed kind s newline asked class (ask ending) t = absurd t
other_allowed kind s newline asked class turn t = absurd t
other_allowed kind s newline asked class finish t = absurd t

unfoldable passes : Control → ℕ → Summary → Bool
passes control kind s = implies (related control kind s) (both_bools λ newline. all_in (allows_entry kind s newline (asks control)) (row control newline))

unfoldable test : Control → Bool
test control = all_in (λ kind. all_summaries λ s. passes control kind s) (kinds control)

-- all settings, variables, endings and targets
abbrev settings : List Setting
settings = among body ∷ among block ∷ in_clause ∷ in_nest if_nest ∷ in_nest else_nest ∷ in_nest do_nest ∷ []

a_setting : (setting : Setting) → Has setting settings
a_setting (among body) = here
a_setting (among block) = there here
a_setting in_clause = there (there here)
a_setting (in_nest if_nest) = there (there (there here))
a_setting (in_nest else_nest) = there (there (there (there here)))
a_setting (in_nest do_nest) = there (there (there (there (there here))))

-- what is made of each of a list, and others
abbrev made_of : {A B : Type 0} → (A → B) → List A → List B → List B
made_of make [] rest = rest
made_of make (x ∷ more) rest = make x ∷ made_of make more rest

made-of : {A B : Type 0} (make : A → B) (rest : List B) {x : A} {all : List A} → Has x all → Has (make x) (made_of make all rest)
made-of make rest here = here
made-of make rest (there h) = there (made-of make rest h)

past_made : {A B : Type 0} (make : A → B) {rest : List B} {y : B} (all : List A) → Has y rest → Has y (made_of make all rest)
past_made make [] h = h
past_made make (x ∷ more) h = there (past_made make more h)

abbrev variables : List Variables
variables = made_of in_statement settings (in_head true ∷ in_head false ∷ [])

some_variables : (place : Variables) → Has place variables
some_variables (in_statement setting) = made-of in_statement (in_head true ∷ in_head false ∷ []) (a_setting setting)
some_variables (in_head true) = past_made in_statement settings here
some_variables (in_head false) = past_made in_statement settings (there here)

abbrev other_endings : List Ending
other_endings =
    by_start ∷ by_test ∷ by_step ∷ by_object ∷ by_case true ∷ by_case false ∷ by_paren ∷ by_bracket ∷ by_colon ∷ by_item call_arguments ∷ by_item array_elements
    ∷ by_item object_properties ∷ []

abbrev endings : List Ending
endings = made_of by_statement settings (made_of by_return settings (made_of by_variable variables other_endings))

past_all : {ending : Ending} → Has ending other_endings → Has ending endings
past_all h = past_made by_statement settings (past_made by_return settings (past_made by_variable variables h))

an_ending : (ending : Ending) → Has ending endings
an_ending (by_statement setting) = made-of by_statement (made_of by_return settings (made_of by_variable variables other_endings)) (a_setting setting)
an_ending (by_return setting) = past_made by_statement settings (made-of by_return (made_of by_variable variables other_endings) (a_setting setting))
an_ending (by_variable place) = past_made by_statement settings (past_made by_return settings (made-of by_variable other_endings (some_variables place)))
an_ending by_start = past_all here
an_ending by_test = past_all (there here)
an_ending by_step = past_all (there (there here))
an_ending by_object = past_all (there (there (there here)))
an_ending (by_case true) = past_all (there (there (there (there here))))
an_ending (by_case false) = past_all (there (there (there (there (there here)))))
an_ending by_paren = past_all (there (there (there (there (there (there here))))))
an_ending by_bracket = past_all (there (there (there (there (there (there (there here)))))))
an_ending by_colon = past_all (there (there (there (there (there (there (there (there here))))))))
an_ending (by_item call_arguments) = past_all (there (there (there (there (there (there (there (there (there here)))))))))
an_ending (by_item array_elements) = past_all (there (there (there (there (there (there (there (there (there (there here))))))))))
an_ending (by_item object_properties) = past_all (there (there (there (there (there (there (there (there (there (there (there here)))))))))))

abbrev all_targets : (Target → Bool) → Bool
all_targets p = p no_target && (p some_target && p lone_target)

at_target : (p : Target → Bool) → T (all_targets p) → (target : Target) → T (p target)
at_target p t no_target = (three (p no_target) (p some_target) (p lone_target) t).0
at_target p t some_target = (three (p no_target) (p some_target) (p lone_target) t).1
at_target p t lone_target = (three (p no_target) (p some_target) (p lone_target) t).2

each_setting : (control : Setting → Control) → T (all_in (λ setting. test (control setting)) settings) → (setting : Setting) → T (test (control setting))
each_setting control t setting = at (λ setting. test (control setting)) (a_setting setting) t

each_variables : (control : Variables → Control) → T (all_in (λ place. test (control place)) variables) → (place : Variables) → T (test (control place))
each_variables control t place = at (λ place. test (control place)) (some_variables place) t

each_ending : (control : Ending → Target → Control) → T (all_in (λ ending. all_targets λ target. test (control ending target)) endings)
    → (ending : Ending) (target : Target) → T (test (control ending target))
each_ending control t ending target =
    at_target (λ target. test (control ending target)) (at (λ ending. all_targets λ target. test (control ending target)) (an_ending ending) t) target

each_role : (control : Role → Control) → T (test (control declared))
    → T (all_in (λ ending. all_targets λ target. test (control (operand_in ending target))) endings) → (role : Role) → T (test (control role))
each_role control d t declared = d
each_role control d t (operand_in ending target) = each_ending (λ ending target. control (operand_in ending target)) t ending target

-- by `elim`: a clause is read twice, and what it computes is computed twice
passed : (control : Control) → T (test control)
unfolding test passes related allows opens_right taken_right is_leaf tree_class settled_class group_class takes_over
passed control =
    elim control as (λ k. T (test k)) [
      | statement_due must setting ↦
          elim must as (λ m. T (test (statement_due m setting))) [ true ↦ each_setting (statement_due true) tt setting | false ↦ each_setting (statement_due false) tt setting ]
      | statement_done nest ↦ elim nest as (λ n. T (test (statement_done n))) [ if_nest ↦ tt | else_nest ↦ tt | do_nest ↦ tt ]
      | name_first setting ↦ each_setting name_first tt setting
      | return_first setting ↦ each_setting return_first tt setting
      | throw_first setting ↦ each_setting throw_first tt setting
      | jump_first setting ↦ each_setting jump_first tt setting
      | head_first setting ↦ each_setting head_first tt setting
      | variable_due place ↦ each_variables variable_due tt place
      | variable_named place ↦ each_variables variable_named tt place
      | for_first setting ↦ each_setting for_first tt setting
      | start_due ↦ tt
      | test_due ↦ tt
      | step_due ↦ tt
      | switch_first setting ↦ each_setting switch_first tt setting
      | switch_past setting ↦ each_setting switch_past tt setting
      | clause_due seen ↦ elim seen as (λ b. T (test (clause_due b))) [ true ↦ tt | false ↦ tt ]
      | default_first ↦ tt
      | try_first ↦ tt
      | try_done ↦ tt
      | catch_first ↦ tt
      | catch_due ↦ tt
      | catch_named ↦ tt
      | catch_past ↦ tt
      | catch_done ↦ tt
      | finally_first ↦ tt
      | try_ended ↦ tt
      | body_done setting ↦ each_setting body_done tt setting
      | test_first setting ↦ each_setting test_first tt setting
      | semicolon_due setting ↦ each_setting semicolon_due tt setting
      | if_first ↦ tt
      | operand_due ending target ↦ each_ending operand_due tt ending target
      | member_due ending target ↦ each_ending member_due tt ending target
      | operand_done ending target ↦ each_ending operand_done tt ending target
      | postfix_done ending ↦ at (λ ending. test (postfix_done ending)) (an_ending ending) tt
      | dot_last ending target ↦ each_ending dot_last tt ending target
      | function_first role ↦ each_role function_first tt tt role
      | function_named role ↦ each_role function_named tt tt role
      | parameter_past role ↦ each_role parameter_past tt tt role
      | item_due items ↦ elim items as (λ i. T (test (item_due i))) [ call_arguments ↦ tt | array_elements ↦ tt | object_properties ↦ tt ]
      | property_named ↦ tt
      | parameter_due must ↦ elim must as (λ m. T (test (parameter_due m))) [ true ↦ tt | false ↦ tt ]
      | parameter_named ↦ tt
      | finished ↦ tt
    ]

-- the entry of a class, if each entry of the row is as asked
looked : (kind : ℕ) (s : Summary) (newline asked : Bool) (entries : List Entry) (class : ℕ) → T (all_in (allows_entry kind s newline asked) entries)
    → T (allows kind s newline asked class (look class entries))
unfolding allows
looked kind s newline asked [] class t = tt
looked kind s newline asked (on x action ∷ rest) class t =
    go (eqb class x) (λ h. h) (looked kind s newline asked rest class (and_right (allows kind s newline asked x action) (all_in (allows_entry kind s newline asked) rest) t))
  where
    go : (b : Bool) → (T b → T (eqb class x)) → T (allows kind s newline asked class (look class rest)) → T (allows kind s newline asked class (cond b action (look class rest)))
    go true h r = rw (eqb→eq class x (h tt)) (and_left (allows kind s newline asked x action) (all_in (allows_entry kind s newline asked) rest) t)
    go false h r = r
looked kind s newline asked (otherwise action ∷ rest) class t =
    other_allowed kind s newline asked class action (and_left (allows_other kind s action) (all_in (allows_entry kind s newline asked) rest) t)

-- where a control may stand, each of its actions is as asked
pub rule : (control : Control) (kind : ℕ) (s : Summary) → T (related control kind s) → (newline : Bool) (class : ℕ)
    → T (allows kind s newline (asks control) class (look class (row control newline)))
unfolding test passes related
rule control kind s r newline class =
    looked kind s newline (asks control) (row control newline) class
    (at_bool (λ newline. all_in (allows_entry kind s newline (asks control)) (row control newline))
    (implied (related control kind s) (both_bools λ newline. all_in (allows_entry kind s newline (asks control)) (row control newline))
    (at_summary (λ s. passes control kind s)
    (at (λ kind. all_summaries λ s. passes control kind s)
    (found (kinds control) kind (on_kind control kind s r)) (passed control))
    s)
    r)
    newline)

-- a tree that leaves as many `?`s open as there were
abbrev leaves_alone : Bool → Class → Bool
leaves_alone asked class = (not (is Class.question class) && not (is Class.answer class)) && implies (is Class.semicolon class) (not asked)

left_alone : (class : Class) (n : ℕ) → T (leaves_alone (ltb 0 n) class) → leaving class n ≡ n
left_alone class n = go (is Class.semicolon class) (is Class.question class) (is Class.answer class) (ltb 0 n) refl
  where
    go : (a b c d : Bool) → ltb 0 n ≡ d → T ((not b && not c) && implies a (not d)) → cond a 0 (cond b (n + 1) (cond c (n - 1) n)) ≡ n
    go true false false true e t = absurd t
    go true false false false e t = let z : n ≤ 0 = ltb-false 0 n e in omega arith
    go a true c d e t = absurd t
    go a false true d e t = absurd t
    go false false false d e t = refl

pub questions_kept : (before : Bool) (class n : ℕ) → T (is_leaf class) → T (keeps_questions (ltb 0 n) class) → leaving (settled_class before (ltb 0 n) class) n ≡ n
unfolding is_leaf tree_class settled_class
questions_kept before class n l t =
    left_alone (settled_class before (ltb 0 n) class) n
    (implied (keeps_questions (ltb 0 n) class) (leaves_alone (ltb 0 n) (settled_class before (ltb 0 n) class))
    (at_bool (λ asked. implies (keeps_questions asked class) (leaves_alone asked (settled_class before asked class)))
    (at_bool (λ before. both_bools λ asked. implies (keeps_questions asked class) (leaves_alone asked (settled_class before asked class)))
    (each_leaf (λ class. both_bools λ before. both_bools λ asked. implies (keeps_questions asked class) (leaves_alone asked (settled_class before asked class))) tt class l)
    before)
    (ltb 0 n))
    t)
