-- The rows that several controls share: what an entry does keeps a partial derivation.
use mathlib.Core.Path.{sym, ◌∙◌, ap, subst}
use mathlib.Core.Bool.{Bool, true, false, not}
use mathlib.Core.List.{List, [], ◌∷◌}
use Prim.Native.Nat.{ℕ, ◌+◌, ◌-◌, ◌≤◌, ◌<◌}
use native.Mathlib.Omega.{arith}
use lib.Dec.{T}
use Rattle.machine.specs.Tokens.{Token, token, Spot, new_word, in_word, question, comma, open_paren, open_bracket}
use Rattle.machine.specs.Operators.{assignment_precedence}
use Rattle.machine.specs.Syntax.{Syntax, nil}
use Rattle.grammar.specs.Grammar.{
  precedence,
  least_binary,
  assignment_operators,
  binary_operators_by,
  prefix_operators,
  prefix_kind,
  postfix_operators,
  postfix_kind,
  is_among,
  Leaf,
  leaf_name,
  leaf_number,
  leaf_string,
  leaf_pattern,
  leaf_this,
  leaf_null,
  leaf_true,
  leaf_false,
  starts_expression,
  HeadWord,
  while-word,
  with-word,
  JumpWord,
  continue-word,
  break-word,
  Scope,
  body,
  block,
  identifier,
  reserved_word,
  Items,
  call_arguments,
  array_elements,
  object_properties,
  at_argument,
  at_element,
  unary_form,
  items_form,
  list_form,
  Derives,
  Chain,
  unary_postfix,
  chain_leaf,
  no_items,
  add_hole,
  list_empty,
  list_items,
  statement_empty,
  no_variables,
  no_statements,
}
use Rattle.machine.specs.Machinery.Machine.{
  head_in,
  Pending,
  Frame,
  frame,
  empty,
  prefix_precedence,
  new_precedence,
  reduce,
  operand_of,
  done_of,
  await,
  complete_expression,
  complete_value,
  complete_variable,
  complete_head,
  postfixed,
  end_value,
  take_leaf,
  take_operator,
  take_prefix,
  take_postfix,
  start_statement,
  to_parens,
  to_array,
  to_statement,
  done_value,
  Setting,
  among,
  in_clause,
  Target,
  no_target,
  some_target,
  lone_target,
  is_target,
  Ending,
  by_statement,
  by_return,
  by_variable,
  by_start,
  by_test,
  by_step,
  by_object,
  by_case,
  by_paren,
  by_bracket,
  by_colon,
  by_item,
  statement_due,
  behind_statement,
  jump_first,
  head_first,
  variable_due,
  test_due,
  step_due,
  clause_due,
  operand_due,
  member_due,
  operand_done,
  postfix_done,
  item_due,
  Action,
  goto,
  push,
  leave,
  ask,
  Entry,
  on,
  for_each,
  values,
  primaries,
  beginnings,
  operand_begins,
  operand,
  member,
  no_statement,
  behind_comma,
  comma_action,
  behind_variables,
  later_variables,
  in_entry,
  is_first,
  ending_row,
  allows_in,
  after_unary,
  assignment_row,
  takes_in,
  postfix_row,
  after_operand,
  item_row,
  head_words,
  jump_words,
  word_row,
  Open,
  nested,
  asking,
  pop_to,
  turn_to,
  act,
  row,
}
use Rattle.grammar.proofs.TableLaws.{
  EachEntry,
  map_entries,
  at_class,
  each_entry,
  holds_at,
  binary_by,
  binary_precedence,
  binary_threshold,
  binary_under_prefix,
  assignment_threshold,
}
use Rattle.grammar.proofs.Waiting.{
  whole_level,
  whole-level,
  as_binary,
  as_expression,
  comma_begun,
  assignment_begun,
  binary_begun,
  prefix_begun,
  Waiting,
  none_waits,
  operator_waits,
  new_waits,
  may_call,
  target_level,
  binary_level,
  NewsClosed,
  chain_closes,
  chain_unary,
  news_close,
  lone_closes,
  unary_closes,
  unary_closes_tight,
}
use Rattle.grammar.proofs.Places.{statement_at, expression_at, list_at, Reached, in_block, after_do, block_statement, block_of_try, in_var, in_expression, in_parens, in_index, in_call, in_array, in_object, in_conditional, in_item}
use Rattle.grammar.proofs.Partial.{
  declaration_at,
  operand_at,
  Partial,
  at_statement,
  behind_name,
  at_inner_statement,
  behind_return,
  behind_throw,
  behind_jump,
  behind_head,
  behind_for,
  behind_switch,
  behind_try,
  at_variable,
  debugger_unended,
  at_semicolon,
  behind_if,
  at_operand,
  at_member,
  behind_operand,
  behind_postfix,
  behind_dot,
  behind-function,
  at_item,
  behind_property,
  PartialOf,
  at_expression,
  with_statement,
  statements_close,
  parens_close,
  index_closes,
  list_closes,
  item_ends,
  last_item_ends,
  first_ends,
  expression-ends,
  return_ends,
  initialised,
  variable_ends,
  last_variable_ends,
  only_variable_ends,
  start_ends,
  target_ends,
  test_ends,
  step_ends,
  object_ends,
  case_ends,
  text_ends,
}

value_leaf : (class : ℕ) → T (is_among values class) → Leaf class
value_leaf = holds_at Leaf values (leaf_number, (leaf_string, (leaf_pattern, (leaf_this, (leaf_null, (leaf_true, (leaf_false, tt)))))))

head-word : (class : ℕ) → T (is_among head_words class) → HeadWord class
head-word = holds_at HeadWord head_words (while-word, (with-word, tt))

-- the kind of a jump without a label is the number before that of its word
jump_word : (class : ℕ) → T (is_among jump_words class) → JumpWord class (class - 1)
jump_word = holds_at (λ class. JumpWord class (class - 1)) jump_words (continue-word, (break-word, tt))

-- what the entry for the `in` of a `for` has, where there is one, and all behind it have
pub in_row : (Holds : ℕ → Action → Type 0) (for : Bool) (more : List Entry) → (T for → Holds in_word (goto (operand_due by_object some_target) end_value))
    → EachEntry Holds more → EachEntry Holds (in_entry for more)
in_row Holds true more here others = (here tt, others)
in_row Holds false more here others = others

module _ (all : List Token) (spot : Spot) (rest : List Token) (around : List Open) where
  -- what stands before a token of a class is taken by an action to a partial derivation behind it
  abbrev pub Keeps : Frame → (List Token → Type 0) → ℕ → Action → Type 0
  Keeps f Stands class action = Stands (token class spot ∷ rest) → PartialOf all (act action class spot f around) rest

  -- an operand comes, or a member where `new` waits for it
  abbrev pub KeepsMember : Ending → Target → Syntax → List Pending → List Pending → Syntax → ℕ → Action → Type 0
  KeepsMember ending target done starts waiting last class action =
      (first : List Token) (level : ℕ) → Reached all (expression_at ending) done starts around first
      → Waiting ending target level waiting first (token class spot ∷ rest)
      → PartialOf all (act action class spot (frame done starts waiting last) around) rest

  abbrev pub KeepsOperand : Ending → Target → Syntax → List Pending → List Pending → Syntax → ℕ → Action → Type 0
  KeepsOperand ending target done starts waiting last class action =
      (first : List Token) (level : ℕ) → Reached all (expression_at ending) done starts around first
      → Waiting ending target level waiting first (token class spot ∷ rest) → level ≤ prefix_precedence
      → PartialOf all (act action class spot (frame done starts waiting last) around) rest

  module _ (ending : Ending) (target : Target) (done : Syntax) (starts waiting : List Pending) (last : Syntax) where
    -- what may begin a statement
    abbrev begins : ℕ → Bool
    begins class = starts_expression (token class spot ∷ rest)

    -- shared entries: they have what follows from that they keep it
    primaries_row : (Holds : ℕ → Action → Type 0)
        → ((class : ℕ) (action : Action) → T (begins class) → KeepsMember ending target done starts waiting last class action
        → Holds class action)
        → (more : List Entry) → EachEntry Holds more → EachEntry Holds (primaries ending target more)
    primaries_row Holds so more others =
        let leaf : ℕ → Action = λ class. goto (operand_done ending target) (take_leaf class) in
        let parens : Action = push (operand_due by_paren some_target) (operand_done ending target) to_parens in
        let array : Action = push (item_due array_elements) (operand_done ending target) to_array in
        let construct : Action = goto (member_due ending target) (take_prefix new_word) in
        each_entry Holds leaf values (on open_paren parens ∷ on open_bracket array ∷ on new_word construct ∷ more)
        (λ class value.
        so class (leaf class) (at_class begins values class value tt) (λ first level outer waits. behind_operand outer waits (chain_leaf (value_leaf class value)))) (
          so open_paren parens tt (λ first level outer waits. at_expression (in_parens outer waits)),
          (
            so open_bracket array tt (λ first level outer waits. at_item (in_array outer waits) no_items (list_items tt no_items)),
            (
              so new_word construct tt (λ first level outer waits. at_member outer (new_waits waits)),
              others,
            ),
          ),
        )

    beginnings_row : (Holds : ℕ → Action → Type 0)
        → ((class : ℕ) (action : Action) → T (begins class) → KeepsOperand ending target done starts waiting last class action
        → Holds class action)
        → (more : List Entry) → EachEntry Holds more → EachEntry Holds (beginnings ending target more)
    beginnings_row Holds so more others =
        let prefixed : ℕ → Action = λ class. goto (operand_due ending no_target) (take_prefix (prefix_kind class)) in
        each_entry Holds prefixed prefix_operators (primaries ending target more)
        (λ class op.
        so class (prefixed class) (at_class begins prefix_operators class op tt)
        (λ first level outer waits fits. at_operand outer (operator_waits waits fits (prefix_begun op)) (omega arith)))
        (primaries_row Holds (λ class action starts keeps. so class action starts (λ first level outer waits fits. keeps first level outer waits)) more others)

    operand_begins_row : (Holds : ℕ → Action → Type 0)
        → ((class : ℕ) (action : Action) → KeepsMember ending target done starts waiting last class action → Holds class action) → (more : List Entry)
        → EachEntry Holds more → EachEntry Holds (operand_begins ending target more)
    operand_begins_row Holds so more others = (
      so _ _ (λ first level outer waits. behind_operand outer waits (chain_leaf leaf_name)),
      (
        so _ _ (λ first level outer waits. at_item (in_object outer waits) no_items (list_items tt no_items)),
        (
          so _ _ (λ first level outer waits. behind-function (operand_at outer waits)),
          others,
        ),
      ),
    )

    pub member_row : EachEntry (KeepsMember ending target done starts waiting last) (member ending target)
    member_row =
        let Holds : ℕ → Action → Type 0 = KeepsMember ending target done starts waiting last in
        operand_begins_row Holds (λ class action keeps. keeps) (primaries ending target []) (primaries_row Holds (λ class action starts keeps. keeps) [] tt)

    pub operand_row : EachEntry (KeepsOperand ending target done starts waiting last) (operand ending target)
    operand_row =
        let Holds : ℕ → Action → Type 0 = KeepsOperand ending target done starts waiting last in
        operand_begins_row Holds (λ class action keeps first level outer waits fits. keeps first level outer waits) (beginnings ending target [])
        (beginnings_row Holds (λ class action starts keeps. keeps) [] tt)

  -- a Unary has ended
  abbrev pub KeepsUnary : Ending → Syntax → List Pending → List Pending → Syntax → ℕ → Action → Type 0
  KeepsUnary ending done starts waiting last class action =
      (first : List Token) (target : Target) → Reached all (expression_at ending) done starts around first
      → NewsClosed ending done starts target unary_form waiting first (token class spot ∷ rest) last
      → PartialOf all (act action class spot (frame done starts waiting last) around) rest

  module _ (done : Syntax) (starts waiting : List Pending) (last : Syntax) where
    binary_entry : (ending : Ending) (class : ℕ) → T (is_among (binary_operators_by (allows_in ending)) class)
        → KeepsUnary ending done starts waiting last class (goto (operand_due ending no_target) (take_operator class))
    binary_entry ending class op first _ outer unary =
        let operator = binary_by (allows_in ending) class op in
        let from = binary_precedence class operator in
        let to = binary_under_prefix class operator in
        let r = unary_closes_tight ending done starts (precedence class) (loosest (precedence class) from) (under (precedence class) to) unary in
        subst (λ (f : Frame). Partial all (operand_due ending no_target) (await class spot.mark f) around rest)
        (sym (ap (λ (least : ℕ). reduce least done starts waiting last) (binary_threshold class operator) ∙ r.same))
        (at_operand outer (operator_waits r.waits r.fits (binary_begun op (as_binary from r.whole))) (next (precedence class) to))
      where
        loosest : (a : ℕ) → least_binary ≤ a → whole_level ending ≤ a
        loosest a h = let w = whole-level ending in omega arith

        under : (a : ℕ) → a < prefix_precedence → a ≤ prefix_precedence
        under a h = omega arith

        next : (a : ℕ) → a < prefix_precedence → a + 1 ≤ prefix_precedence
        next a h = omega arith

    question_entry : (ending : Ending) → KeepsUnary ending done starts waiting last question (ask ending)
    question_entry ending first _ outer unary =
        let r = unary_closes_tight ending done starts least_binary (loosest (whole-level ending)) (omega arith) unary in
        subst (λ (f : Frame). Partial all (operand_due by_colon some_target) empty (asking ending spot.mark f ∷ around) rest) (sym r.same)
        (at_expression (in_conditional outer r.waits (binary_level r.waits r.fits) (as_binary (omega arith) r.whole)))
      where
        loosest : whole_level ending ≤ assignment_precedence → whole_level ending ≤ least_binary
        loosest h = omega arith

    comma_entry : (ending : Ending) → whole_level ending ≤ 1 → KeepsUnary ending done starts waiting last comma (comma_action ending)
    comma_entry ending may first _ outer unary =
        let r = unary_closes_tight ending done starts 1 may (omega arith) unary in
        subst (λ (f : Frame). Partial all (operand_due ending some_target) (await comma spot.mark f) around rest) (sym r.same)
        (at_operand outer (operator_waits r.waits r.fits (comma_begun (as_expression r.whole))) (omega arith))

    ending-row : (ending : Ending) → EachEntry (KeepsUnary ending done starts waiting last) (ending_row ending)
    ending-row (by_statement setting) = (
      (λ first target outer unary.
          let r = unary_closes (by_statement setting) done starts unary in
          subst (λ (f : Frame). Partial all (behind_statement setting) (complete_expression spot.mark f) around rest) (sym r.same)
          (expression-ends outer r.whole)),
      (comma_entry (by_statement setting) (omega arith), tt),
    )
    ending-row (by_return setting) = (
      (λ first target outer unary.
          let r = unary_closes (by_return setting) done starts unary in
          subst (λ (f : Frame). Partial all (behind_statement setting) (complete_value f) around rest) (sym r.same) (return_ends outer r.whole)),
      (comma_entry (by_return setting) (omega arith), tt),
    )
    ending-row (by_variable place) = (
      (λ first target outer unary.
          let r = unary_closes (by_variable place) done starts unary in
          subst (λ (f : Frame). Partial all (behind_variables place) (complete_value f) around rest) (sym r.same)
          (last_variable_ends (initialised outer r.whole))),
      (
        (λ first target outer unary.
            let r = unary_closes (by_variable place) done starts unary in
            subst (λ (f : Frame). Partial all (variable_due (later_variables place)) (complete_variable f) around rest) (sym r.same)
            (variable_ends (initialised outer r.whole))),
        in_row (KeepsUnary (by_variable place) done starts waiting last) (is_first place) []
            (λ only first target outer unary.
            let r = unary_closes (by_variable place) done starts unary in
            subst (λ (f : Frame). Partial all (operand_due by_object some_target) (complete_value f) around rest) (sym r.same)
            (only_variable_ends only (initialised outer r.whole)))
            tt,
      ),
    )
    ending-row by_start = (
      (λ first target outer unary.
          let r = unary_closes by_start done starts unary in
          subst (λ (f : Frame). Partial all test_due (complete_value f) around rest) (sym r.same) (start_ends outer r.whole)),
      (comma_entry by_start (omega arith), tt),
    )
    ending-row by_test = (
      (λ first target outer unary.
          let r = unary_closes by_test done starts unary in
          subst (λ (f : Frame). Partial all step_due (complete_value f) around rest) (sym r.same) (test_ends outer r.whole)),
      (comma_entry by_test (omega arith), tt),
    )
    ending-row by_step = (
      (λ first target outer unary.
          let r = unary_closes by_step done starts unary in
          subst (λ (f : Frame). PartialOf all (pop_to spot.first (done_of (complete_value f)) around) rest) (sym r.same) (step_ends outer r.whole spot.first)),
      (comma_entry by_step (omega arith), tt),
    )
    ending-row by_object = (
      (λ first target outer unary.
          let r = unary_closes by_object done starts unary in
          subst (λ (f : Frame). PartialOf all (pop_to spot.first (done_of (complete_value f)) (head_in around)) rest) (sym r.same) (object_ends outer r.whole spot.first)),
      (comma_entry by_object (omega arith), tt),
    )
    ending-row (by_case seen) = (
      (λ first target outer unary.
          let r = unary_closes (by_case seen) done starts unary in
          subst (λ (f : Frame). Partial all (statement_due false in_clause) empty (nested (clause_due seen) to_statement spot.mark (complete_head f) ∷ around) rest)
          (sym r.same) (case_ends outer r.whole)),
      (comma_entry (by_case seen) (omega arith), tt),
    )
    ending-row by_paren = (
      (λ first target outer unary.
          let r = unary_closes by_paren done starts unary in
          subst (λ (f : Frame). PartialOf all (pop_to spot.first (operand_of f) around) rest) (sym r.same) (parens_close outer r.whole spot.first)),
      (comma_entry by_paren (omega arith), tt),
    )
    ending-row by_bracket = (
      (λ first target outer unary.
          let r = unary_closes by_bracket done starts unary in
          subst (λ (f : Frame). PartialOf all (pop_to spot.first (operand_of f) around) rest) (sym r.same) (index_closes outer r.whole spot.first)),
      (comma_entry by_bracket (omega arith), tt),
    )
    ending-row by_colon = (
      λ first target outer unary.
          let r = unary_closes by_colon done starts unary in
          subst (λ (f : Frame). PartialOf all (turn_to spot.first (operand_of f) around) rest) (sym r.same) (first_ends outer r.whole spot.first),
      tt,
    )
    ending-row (by_item items) = (
      (λ first target outer unary.
          let r = unary_closes (by_item items) done starts unary in
          subst (λ (f : Frame). Partial all (behind_comma items) (complete_value f) around rest) (sym r.same) (item_ends outer r.whole)),
      (
        (λ first target outer unary.
            let r = unary_closes (by_item items) done starts unary in
            subst (λ (f : Frame). PartialOf all (pop_to spot.first (done_of (complete_value f)) around) rest) (sym r.same)
            (last_item_ends outer r.whole spot.first)),
        tt,
      ),
    )

    pub unary_row : (ending : Ending) → EachEntry (KeepsUnary ending done starts waiting last) (after_unary ending)
    unary_row ending =
        each_entry (KeepsUnary ending done starts waiting last) (λ class. goto (operand_due ending no_target) (take_operator class)) (binary_operators_by (allows_in ending))
        (on question (ask ending) ∷ ending_row ending) (λ class op. binary_entry ending class op) (question_entry ending, ending-row ending)

  -- an operand has ended
  abbrev pub KeepsChain : Ending → Target → Syntax → List Pending → List Pending → Syntax → ℕ → Action → Type 0
  KeepsChain ending target done starts waiting last class action =
      (first before : List Token) (level : ℕ) → Reached all (expression_at ending) done starts around first
      → Waiting ending target level waiting first before → Chain (may_call waiting) before (token class spot ∷ rest) last
      → PartialOf all (act action class spot (frame done starts waiting last) around) rest

  -- the `in` of a `for` comes behind its start
  in-entry : (done : Syntax) (starts waiting : List Pending) (last : Syntax) (ending : Ending) (target : Target) → T (takes_in ending target)
      → KeepsChain ending target done starts waiting last in_word (goto (operand_due by_object some_target) end_value)
  in-entry done starts waiting last ending no_target for = absurd for
  in-entry done starts waiting last ending some_target for = absurd for
  in-entry done starts waiting last by_start lone_target for = λ first before level outer waits chain.
      let r = lone_closes by_start done starts (chain_closes by_start done starts waits chain) in
      subst (λ (f : Frame). Partial all (operand_due by_object some_target) (complete_value f) around rest) (sym r.same) (target_ends outer r.whole)
  in-entry done starts waiting last (by_statement setting) lone_target for = absurd for
  in-entry done starts waiting last (by_return setting) lone_target for = absurd for
  in-entry done starts waiting last (by_variable place) lone_target for = absurd for
  in-entry done starts waiting last by_test lone_target for = absurd for
  in-entry done starts waiting last by_step lone_target for = absurd for
  in-entry done starts waiting last by_object lone_target for = absurd for
  in-entry done starts waiting last (by_case seen) lone_target for = absurd for
  in-entry done starts waiting last by_paren lone_target for = absurd for
  in-entry done starts waiting last by_bracket lone_target for = absurd for
  in-entry done starts waiting last by_colon lone_target for = absurd for
  in-entry done starts waiting last (by_item items) lone_target for = absurd for

  module _ (ending : Ending) (done : Syntax) (starts waiting : List Pending) (last : Syntax) where
    assignment_entry : (target : Target) → T (is_target target) → (class : ℕ) → T (is_among assignment_operators class)
        → KeepsChain ending target done starts waiting last class (goto (operand_due ending some_target) (take_operator class))
    assignment_entry _ may class op first before level outer waits chain =
        let r = chain_closes ending done starts waits chain in
        let loose = target_level may r.waits r.fits in
        subst (λ (f : Frame). Partial all (operand_due ending some_target) (await class spot.mark f) around rest)
        (sym
        (ap (λ (least : ℕ). reduce least done starts waiting last) (assignment_threshold class op)
        ∙ news_close ending done starts least_binary r (omega arith) (omega arith)))
        (at_operand outer (operator_waits r.waits loose (assignment_begun op r.whole)) (omega arith))

    assignment-row : (target : Target) (more : List Entry) → EachEntry (KeepsChain ending target done starts waiting last) more
        → EachEntry (KeepsChain ending target done starts waiting last) (assignment_row ending target more)
    assignment-row no_target more others = others
    assignment-row some_target more others =
        each_entry (KeepsChain ending some_target done starts waiting last) (λ class. goto (operand_due ending some_target) (take_operator class))
        assignment_operators more (assignment_entry some_target tt) others
    assignment-row lone_target more others =
        each_entry (KeepsChain ending lone_target done starts waiting last) (λ class. goto (operand_due ending some_target) (take_operator class))
        assignment_operators more (assignment_entry lone_target tt) others

    postfix_entry : (target : Target) (class : ℕ) → T (is_among postfix_operators class) → T (not spot.newline)
        → KeepsChain ending target done starts waiting last class (goto (postfix_done ending) (take_postfix (postfix_kind class)))
    postfix_entry _ class op same first before level outer waits chain =
        let r = chain_closes ending done starts waits chain in
        let under = r.fits in
        subst (λ (f : Frame). Partial all (postfix_done ending) (postfixed (postfix_kind class) spot.mark f) around rest)
        (sym (news_close ending done starts new_precedence r (omega arith) (omega arith)))
        (behind_postfix outer r.waits r.fits (unary_postfix op same r.whole))

    postfix-row : (target : Target) (newline : Bool) → (T (not newline) → T (not spot.newline)) → (more : List Entry)
        → EachEntry (KeepsChain ending target done starts waiting last) more
        → EachEntry (KeepsChain ending target done starts waiting last) (postfix_row ending newline more)
    postfix-row target true same more others = others
    postfix-row target false same more others =
        each_entry (KeepsChain ending target done starts waiting last) (λ class. goto (postfix_done ending) (take_postfix (postfix_kind class)))
        postfix_operators more (λ class op. postfix_entry target class op (same tt)) others

    pub chain_row : (target : Target) → EachEntry (KeepsChain ending target done starts waiting last) (after_operand ending target spot.newline)
    chain_row target = (
      (λ first before level outer waits chain. behind_dot outer waits chain),
      (
        (λ first before level outer waits chain. at_item (in_call outer waits chain) no_items list_empty),
        (
          (λ first before level outer waits chain. at_expression (in_index outer waits chain)),
          in_row (KeepsChain ending target done starts waiting last) (takes_in ending target)
              (assignment_row ending target (postfix_row ending spot.newline (after_unary ending))) (in-entry done starts waiting last ending target)
              (assignment-row target (postfix_row ending spot.newline (after_unary ending))
              (postfix-row target spot.newline (λ same. same) (after_unary ending)
              (map_entries (KeepsUnary ending done starts waiting last) (KeepsChain ending target done starts waiting last) (after_unary ending)
              (λ class action keeps first before level outer waits chain. keeps first target outer (chain_unary ending done starts (chain_closes ending done starts waits chain)))
              (unary_row done starts waiting last ending)))),
        ),
      ),
    )

  -- an item may come, or the list may end
  abbrev KeepsItem : Items → List Token → Syntax → ℕ → Action → Type 0
  KeepsItem items first done class action =
      Keeps (frame done [] [] nil) (λ here. Derives (items_form items) first here done × Derives (list_form items) first here done) class action

  pub item-row : (items : Items) (first : List Token) (done : Syntax) → Reached all (list_at items) nil [] around first
      → EachEntry (KeepsItem items first done) (item_row items)
  item-row call_arguments first done outer = (
    (λ s. list_closes outer s.1 spot.first),
    map_entries (KeepsOperand (by_item call_arguments) some_target done [] [] nil) (KeepsItem call_arguments first done) (operand (by_item call_arguments) some_target)
        (λ k action keeps s. keeps _ _ (in_item outer s.0 at_argument) (none_waits tt) (omega arith)) (operand_row (by_item call_arguments) some_target done [] [] nil),
  )
  item-row array_elements first done outer = (
    (λ s. at_item outer (add_hole s.0) (list_items tt (add_hole s.0))),
    (
      (λ s. list_closes outer s.1 spot.first),
      map_entries (KeepsOperand (by_item array_elements) some_target done [] [] nil) (KeepsItem array_elements first done) (operand (by_item array_elements) some_target)
          (λ k action keeps s. keeps _ _ (in_item outer s.0 at_element) (none_waits tt) (omega arith)) (operand_row (by_item array_elements) some_target done [] [] nil),
    ),
  )
  item-row object_properties first done outer = (
    (λ s. behind_property outer s.0 identifier),
    (
      (λ s. behind_property outer s.0 reserved_word),
      (
        (λ s. list_closes outer s.1 spot.first),
        tt,
      ),
    ),
  )

  -- a statement may start
  abbrev pub KeepsStatement : Setting → Syntax → List Pending → ℕ → Action → Type 0
  KeepsStatement setting done starts class action = Keeps (frame done starts [] nil) (Reached all (statement_at setting) done starts around) class action

  pub no_statement_row : (scope : Scope) (done : Syntax) → EachEntry (KeepsStatement (among scope) done []) (no_statement false (among scope))
  no_statement_row body done = (
    (λ place. behind-function (declaration_at place)),
    (
      (λ place. statements_close place spot.first),
      (
        (λ place. text_ends place spot.first),
        tt,
      ),
    ),
  )
  no_statement_row block done = ((λ place. statements_close place spot.first), tt)

  -- a clause of a `switch` ends before another, and before the `}`
  pub no_clause_statement_row : (done : Syntax) → ((class : ℕ) → KeepsStatement in_clause done [] class (leave done_value))
      → EachEntry (KeepsStatement in_clause done []) (no_statement false in_clause)
  no_clause_statement_row done leaves = (leaves _, (leaves _, (leaves _, tt)))

  word-row : (setting : Setting) (done : Syntax) (starts : List Pending) (more : List Entry) → EachEntry (KeepsStatement setting done starts) more
      → EachEntry (KeepsStatement setting done starts) (word_row setting more)
  word-row setting done starts more others =
      let Holds : ℕ → Action → Type 0 = KeepsStatement setting done starts in
      let head : ℕ → Action = λ class. goto (head_first setting) (start_statement class) in
      let jump : ℕ → Action = λ class. goto (jump_first setting) (start_statement class) in (
        (λ place. with_statement place statement_empty),
        (
          (λ place. at_variable (in_var place no_variables)),
          (
            (λ place. at_inner_statement (after_do place)),
            (
              (λ place. behind_for place),
              (
                (λ place. behind_switch place),
                (
                  (λ place. behind_throw place),
                  (
                    (λ place. behind_try (block_of_try place)),
                    (
                      (λ place. at_semicolon place debugger_unended),
                      each_entry Holds head head_words (for_each jump jump_words more) (λ class h place. behind_head (head-word class h) place)
                          (each_entry Holds jump jump_words more (λ class h place. behind_jump (jump_word class h) place) others),
                    ),
                  ),
                ),
              ),
            ),
          ),
        ),
      )

  pub statement_row : (must : Bool) (setting : Setting) (done : Syntax) (starts : List Pending)
      → EachEntry (KeepsStatement setting done starts) (no_statement must setting)
      → EachEntry (KeepsStatement setting done starts) (row (statement_due must setting) spot.newline)
  statement_row must setting done starts more = (
    (λ place. at_statement (in_block (block_statement place) no_statements)),
    (
      (λ place. behind_if place),
      (
        (λ place. behind_return place),
        (
          (λ place. behind_name place),
          word-row setting done starts (beginnings (by_statement setting) some_target (no_statement must setting))
              (beginnings_row (by_statement setting) some_target done starts [] nil (KeepsStatement setting done starts)
              (λ class action begins keeps place. keeps _ _ (in_expression begins place) (none_waits tt) (omega arith)) (no_statement must setting) more),
        ),
      ),
    ),
  )
