-- What an expression begins with; where a statement or a returned value may begin, the machine takes it as an expression.
use mathlib.Core.Path.{◌≡◌, refl, sym, ◌∙◌, ap}
use mathlib.Core.Bool.{Bool, true, false, not, ◌||◌}
use mathlib.Core.List.{List, [], ◌∷◌, ◌++◌}
use Prim.Native.Nat.{ℕ}
use lib.Dec.{T, T_not, eqb, eqb→eq}
use Rattle.machine.specs.Tokens.{Token, token, Spot, name, new_word, var_word, colon, semicolon, open_paren, close_paren, open_bracket, close_bracket, open_brace, comma, return_word, function_word, if_word, word_name}
use Rattle.machine.specs.Syntax.{Syntax, nil, node, full_return_syntax}
use Rattle.grammar.specs.Grammar.{
  Leaf,
  leaf_name,
  leaf_number,
  leaf_string,
  leaf_pattern,
  leaf_this,
  leaf_null,
  leaf_true,
  leaf_false,
  block,
  assignment_operators,
  binary_operators,
  prefix_operators,
  prefix_kind,
  postfix_operators,
  is_among,
  starts_expression,
  on_same_line,
  identifier,
  reserved_word,
  Items,
  call_arguments,
  array_elements,
  object_properties,
  ItemStart,
  at_argument,
  at_element,
  at_property,
  Chain,
  chain_leaf,
  chain_array,
  chain_object,
  chain_parens,
  chain_function,
  chain_unnamed,
  chain_index,
  chain_member,
  chain_call,
  chain_new,
  target_form,
  binary_form,
  assign_form,
  expression_form,
  Derives,
  target_chain,
  target_new,
  Unary,
  unary_target,
  unary_prefix,
  unary_postfix,
  binary_unary,
  binary_operator,
  assign_binary,
  assign_to,
  assign_conditional,
  expression_assign,
  expression_comma,
}
use Rattle.machine.specs.Machinery.Machine.{
  Frame,
  frame,
  Ending,
  Setting,
  among,
  statement_due,
  name_first,
  return_first,
  throw_first,
  jump_first,
  semicolon_due,
  variable_due,
  Variables,
  in_statement,
  in_head,
  start_due,
  test_due,
  step_due,
  behind_statement,
  operand_due,
  member_due,
  operand_done,
  by_statement,
  by_return,
  by_item,
  by_start,
  by_test,
  by_step,
  Target,
  no_target,
  some_target,
  lone_target,
  keep,
  take_name,
  take_label,
  take_leaf,
  take_prefix,
  hold_word,
  start_statement,
  end_bare,
  end_value,
  done_value,
  list_value,
  to_block,
  to_statement,
  Control,
  if_first,
  item_due,
  property_named,
  behind_comma,
  Action,
  goto,
  push,
  enter,
  pop,
  Entry,
  on,
  look,
  values,
  operand_begins,
  primaries,
  beginnings,
  operand,
  member,
  no_statement,
  word_row,
  after_operand,
  row,
  Open,
  State,
  live,
  act,
  consume,
  asks,
  asks_in,
}
use Rattle.machine.specs.Machinery.Classes.{is_sensed}
use Rattle.grammar.proofs.TableLaws.{each_class, at_class, binary_by, at_leaf, among_rest, look_past, look_each, look_behind, look_under, has_entry, look_within, look_beyond, no_newline}

-- a token comes, and it is no `:`
abbrev pub no_colon : List Token → Bool
no_colon [] = false
no_colon (token class spot ∷ rest) = not (eqb class colon)

-- The tokens begin with one of the classes; where a name comes, what stands behind it is no `:`, if that is so of what stands behind the part: so they
-- begin as no label does.
pub data Begins (classes : List ℕ) (past : Bool) : List Token → Type 0 where
  by_class : {class : ℕ} {spot : Spot} {rest : List Token} → T (is_among classes class) → (T (eqb class name) → T past → T (no_colon rest))
      → Begins classes past (token class spot ∷ rest)

-- the classes that begin an operand wherever one is due; a Target; and an expression
abbrev plain_starts : List ℕ
plain_starts = open_paren ∷ open_bracket ∷ new_word ∷ values

abbrev pub target_starts : List ℕ
target_starts = name ∷ open_brace ∷ function_word ∷ plain_starts

abbrev pub expression_starts : List ℕ
expression_starts = target_starts ++ prefix_operators

module _ {classes : List ℕ} {past : Bool} where
  -- another class than a name
  begins_by : {class : ℕ} {spot : Spot} {rest : List Token} → T (is_among classes class) → T (not (eqb class name))
      → Begins classes past (token class spot ∷ rest)
  begins_by {class} listed other = by_class listed λ named. absurd (T_not (eqb class name) other named)

  followed : {before : List Token} (behind : Bool) → T behind → Begins classes behind before → Begins classes past before
  followed behind h (by_class listed next) = by_class listed λ named k. next named h

chain_begins : {calls : Bool} {before after : List Token} {value : Syntax} → Chain calls before after value → Begins target_starts (no_colon after) before
chain_begins (chain_leaf leaf) = by_class (at_leaf (is_among target_starts) tt leaf) λ named next. next
chain_begins (chain_array _) = begins_by tt tt
chain_begins (chain_object _) = begins_by tt tt
chain_begins (chain_parens value) = begins_by tt tt
chain_begins (chain_function function) = begins_by tt tt
chain_begins (chain_unnamed function) = begins_by tt tt
chain_begins (chain_index object value) = followed true tt (chain_begins object)
chain_begins (chain_member called object) = followed true tt (chain_begins object)
chain_begins (chain_call callee values) = followed true tt (chain_begins callee)
chain_begins (chain_new callee values) = begins_by tt tt

pub target_begins : {calls : Bool} {before after : List Token} {value : Syntax} → Derives (target_form calls) before after value
    → Begins target_starts (no_colon after) before
target_begins (target_chain chain) = chain_begins chain
target_begins (target_new callee) = begins_by tt tt

-- operators are no `:`
operator_no_colon : (classes : List ℕ) → T (each_class (λ x. not (eqb x colon)) classes) → (class : ℕ) → T (is_among classes class) → T (not (eqb class colon))
operator_no_colon classes none class h = at_class (λ x. not (eqb x colon)) classes class h none

pub widened : {past : Bool} {before : List Token} → Begins target_starts past before → Begins expression_starts past before
widened (by_class {class = class} listed next) = by_class (at_class (is_among expression_starts) target_starts class listed tt) next

unary_begins : {before after : List Token} {value : Syntax} → Unary before after value → Begins expression_starts (no_colon after) before
unary_begins (unary_target target) = widened (target_begins target)
unary_begins (unary_prefix {class = class} op operand) =
    begins_by (at_class (is_among expression_starts) prefix_operators class op tt) (at_class (λ x. not (eqb x name)) prefix_operators class op tt)
unary_begins (unary_postfix {class = class} op same operand) =
    followed (not (eqb class colon)) (operator_no_colon postfix_operators tt class op) (widened (target_begins operand))

binary_begins : {within : Bool} {least : ℕ} {before after : List Token} {value : Syntax} → Derives (binary_form within least) before after value
    → Begins expression_starts (no_colon after) before
binary_begins (binary_unary unary) = unary_begins unary
binary_begins {within} (binary_operator {class = class} op tight left right) =
    followed (not (eqb class colon)) (operator_no_colon binary_operators tt class (binary_by within class op)) (binary_begins left)

-- where no `:` stands behind the whole, it begins as no label does
pub assign_begins : {within : Bool} {before after : List Token} {value : Syntax} → Derives (assign_form within) before after value → T (no_colon after)
    → Begins expression_starts true before
assign_begins {after = after} (assign_binary binary) next = followed (no_colon after) next (binary_begins binary)
assign_begins (assign_to {class = class} op target value) next =
    followed (not (eqb class colon)) (operator_no_colon assignment_operators tt class op) (widened (target_begins target))
assign_begins (assign_conditional condition first second) next = followed true tt (binary_begins condition)

pub expression_begins : {within : Bool} {before after : List Token} {value : Syntax} → Derives (expression_form within) before after value → T (no_colon after)
    → Begins expression_starts true before
expression_begins (expression_assign value) next = assign_begins value next
expression_begins (expression_comma left right) next = expression_begins left tt

-- what is seen of a run: of a state only what it makes of the next token and whether a `?` is open there, and nothing at a token that the prefix rule does
-- not settle
pub record Sees {A : Type 0} (seen : State → List Token → A) : Type 0 where
  pub by_take : (state other : State) (t : Token) (ts : List Token) → asks_in state ≡ asks_in other → consume state t ≡ consume other t
      → seen state (t ∷ ts) ≡ seen other (t ∷ ts)
  pub past_other : (state : State) (class : ℕ) (spot : Spot) (ts : List Token) → T (not (is_sensed (asks_in state) class))
      → seen state (token class spot ∷ ts) ≡ seen (consume state (token class spot)) ts

-- where an item may come: the first of a list, or one behind a `,`
abbrev pub between_items : Items → Bool → Control
between_items items true = item_due items
between_items items false = behind_comma items

-- where a variable may come: the first of them, or one behind a `,`
abbrev pub between_variables : Variables → Bool → Variables
between_variables (in_statement setting) first = in_statement setting
between_variables (in_head only) first = in_head first

-- the parts of the head of a `for`: where each may begin, its ending, what its first chain may be, and the class that ends it
pub data HeadPart : Control → Ending → Target → ℕ → Type 0 where
  start_part : HeadPart start_due by_start lone_target semicolon
  test_part : HeadPart test_due by_test some_target semicolon
  step_part : HeadPart step_due by_step some_target close_paren

-- the entries of the row where a statement may begin that begin no expression
abbrev statement_only : Setting → List Entry
statement_only setting =
    on open_brace (push (statement_due false (among block)) (behind_statement setting) to_block)
    ∷ on if_word (enter if_first hold_word keep (behind_statement setting) to_statement)
    ∷ on return_word (goto (return_first setting) (start_statement full_return_syntax))
    ∷ on name (goto (name_first setting) take_name)
    ∷ word_row setting []

-- other beginnings of an expression are looked up alike where a statement may begin and where an operand is due
statement_or_operand : (must : Bool) (setting : Setting) (class : ℕ) → T (is_among (plain_starts ++ prefix_operators) class)
    → look class (statement_only setting ++ beginnings (by_statement setting) some_target (no_statement must setting)) ≡ look class (operand (by_statement setting) some_target)
statement_or_operand must setting class h =
    let plain = beginnings (by_statement setting) some_target [] in
    let starts = operand_begins (by_statement setting) some_target [] in
    look_beyond (statement_only setting) (plain ++ no_statement must setting) class (here (λ x. not (has_entry (statement_only setting) x)) tt)
    ∙ look_within plain (no_statement must setting) class (here (has_entry plain) tt)
    ∙ sym (look_beyond starts plain class (here (λ x. not (has_entry starts x)) tt))
  where
    here : (test : ℕ → Bool) → T (each_class test (plain_starts ++ prefix_operators)) → T (test class)
    here test each = at_class test (plain_starts ++ prefix_operators) class h each

-- beginnings of a Target are looked up alike behind `new`
member_or_operand : (ending : Ending) (target : Target) (class : ℕ) → T (is_among target_starts class)
    → look class (member ending target) ≡ look class (operand ending target)
member_or_operand ending target class h =
    sym (look_under (operand_begins ending target []) (beginnings ending target []) (primaries ending target []) class
    (look_behind (λ class. goto (operand_due ending no_target) (take_prefix (prefix_kind class))) prefix_operators (primaries ending target []) class
    (at_class (λ x. not (is_among prefix_operators x)) target_starts class h tt)))

-- leaves are looked up where an operand is due
pub look_leaf : {class : ℕ} (ending : Ending) (target : Target) → Leaf class
    → look class (operand ending target) ≡ goto (operand_done ending target) (take_leaf class)
look_leaf ending _ leaf_name = refl
look_leaf ending _ leaf_number = refl
look_leaf ending _ leaf_string = refl
look_leaf ending _ leaf_pattern = refl
look_leaf ending _ leaf_this = refl
look_leaf ending _ leaf_null = refl
look_leaf ending _ leaf_true = refl
look_leaf ending _ leaf_false = refl

-- operators before an operand are looked up behind names, objects and functions
pub look_prefix : (ending : Ending) (target : Target) (class : ℕ) → T (is_among prefix_operators class)
    → look class (operand ending target) ≡ goto (operand_due ending no_target) (take_prefix (prefix_kind class))
look_prefix ending target class op =
    let starts = operand_begins ending target [] in
    look_beyond starts (beginnings ending target []) class (at_class (λ x. not (has_entry starts x)) prefix_operators class op tt)
    ∙ look_each (λ class. goto (operand_due ending no_target) (take_prefix (prefix_kind class))) prefix_operators (primaries ending target []) class op

not_either : (a b : Bool) → T (not (a || b)) → T (not a) × T (not b)
not_either true b h = absurd h
not_either false b h = (tt, h)

module _ {A : Type 0} {seen : State → List Token → A} (sees : Sees seen) where
  -- a name before no `:` is an operand
  name_is_operand : (setting : Setting) (f : Frame) (around : List Open) (rest : List Token) → T (no_colon rest)
      → seen (live (name_first setting) f around) rest ≡ seen (live (operand_done (by_statement setting) some_target) f around) rest
  name_is_operand setting f around [] next = absurd next
  name_is_operand setting f around (token class spot ∷ rest) next =
      sees.by_take (live (name_first setting) f around) (live (operand_done (by_statement setting) some_target) f around) (token class spot) rest refl
      (ap (λ (z : Action). act z class spot f around)
      (look_past class colon (goto (statement_due true setting) take_label) (after_operand (by_statement setting) some_target spot.newline) next))

  -- "not starting with `{` or `function`": a statement that begins as an expression is taken as one
  pub expression_is_taken : (must : Bool) (setting : Setting) (f : Frame) (around : List Open) {before : List Token}
      → Begins expression_starts true before → T (starts_expression before)
      → seen (live (statement_due must setting) f around) before ≡ seen (live (operand_due (by_statement setting) some_target) f around) before
  expression_is_taken must setting f around (by_class {class = class} {spot = spot} {rest = rest} listed next) allowed =
      go (eqb class name) (λ t. t) (λ t. t)
    where
      by_name : (f : Frame) → T (no_colon rest)
          → seen (live (statement_due must setting) f around) (token name spot ∷ rest)
          ≡ seen (live (operand_due (by_statement setting) some_target) f around) (token name spot ∷ rest)
      by_name (frame done starts waiting operand) next =
          let f = frame done starts waiting operand in
          sees.past_other (live (statement_due must setting) f around) name spot rest tt
          ∙ name_is_operand setting (frame done starts waiting (node name spot.mark nil nil)) around rest next
          ∙ sym (sees.past_other (live (operand_due (by_statement setting) some_target) f around) name spot rest tt)

      go : (b : Bool) → (T b → T (eqb class name)) → (T (not b) → T (not (eqb class name)))
          → seen (live (statement_due must setting) f around) (token class spot ∷ rest)
          ≡ seen (live (operand_due (by_statement setting) some_target) f around) (token class spot ∷ rest)
      go true same other = rw (eqb→eq class name (same tt)) (by_name f (next (same tt) tt))
      go false same other =
          let neither = not_either (eqb class open_brace) (eqb class function_word) allowed in
          sees.by_take (live (statement_due must setting) f around) (live (operand_due (by_statement setting) some_target) f around) (token class spot) rest refl
          (ap (λ (z : Action). act z class spot f around)
          (statement_or_operand must setting class
          (among_rest function_word (plain_starts ++ prefix_operators) class neither.1
          (among_rest open_brace (function_word ∷ (plain_starts ++ prefix_operators)) class neither.0
          (among_rest name (open_brace ∷ function_word ∷ (plain_starts ++ prefix_operators)) class (other tt) listed)))))

  -- behind `new` no operator may come: a Target is taken as any operand
  pub target_is_taken : {past : Bool} (ending : Ending) (target : Target) (f : Frame) (around : List Open) {before : List Token} → Begins target_starts past before
      → seen (live (member_due ending target) f around) before ≡ seen (live (operand_due ending target) f around) before
  target_is_taken ending target f around (by_class {class = class} {spot = spot} {rest = rest} listed next) =
      sees.by_take (live (member_due ending target) f around) (live (operand_due ending target) f around) (token class spot) rest refl
      (ap (λ (z : Action). act z class spot f around) (member_or_operand ending target class listed))

  -- an expression is taken where the entries for an operand stand behind others
  operand_is_taken : {past : Bool} (control : Control) (ending : Ending) (target : Target) (others : List Entry) (f : Frame) (around : List Open)
      {class : ℕ} {spot : Spot} {rest : List Token} → T (each_class (λ x. not (has_entry others x)) expression_starts)
      → asks control ≡ asks (operand_due ending target) → row control spot.newline ≡ others ++ operand ending target
      → Begins expression_starts past (token class spot ∷ rest)
      → seen (live control f around) (token class spot ∷ rest) ≡ seen (live (operand_due ending target) f around) (token class spot ∷ rest)
  operand_is_taken control ending target others f around none asked same (by_class {class = class} {spot = spot} {rest = rest} listed next) =
      sees.by_take (live control f around) (live (operand_due ending target) f around) (token class spot) rest asked
      (ap (λ (z : List Entry). act (look class z) class spot f around) same
      ∙ ap (λ (z : Action). act z class spot f around)
      (look_beyond others (operand ending target) class (at_class (λ x. not (has_entry others x)) expression_starts class listed none)))

  -- "with no line end after `return`": a value is taken
  pub value_is_returned : (setting : Setting) (f : Frame) (around : List Open) (before : List Token) → Begins expression_starts true before → T (on_same_line before)
      → seen (live (return_first setting) f around) before ≡ seen (live (operand_due (by_return setting) some_target) f around) before
  value_is_returned setting f around [] begins same = elim begins [ ]
  value_is_returned setting f around (token class spot ∷ rest) begins same =
      let bare = on semicolon (goto (behind_statement setting) end_bare) in
      operand_is_taken (return_first setting) (by_return setting) some_target (bare ∷ []) f around tt refl
      (ap (λ (z : List Entry). bare ∷ z) (no_newline spot.newline (operand (by_return setting) some_target) same)) begins

  -- the same of `throw`, behind which no `;` may come
  pub value_is_thrown : (setting : Setting) (f : Frame) (around : List Open) (before : List Token) → Begins expression_starts true before → T (on_same_line before)
      → seen (live (throw_first setting) f around) before ≡ seen (live (operand_due (by_return setting) some_target) f around) before
  value_is_thrown setting f around [] begins same = elim begins [ ]
  value_is_thrown setting f around (token class spot ∷ rest) begins same =
      operand_is_taken (throw_first setting) (by_return setting) some_target [] f around tt refl
      (no_newline spot.newline (operand (by_return setting) some_target) same) begins

  -- `continue` and `break`: a label on the same line is taken
  pub label_is_taken : (setting : Setting) (f : Frame) (around : List Open) (label : Spot) (rest : List Token) → T (not label.newline)
      → seen (live (jump_first setting) f around) (token name label ∷ rest) ≡ seen (live (semicolon_due setting) f around) rest
  label_is_taken setting f around label rest same =
      sees.past_other (live (jump_first setting) f around) name label rest tt
      ∙ ap (λ (z : List Entry). seen (act (look name z) name label f around) rest)
      (no_newline label.newline (on name (goto (semicolon_due setting) keep) ∷ []) same)

  -- the value of an item is taken
  argument_is_taken : (f : Frame) (around : List Open) (before : List Token) → Begins expression_starts true before
      → seen (live (item_due call_arguments) f around) before ≡ seen (live (operand_due (by_item call_arguments) some_target) f around) before
  argument_is_taken f around [] begins = elim begins [ ]
  argument_is_taken f around (token class spot ∷ rest) begins =
      operand_is_taken (item_due call_arguments) (by_item call_arguments) some_target (on close_paren (pop done_value) ∷ []) f around tt refl refl begins

  element_is_taken : (f : Frame) (around : List Open) (before : List Token) → Begins expression_starts true before
      → seen (live (item_due array_elements) f around) before ≡ seen (live (operand_due (by_item array_elements) some_target) f around) before
  element_is_taken f around [] begins = elim begins [ ]
  element_is_taken f around (token class spot ∷ rest) begins =
      operand_is_taken (item_due array_elements) (by_item array_elements) some_target
      (on comma (goto (item_due array_elements) keep) ∷ on close_bracket (pop done_value) ∷ []) f around tt refl refl begins

  property_is_taken : (f : Frame) (around : List Open) {before here : List Token} → ItemStart object_properties before here
      → seen (live (item_due object_properties) f around) before ≡ seen (live (operand_due (by_item object_properties) some_target) f around) here
  property_is_taken f around (at_property {called = called} {sign = sign} {here = here} identifier) =
      sees.past_other (live (item_due object_properties) f around) name called (token colon sign ∷ here) tt
      ∙ sees.past_other (live property_named f around) colon sign here tt
  property_is_taken f around (at_property {called = called} {sign = sign} {here = here} reserved_word) =
      sees.past_other (live (item_due object_properties) f around) word_name called (token colon sign ∷ here) tt
      ∙ sees.past_other (live property_named f around) colon sign here tt

  pub item_is_taken : (items : Items) (first : Bool) (f : Frame) (around : List Open) {before here : List Token} → ItemStart items before here
      → Begins expression_starts true here
      → seen (live (between_items items first) f around) before ≡ seen (live (operand_due (by_item items) some_target) f around) here
  item_is_taken call_arguments true f around {before} at_argument begins = argument_is_taken f around before begins
  item_is_taken call_arguments false f around at_argument begins = refl
  item_is_taken array_elements true f around {before} at_element begins = element_is_taken f around before begins
  item_is_taken array_elements false f around {before} at_element begins = element_is_taken f around before begins
  item_is_taken object_properties true f around starts begins = property_is_taken f around starts
  item_is_taken object_properties false f around starts begins = property_is_taken f around starts

  -- a part of the head of a `for` is taken
  pub part_is_taken : {control : Control} {ending : Ending} {target : Target} {class : ℕ} → HeadPart control ending target class → (f : Frame)
      (around : List Open) (before : List Token) → Begins expression_starts true before
      → seen (live control f around) before ≡ seen (live (operand_due ending target) f around) before
  part_is_taken start_part f around [] begins = elim begins [ ]
  part_is_taken test_part f around [] begins = elim begins [ ]
  part_is_taken step_part f around [] begins = elim begins [ ]
  part_is_taken start_part f around (token class spot ∷ rest) begins =
      operand_is_taken start_due by_start lone_target
      (on semicolon (goto test_due end_value) ∷ on var_word (goto (variable_due (in_head true)) (start_statement var_word)) ∷ []) f around tt refl refl begins
  part_is_taken test_part f around (token class spot ∷ rest) begins =
      operand_is_taken test_due by_test some_target (on semicolon (goto step_due end_value) ∷ []) f around tt refl refl begins
  part_is_taken step_part f around (token class spot ∷ rest) begins =
      operand_is_taken step_due by_step some_target (on close_paren (pop list_value) ∷ []) f around tt refl refl begins
