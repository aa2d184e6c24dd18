-- Where tokens count their tree records, each part of a program has a mark of its own, and it is that of a token that is no
-- closer.
use mathlib.Core.Path.{◌≡◌, refl, subst}
use mathlib.Core.Bool.{Bool, true, false, not, ◌&&◌}
use mathlib.Core.List.{List, [], ◌∷◌, Memᴰ}
use Prim.Native.Nat.{ℕ, ◌+◌, ◌≤◌, ◌<◌}
use native.Mathlib.Omega.{arith}
use lib.Dec.{T, T_not}
use Rattle.text.proofs.Range.{and_left, and_right}
use Rattle.machine.specs.Tokens.{Token, token, Spot, name, new_word, assign, question, var_word, else_word, do_word, while_word, for_word, in_word, switch_word, case_word, default_word, throw_word, try_word, catch_word, finally_word, debugger_word, colon, semicolon, dot, open_paren, close_paren, open_bracket, close_bracket, open_brace, close_brace, comma, return_word, function_word, if_word}
use Rattle.machine.specs.Syntax.{Syntax, nil, node, snoc, member_syntax, variable_syntax, marks_of, Distinct}
use Rattle.grammar.specs.Grammar.{
  assignment_operators,
  binary_operators,
  prefix_operators,
  prefix_kind,
  postfix_operators,
  postfix_kind,
  is_among,
  HeadWord,
  IdentifierName,
  identifier,
  reserved_word,
  while-word,
  with-word,
  JumpWord,
  continue-word,
  break-word,
  Items,
  ItemStart,
  at_argument,
  at_element,
  at_property,
  Names,
  one_name,
  more_names,
  Parameters,
  no_parameters,
  some_parameters,
  Form,
  variable_form,
  statements_form,
  statement_form,
  block_form,
  catch_form,
  finally_form,
  function_form,
  clauses_form,
  variables_form,
  optional_form,
  expression_form,
  assign_form,
  binary_form,
  unary_form,
  target_form,
  chain_form,
  items_form,
  list_form,
  Derives,
  chain_leaf,
  chain_array,
  chain_object,
  chain_parens,
  chain_function,
  chain_unnamed,
  chain_index,
  chain_member,
  chain_call,
  chain_new,
  no_items,
  add_item,
  add_hole,
  list_empty,
  list_items,
  list_last,
  expression_assign,
  expression_comma,
  assign_binary,
  assign_to,
  assign_conditional,
  binary_unary,
  binary_operator,
  unary_target,
  unary_prefix,
  unary_postfix,
  target_chain,
  target_new,
  function_all,
  block_all,
  statement_block,
  statement_expression,
  statement_var,
  no_variables,
  add_variable,
  variable_bare,
  variable_initialised,
  statement_empty,
  statement_if,
  statement_else,
  statement_do,
  statement_head,
  statement_for,
  statement_for_var,
  left_out,
  not_left_out,
  statement_for_in,
  statement_for_var_in,
  statement_bare_jump,
  statement_jump,
  statement_bare_return,
  statement_full_return,
  statement_switch,
  no_clauses,
  add_case,
  add_default,
  statement_throw,
  statement_try,
  statement_try_finally,
  statement_try_all,
  catch_all,
  finally_all,
  statement_debugger,
  statement_label,
  no_statements,
  add_statement,
  add_declaration,
  Program,
}
use Rattle.recorded.specs.Parts.{marking}
use Rattle.recorded.specs.Recorded.{StandsBefore, StandsBehind, leaf_kinds, prefix_kinds, postfix_kinds, infix_kinds, operand_kinds, Operands, no_operand, operand_behind, operand_before, member_of, callee_before, object_and_index, callee_behind, two_operands, three_operands, Initialises, Iterates, behind_bare}
use Rattle.grammar.proofs.TableLaws.{each_class, at_class, at_leaf, binary_by}
use Rattle.recorded.proofs.Counts.{is_closing, leaf_open, operator_open, name_open, head_open, jump_open}
use Rattle.recorded.proofs.Ranges.{is_plain, plain, bare, initialised, iterated, Shape, Fits, Marks, marks_both, from_lower, to_higher, no_marks, before_parts, between_parts, behind_part, inside_parts, range_size, Within, within, distinct}
use Rattle.recorded.proofs.Firsts.{MarkIn, own_first, target_first, binary_first, expression_first}
use Rattle.recorded.proofs.Counting.{Counting, counting_none, past_closer, Marked, at_mark, MarkOf, mark_of}

-- a part's marks are those from the next mark before it to the next mark behind it
pub record MarksTo (all : List Token) (total low : ℕ) (after : List Token) (value : Syntax) : Type 0 where
  pub high : ℕ
  pub rest : Counting all total high after
  pub marks : Marks all low high value

leaf_marks : {low kind mark : ℕ} {all : List Token} → Fits all kind mark nil nil → mark ≡ low → Marks all low (low + 1) (node kind mark nil nil)
leaf_marks {low} fits own = let passed : low < low + 1 = omega arith in before_parts fits own passed (no_marks (low + 1)) (no_marks (low + 1))

-- a part with a sign behind it that makes none
signed : {low middle high : ℕ} {before last : Syntax} {all : List Token} → Marks all low middle before → Marks all middle high last → Marks all low (high + 1) (snoc before last)
signed {high = high} before last = let up : high ≤ high + 1 = omega arith in to_higher up (marks_both before last)

-- a token of this class may mark a part of this kind, which holds no operands
abbrev is_ordinary : ℕ → ℕ → Bool
is_ordinary kind class = is_plain kind && (is_among (marking kind) class && not (is_among operand_kinds kind))

name_marks : {class : ℕ} → IdentifierName class → T (is_among (marking member_syntax) class)
name_marks identifier = tt
name_marks reserved_word = tt

head_ordinary : {class : ℕ} → HeadWord class → T (is_ordinary class class)
head_ordinary while-word = tt
head_ordinary with-word = tt

jump_ordinary : {class bare : ℕ} → JumpWord class bare → T (is_ordinary class class)
jump_ordinary continue-word = tt
jump_ordinary break-word = tt

bare_ordinary : {class bare : ℕ} → JumpWord class bare → T (is_ordinary bare class)
bare_ordinary continue-word = tt
bare_ordinary break-word = tt

-- an operand behind a mark, and one before a mark
stands_behind : {low high mark : ℕ} {value : Syntax} {all : List Token} → mark ≡ low → MarkIn (low + 1) value → Marks all (low + 1) high value → StandsBehind mark value
stands_behind {low} {mark = mark} {value = value} own first marks =
    let next : low + 1 ≡ mark + 1 = omega arith in
    record { next = subst (λ (x : ℕ). Memᴰ x (marks_of value)) next first.member; behind = λ x member. omega (arith, within marks x member) }

stands_before : {low high mark : ℕ} {value : Syntax} {all : List Token} → mark ≡ high → MarkIn low value → Marks all low high value → StandsBefore mark value
stands_before {low} own first marks = record { some = low; has = first.member; before = λ x member. omega (arith, within marks x member) }

-- the `=` between a variable's name and value, and the `in` between the start and the object of a `for`
pub initialising : {low high called mark : ℕ} {value : Syntax} {all : List Token} → called ≡ low → mark ≡ low + 1 → MarkIn (low + 1 + 1) value
    → Marks all (low + 1 + 1) high value → Initialises called mark value
initialising own sign first marks = record { beside = omega arith; value_behind = stands_behind sign first marks }

pub iterating : {low high middle end word mark : ℕ} {start object inner : Syntax} {all : List Token} → word ≡ low → MarkIn (low + 1 + 1) start
    → Marks all (low + 1 + 1) high start → mark ≡ high → MarkIn (high + 1) object → Marks all (high + 1) middle object → Marks all middle end inner
    → Iterates word mark start object inner
iterating {low} {high} {word = word} {mark = mark} {start = start} {object = object} own begun before sign first object-marks inner-marks =
    let start_at : low + 1 + 1 ≡ word + 2 = omega arith in
    let object-at : high + 1 ≡ mark + 1 = omega arith in
    record {
      begins = subst (λ (x : ℕ). Memᴰ x (marks_of start)) start_at begun.member;
      before = λ x member. omega (arith, within before x member);
      next = subst (λ (x : ℕ). Memᴰ x (marks_of object)) object-at first.member;
      behind = λ x member. omega (arith, within (marks_both object-marks inner-marks) x member);
    }

-- behind a variable stands what may stand behind a bare one; behind other forms, anything
abbrev ends_bare : List Token → Bool
ends_bare [] = false
ends_bare (token class spot ∷ rest) = is_among behind_bare class

abbrev ends : Form → List Token → Bool
ends (variable_form more) after = ends_bare after
ends (statements_form scope) after = true
ends statement_form after = true
ends block_form after = true
ends catch_form after = true
ends finally_form after = true
ends function_form after = true
ends (clauses_form more) after = true
ends (variables_form more) after = true
ends (optional_form more) after = true
ends (expression_form more) after = true
ends (assign_form more) after = true
ends (binary_form more least) after = true
ends unary_form after = true
ends (target_form calls) after = true
ends (chain_form calls) after = true
ends (items_form items) after = true
ends (list_form items) after = true

-- tokens are passed, with or without parts that they make: the next mark behind them
record Skips (all : List Token) (total low : ℕ) (after : List Token) : Type 0 where
  high : ℕ
  rest : Counting all total high after
  up : low ≤ high

module _ {all : List Token} {total : ℕ} where
  skips_none : {low : ℕ} {here : List Token} → Counting all total low here → Skips all total low here
  skips_none {low} counting = record { high = low; rest = counting; up = omega arith }

  item_skips : {low : ℕ} {items : Items} {before after : List Token} → ItemStart items before after → Counting all total low before → Skips all total low after
  item_skips at_argument counting = skips_none counting
  item_skips at_element counting = skips_none counting
  item_skips {low} (at_property {class = class} identified) counting =
      let n = at_mark class (name_open identified) counting in
      let s = at_mark colon tt n.then in
      record { high = low + 1 + 1; rest = s.then; up = omega arith }

  names_skip : {low : ℕ} {before after : List Token} → Names before after → Counting all total low before → Skips all total low after
  names_skip {low} one_name counting = let n = at_mark name tt counting in record { high = low + 1; rest = n.then; up = omega arith }
  names_skip (more_names names) counting =
      let b = names_skip names counting in
      let s = at_mark comma tt b.rest in
      let n = at_mark name tt s.then in
      record { high = b.high + 1 + 1; rest = n.then; up = omega arith }

  parameters_skip : {low : ℕ} {before after : List Token} → Parameters before after → Counting all total low before → Skips all total low after
  parameters_skip no_parameters counting = skips_none counting
  parameters_skip (some_parameters names) counting = names_skip names counting

  bare_shape : {called next : ℕ} (after : List Token) → T (ends_bare after) → called + 1 ≡ next
      → Counting all total next after → Shape all variable_syntax called nil nil
  bare_shape [] ended behind counting = absurd ended
  bare_shape {called} (token class spot ∷ rest) ended behind counting =
      let n = at_mark class (at_class (λ x. not (is_closing x)) behind_bare class ended tt) counting in
      let next : called + 1 ≡ spot.mark = omega (arith, n.own) in
      bare n.among ended next

  -- a part that this token marks, by what its kind asks; one that holds operands; and one that holds none
  fits : {kind class low : ℕ} {spot : Spot} {rest : List Token} {left right : Syntax} → T (is_among (marking kind) class) → Marked all total low class spot rest
      → Shape all kind spot.mark left right → Fits all kind spot.mark left right
  fits {class = class} {spot = spot} marks m shape =
      record { class = class; spot = spot; among = m.among; opens = m.opens; own = refl; marks = marks; shape = shape }

  holding : {kind class low : ℕ} {spot : Spot} {rest : List Token} {left right : Syntax} → T (is_plain kind) → T (is_among (marking kind) class)
      → Marked all total low class spot rest → Operands kind spot.mark (snoc left right) → Fits all kind spot.mark left right
  holding other marks m holds = fits marks m (plain other (λ h. holds))

  -- an operator before its operand, after it, and between two
  prefixed : {class low : ℕ} {spot : Spot} {rest : List Token} {operand : Syntax} → T (is_among prefix_operators class) → Marked all total low class spot rest
      → StandsBehind spot.mark operand → Fits all (prefix_kind class) spot.mark nil operand
  prefixed {class} op m operand =
      holding (at_class (λ x. is_plain (prefix_kind x)) prefix_operators class op tt) (at_class (λ x. is_among (marking (prefix_kind x)) x) prefix_operators class op tt) m
      (operand_behind (at_class (λ x. is_among prefix_kinds (prefix_kind x)) prefix_operators class op tt) operand)

  postfixed : {class low : ℕ} {spot : Spot} {rest : List Token} {operand : Syntax} → T (is_among postfix_operators class) → Marked all total low class spot rest
      → StandsBefore spot.mark operand → Fits all (postfix_kind class) spot.mark operand nil
  postfixed {class} op m operand =
      holding (at_class (λ x. is_plain (postfix_kind x)) postfix_operators class op tt) (at_class (λ x. is_among (marking (postfix_kind x)) x) postfix_operators class op tt) m
      (operand_before (at_class (λ x. is_among postfix_kinds (postfix_kind x)) postfix_operators class op tt) operand)

  infixed : (classes : List ℕ) {class low : ℕ} {spot : Spot} {rest : List Token} {left right : Syntax}
      → T (each_class (λ x. is_plain x && (is_among (marking x) x && is_among infix_kinds x)) classes) → T (is_among classes class) → Marked all total low class spot rest
      → StandsBefore spot.mark left → StandsBehind spot.mark right → Fits all class spot.mark left right
  infixed classes {class} each op m left right =
      let h = at_class (λ x. is_plain x && (is_among (marking x) x && is_among infix_kinds x)) classes class op each in
      let more = and_right (is_plain class) (is_among (marking class) class && is_among infix_kinds class) h in
      holding (and_left (is_plain class) (is_among (marking class) class && is_among infix_kinds class) h) (and_left (is_among (marking class) class) (is_among infix_kinds class) more) m
      (two_operands (and_right (is_among (marking class) class) (is_among infix_kinds class) more) left right)

  pub ordinary : {kind class low : ℕ} {spot : Spot} {rest : List Token} {left right : Syntax} → T (is_ordinary kind class) → Marked all total low class spot rest
      → Fits all kind spot.mark left right
  ordinary {kind} {class} h m =
      let more = and_right (is_plain kind) (is_among (marking kind) class && not (is_among operand_kinds kind)) h in
      fits (and_left (is_among (marking kind) class) (not (is_among operand_kinds kind)) more) m
      (plain (and_left (is_plain kind) (is_among (marking kind) class && not (is_among operand_kinds kind)) h)
      (λ some. absurd (T_not (is_among operand_kinds kind) (and_right (is_among (marking kind) class) (not (is_among operand_kinds kind)) more) some)))

  pub marked : {form : Form} {low : ℕ} {before after : List Token} {value : Syntax} → Derives form before after value → T (ends form after)
      → Counting all total low before → MarksTo all total low after value
  marked {low = low} (chain_leaf {class = class} leaf) ended counting =
      let m = at_mark class (leaf_open leaf) counting in
      record { high = low + 1; rest = m.then; marks = leaf_marks (holding (at_leaf is_plain tt leaf) (at_leaf (λ x. is_among (marking x) x) tt leaf) m (no_operand (at_leaf (is_among leaf_kinds) tt leaf))) m.own }
  marked {low = low} (chain_array values) ended counting =
      let m = at_mark open_bracket tt counting in
      let v = marked values tt m.then in
      record { high = v.high; rest = past_closer close_bracket tt v.rest; marks = before_parts (ordinary tt m) m.own (omega arith) v.marks (no_marks v.high) }
  marked {low = low} (chain_object values) ended counting =
      let m = at_mark open_brace tt counting in
      let v = marked values tt m.then in
      record { high = v.high; rest = past_closer close_brace tt v.rest; marks = before_parts (ordinary tt m) m.own (omega arith) v.marks (no_marks v.high) }
  marked {low = low} (chain_parens value) ended counting =
      let m = at_mark open_paren tt counting in
      let v = marked value tt m.then in
      record { high = v.high; rest = past_closer close_paren tt v.rest; marks = before_parts (ordinary tt m) m.own (omega arith) v.marks (no_marks v.high) }
  marked {low = low} (chain_function function) ended counting =
      let m = at_mark function_word tt counting in
      let n = at_mark name tt m.then in
      let v = marked function tt n.then in
      record { high = v.high; rest = v.rest; marks = before_parts (ordinary tt m) m.own (omega arith) v.marks (no_marks v.high) }
  marked {low = low} (chain_unnamed function) ended counting =
      let m = at_mark function_word tt counting in
      let v = marked function tt m.then in
      record { high = v.high; rest = v.rest; marks = before_parts (ordinary tt m) m.own (omega arith) v.marks (no_marks v.high) }
  marked (chain_index object value) ended counting =
      let o = marked object tt counting in
      let m = at_mark open_bracket tt o.rest in
      let v = marked value tt m.then in
      record { high = v.high; rest = past_closer close_bracket tt v.rest; marks = between_parts (holding tt tt m (object_and_index (stands_before m.own (target_first (target_chain object) counting) o.marks) (stands_behind m.own (expression_first value m.then) v.marks))) o.marks m.own v.marks }
  marked {low = low} (chain_member {class = class} called object) ended counting =
      let o = marked object tt counting in
      let d = at_mark dot tt o.rest in
      let m = at_mark class (name_open called) d.then in
      record { high = o.high + 1 + 1; rest = m.then; marks = behind_part (holding tt (name_marks called) m (member_of (record { some = low; has = (target_first (target_chain object) counting).member; before = λ x member. omega (arith, m.own, within o.marks x member) }))) o.marks (omega arith) (omega arith) }
  marked (chain_call callee values) ended counting =
      let c = marked callee tt counting in
      let m = at_mark open_paren tt c.rest in
      let v = marked values tt m.then in
      record { high = v.high; rest = past_closer close_paren tt v.rest; marks = between_parts (holding tt tt m (callee_before (stands_before m.own (target_first (target_chain callee) counting) c.marks) (λ x member. omega (arith, m.own, within v.marks x member)))) c.marks m.own v.marks }
  marked {low = low} (chain_new callee values) ended counting =
      let m = at_mark new_word tt counting in
      let c = marked callee tt m.then in
      let o = at_mark open_paren tt c.rest in
      let v = marked values tt o.then in
      record {
        high = v.high;
        rest = past_closer close_paren tt v.rest;
        marks = before_parts (holding tt tt m (callee_behind (stands_behind m.own (target_first (target_chain callee) m.then) c.marks) (λ x member. omega (arith, m.own, o.own, within v.marks x member, range_size c.marks)))) m.own (omega arith) c.marks (from_lower (omega arith) v.marks);
      }
  marked (target_chain chain) ended counting = marked chain tt counting
  marked {low = low} (target_new callee) ended counting =
      let m = at_mark new_word tt counting in
      let c = marked callee tt m.then in
      record { high = c.high; rest = c.rest; marks = before_parts (holding tt tt m (operand_behind tt (stands_behind m.own (target_first callee m.then) c.marks))) m.own (omega arith) (no_marks (low + 1)) c.marks }
  marked (unary_target target) ended counting = marked target tt counting
  marked {low = low} (unary_prefix {class = class} op operand) ended counting =
      let m = at_mark class (operator_open prefix_operators tt class op) counting in
      let v = marked operand tt m.then in
      record { high = v.high; rest = v.rest; marks = before_parts (prefixed op m (stands_behind m.own (binary_first (binary_unary {within = true} {least = 0} operand) m.then) v.marks)) m.own (omega arith) (no_marks (low + 1)) v.marks }
  marked (unary_postfix {class = class} op same operand) ended counting =
      let v = marked operand tt counting in
      let m = at_mark class (operator_open postfix_operators tt class op) v.rest in
      record { high = v.high + 1; rest = m.then; marks = behind_part (postfixed op m (stands_before m.own (target_first operand counting) v.marks)) v.marks (omega arith) (omega arith) }
  marked (binary_unary unary) ended counting = marked unary tt counting
  marked (binary_operator {within = within} {class = class} op tight left right) ended counting =
      let l = marked left tt counting in
      let m = at_mark class (operator_open binary_operators tt class (binary_by within class op)) l.rest in
      let r = marked right tt m.then in
      record { high = r.high; rest = r.rest; marks = between_parts (infixed binary_operators tt (binary_by within class op) m (stands_before m.own (binary_first left counting) l.marks) (stands_behind m.own (binary_first right m.then) r.marks)) l.marks m.own r.marks }
  marked (assign_binary binary) ended counting = marked binary tt counting
  marked (assign_to {class = class} op target value) ended counting =
      let t = marked target tt counting in
      let m = at_mark class (operator_open assignment_operators tt class op) t.rest in
      let v = marked value tt m.then in
      record { high = v.high; rest = v.rest; marks = between_parts (infixed assignment_operators tt op m (stands_before m.own (target_first target counting) t.marks) (stands_behind m.own (expression_first (expression_assign value) m.then) v.marks)) t.marks m.own v.marks }
  marked (assign_conditional condition first second) ended counting =
      let c = marked condition tt counting in
      let m = at_mark question tt c.rest in
      let f = marked first tt m.then in
      let a = at_mark colon tt f.rest in
      let s = marked second tt a.then in
      let inner = expression_first (expression_assign first) m.then in
      record { high = s.high; rest = s.rest; marks = inside_parts (holding tt tt m (three_operands (stands_before m.own (binary_first condition counting) c.marks) (stands_behind m.own inner f.marks) (stands_before a.own inner f.marks) (stands_behind a.own (expression_first (expression_assign second) a.then) s.marks))) c.marks m.own f.marks (omega arith) s.marks }
  marked (expression_assign value) ended counting = marked value tt counting
  marked (expression_comma left right) ended counting =
      let l = marked left tt counting in
      let m = at_mark comma tt l.rest in
      let r = marked right tt m.then in
      record { high = r.high; rest = r.rest; marks = between_parts (holding tt tt m (two_operands tt (stands_before m.own (expression_first left counting) l.marks) (stands_behind m.own (expression_first (expression_assign right) m.then) r.marks))) l.marks m.own r.marks }
  marked {low = low} (function_all parameters statements) ended counting =
      let o = at_mark open_paren tt counting in
      let p = parameters_skip parameters o.then in
      let b = at_mark open_brace tt (past_closer close_paren tt p.rest) in
      let s = marked statements tt b.then in
      let up : low ≤ p.high + 1 = omega (arith, p.up) in
      record { high = s.high; rest = past_closer close_brace tt s.rest; marks = from_lower up s.marks }
  marked (block_all statements) ended counting =
      let m = at_mark open_brace tt counting in
      let s = marked statements tt m.then in
      record { high = s.high; rest = past_closer close_brace tt s.rest; marks = before_parts (ordinary tt m) m.own (omega arith) s.marks (no_marks s.high) }
  marked (statement_block inner) ended counting = marked inner tt counting
  marked (statement_expression allowed value) ended counting =
      let v = marked value tt counting in
      let m = at_mark semicolon tt v.rest in
      record { high = v.high + 1; rest = m.then; marks = behind_part (ordinary tt m) v.marks (omega arith) (omega arith) }
  marked (statement_var variables last) ended counting =
      let m = at_mark var_word tt counting in
      let v = marked variables tt m.then in
      let l = marked last tt v.rest in
      let e = at_mark semicolon tt l.rest in
      record { high = l.high + 1; rest = e.then; marks = before_parts (ordinary tt m) m.own (omega arith) v.marks (to_higher (omega arith) l.marks) }
  marked {low = low} no_variables ended counting = record { high = low; rest = counting; marks = no_marks low }
  marked (add_variable variables last) ended counting =
      let v = marked variables tt counting in
      let l = marked last tt v.rest in
      let c = at_mark comma tt l.rest in
      record { high = l.high + 1; rest = c.then; marks = signed v.marks l.marks }
  marked {low = low} (variable_bare {called = called} {after = after}) ended counting =
      let m = at_mark name tt counting in
      let next : called.mark + 1 ≡ low + 1 = omega (arith, m.own) in
      let behind = bare_shape after ended next m.then in
      record { high = low + 1; rest = m.then; marks = leaf_marks (fits tt m behind) m.own }
  marked {low = low} (variable_initialised value) ended counting =
      let m = at_mark name tt counting in
      let s = at_mark assign tt m.then in
      let v = marked value tt s.then in
      record { high = v.high; rest = v.rest; marks = before_parts (fits tt m (initialised s.among (initialising m.own s.own (expression_first (expression_assign value) s.then) v.marks))) m.own (omega arith) (no_marks (low + 1 + 1)) v.marks }
  marked {low = low} statement_empty ended counting =
      let m = at_mark semicolon tt counting in
      record { high = low + 1; rest = m.then; marks = leaf_marks (ordinary tt m) m.own }
  marked (statement_if none condition inner) ended counting =
      let m = at_mark if_word tt counting in
      let o = at_mark open_paren tt m.then in
      let c = marked condition tt o.then in
      let i = marked inner tt (past_closer close_paren tt c.rest) in
      record { high = i.high; rest = i.rest; marks = before_parts (ordinary tt m) m.own (omega arith) c.marks i.marks }
  marked (statement_else condition first second) ended counting =
      let m = at_mark if_word tt counting in
      let o = at_mark open_paren tt m.then in
      let c = marked condition tt o.then in
      let f = marked first tt (past_closer close_paren tt c.rest) in
      let e = at_mark else_word tt f.rest in
      let s = marked second tt e.then in
      record {
        high = s.high;
        rest = s.rest;
        marks = between_parts (ordinary tt e) (before_parts (ordinary tt m) m.own (omega arith) c.marks f.marks) e.own s.marks;
      }
  marked (statement_do inner condition) ended counting =
      let m = at_mark do_word tt counting in
      let i = marked inner tt m.then in
      let w = at_mark while_word tt i.rest in
      let o = at_mark open_paren tt w.then in
      let c = marked condition tt o.then in
      let e = at_mark semicolon tt (past_closer close_paren tt c.rest) in
      record {
        high = c.high + 1;
        rest = e.then;
        marks = before_parts (ordinary tt m) m.own (omega arith) i.marks (from_lower (omega arith) (to_higher (omega arith) c.marks));
      }
  marked (statement_head {class = class} heads head inner) ended counting =
      let m = at_mark class (head_open heads) counting in
      let o = at_mark open_paren tt m.then in
      let h = marked head tt o.then in
      let i = marked inner tt (past_closer close_paren tt h.rest) in
      record { high = i.high; rest = i.rest; marks = before_parts (ordinary (head_ordinary heads) m) m.own (omega arith) h.marks i.marks }
  marked {low = low} (statement_for start condition step inner) ended counting =
      let m = at_mark for_word tt counting in
      let o = at_mark open_paren tt m.then in
      let s = marked start tt o.then in
      let f = at_mark semicolon tt s.rest in
      let c = marked condition tt f.then in
      let e = at_mark semicolon tt c.rest in
      let t = marked step tt e.then in
      let i = marked inner tt (past_closer close_paren tt t.rest) in
      let head = marks_both (signed (signed (no_marks (low + 1 + 1)) s.marks) c.marks) t.marks in
      record { high = i.high; rest = i.rest; marks = before_parts (ordinary tt m) m.own (omega arith) head i.marks }
  marked {low = low} (statement_for_var variables last condition step inner) ended counting =
      let m = at_mark for_word tt counting in
      let o = at_mark open_paren tt m.then in
      let d = at_mark var_word tt o.then in
      let v = marked variables tt d.then in
      let l = marked last tt v.rest in
      let f = at_mark semicolon tt l.rest in
      let c = marked condition tt f.then in
      let e = at_mark semicolon tt c.rest in
      let t = marked step tt e.then in
      let i = marked inner tt (past_closer close_paren tt t.rest) in
      let start = before_parts (ordinary tt d) d.own (omega arith) v.marks l.marks in
      let head = marks_both (signed (signed (no_marks (low + 1 + 1)) start) c.marks) t.marks in
      record { high = i.high; rest = i.rest; marks = before_parts (ordinary tt m) m.own (omega arith) head i.marks }
  marked {low = low} left_out ended counting = record { high = low; rest = counting; marks = no_marks low }
  marked (not_left_out value) ended counting = marked value tt counting
  marked {low = low} (statement_for_in target object inner) ended counting =
      let m = at_mark for_word tt counting in
      let o = at_mark open_paren tt m.then in
      let t = marked target tt o.then in
      let s = at_mark in_word tt t.rest in
      let v = marked object tt s.then in
      let i = marked inner tt (past_closer close_paren tt v.rest) in
      let own = iterating m.own (target_first target o.then) t.marks s.own (expression_first object s.then) v.marks i.marks in
      let head = marks_both (signed (no_marks (low + 1 + 1)) t.marks) v.marks in
      record { high = i.high; rest = i.rest; marks = before_parts (fits tt m (iterated s.among own)) m.own (omega arith) head i.marks }
  marked {low = low} (statement_for_var_in variable object inner) ended counting =
      let m = at_mark for_word tt counting in
      let o = at_mark open_paren tt m.then in
      let d = at_mark var_word tt o.then in
      let l = marked variable tt d.then in
      let s = at_mark in_word tt l.rest in
      let v = marked object tt s.then in
      let i = marked inner tt (past_closer close_paren tt v.rest) in
      let start = before_parts (ordinary tt d) d.own (omega arith) (no_marks (low + 1 + 1 + 1)) l.marks in
      let own = iterating m.own (own_first var_word tt o.then) (start) s.own (expression_first object s.then) v.marks i.marks in
      let head = marks_both (signed (no_marks (low + 1 + 1)) start) v.marks in
      record { high = i.high; rest = i.rest; marks = before_parts (fits tt m (iterated s.among own)) m.own (omega arith) head i.marks }
  marked {low = low} (statement_bare_jump {class = class} jumps) ended counting =
      let m = at_mark class (jump_open jumps) counting in
      let e = at_mark semicolon tt m.then in
      record { high = low + 1 + 1; rest = e.then; marks = to_higher (omega arith) (leaf_marks (ordinary (bare_ordinary jumps) m) m.own) }
  marked {low = low} (statement_jump {class = class} jumps same) ended counting =
      let m = at_mark class (jump_open jumps) counting in
      let l = at_mark name tt m.then in
      let e = at_mark semicolon tt l.then in
      record { high = low + 1 + 1 + 1; rest = e.then; marks = to_higher (omega arith) (leaf_marks (ordinary (jump_ordinary jumps) m) m.own) }
  marked {low = low} statement_bare_return ended counting =
      let m = at_mark return_word tt counting in
      let e = at_mark semicolon tt m.then in
      record { high = low + 1 + 1; rest = e.then; marks = before_parts (ordinary tt m) m.own (omega arith) (no_marks (low + 1 + 1)) (no_marks (low + 1 + 1)) }
  marked {low = low} (statement_full_return same value) ended counting =
      let m = at_mark return_word tt counting in
      let v = marked value tt m.then in
      let e = at_mark semicolon tt v.rest in
      record { high = v.high + 1; rest = e.then; marks = before_parts (ordinary tt m) m.own (omega arith) (no_marks (low + 1)) (to_higher (omega arith) v.marks) }
  marked (statement_switch subject clauses) ended counting =
      let m = at_mark switch_word tt counting in
      let o = at_mark open_paren tt m.then in
      let s = marked subject tt o.then in
      let b = at_mark open_brace tt (past_closer close_paren tt s.rest) in
      let c = marked clauses tt b.then in
      record {
        high = c.high;
        rest = past_closer close_brace tt c.rest;
        marks = before_parts (ordinary tt m) m.own (omega arith) s.marks (from_lower (omega arith) c.marks);
      }
  marked {low = low} no_clauses ended counting = record { high = low; rest = counting; marks = no_marks low }
  marked (add_case cases test statements) ended counting =
      let c = marked cases tt counting in
      let m = at_mark case_word tt c.rest in
      let t = marked test tt m.then in
      let s = at_mark colon tt t.rest in
      let v = marked statements tt s.then in
      let clause = before_parts (ordinary tt m) m.own (omega arith) t.marks (from_lower (omega arith) v.marks) in
      record { high = v.high; rest = v.rest; marks = marks_both c.marks clause }
  marked (add_default cases statements) ended counting =
      let c = marked cases tt counting in
      let m = at_mark default_word tt c.rest in
      let s = at_mark colon tt m.then in
      let v = marked statements tt s.then in
      let clause = before_parts (ordinary tt m) m.own (omega arith) (no_marks (c.high + 1 + 1)) v.marks in
      record { high = v.high; rest = v.rest; marks = marks_both c.marks clause }
  marked {low = low} (statement_throw same value) ended counting =
      let m = at_mark throw_word tt counting in
      let v = marked value tt m.then in
      let e = at_mark semicolon tt v.rest in
      record { high = v.high + 1; rest = e.then; marks = before_parts (ordinary tt m) m.own (omega arith) (no_marks (low + 1)) (to_higher (omega arith) v.marks) }
  marked {low = low} (statement_try none inner handler) ended counting =
      let m = at_mark try_word tt counting in
      let i = marked inner tt m.then in
      let h = marked handler tt i.rest in
      let parts = marks_both (marks_both (no_marks (low + 1)) i.marks) h.marks in
      record { high = h.high; rest = h.rest; marks = before_parts (ordinary tt m) m.own (omega arith) parts (no_marks h.high) }
  marked {low = low} (statement_try_finally inner last) ended counting =
      let m = at_mark try_word tt counting in
      let i = marked inner tt m.then in
      let l = marked last tt i.rest in
      let parts = marks_both (marks_both (no_marks (low + 1)) i.marks) l.marks in
      record { high = l.high; rest = l.rest; marks = before_parts (ordinary tt m) m.own (omega arith) parts (no_marks l.high) }
  marked {low = low} (statement_try_all inner handler last) ended counting =
      let m = at_mark try_word tt counting in
      let i = marked inner tt m.then in
      let h = marked handler tt i.rest in
      let l = marked last tt h.rest in
      let parts = marks_both (marks_both (marks_both (no_marks (low + 1)) i.marks) h.marks) l.marks in
      record { high = l.high; rest = l.rest; marks = before_parts (ordinary tt m) m.own (omega arith) parts (no_marks l.high) }
  marked {low = low} (catch_all inner) ended counting =
      let m = at_mark catch_word tt counting in
      let o = at_mark open_paren tt m.then in
      let n = at_mark name tt o.then in
      let i = marked inner tt (past_closer close_paren tt n.then) in
      record { high = i.high; rest = i.rest; marks = before_parts (ordinary tt m) m.own (omega arith) (no_marks (low + 1 + 1 + 1)) i.marks }
  marked {low = low} (finally_all inner) ended counting =
      let m = at_mark finally_word tt counting in
      let i = marked inner tt m.then in
      record { high = i.high; rest = i.rest; marks = before_parts (ordinary tt m) m.own (omega arith) (no_marks (low + 1)) i.marks }
  marked {low = low} statement_debugger ended counting =
      let m = at_mark debugger_word tt counting in
      let e = at_mark semicolon tt m.then in
      record { high = low + 1 + 1; rest = e.then; marks = to_higher (omega arith) (leaf_marks (ordinary tt m) m.own) }
  marked {low = low} (statement_label inner) ended counting =
      let m = at_mark name tt counting in
      let s = at_mark colon tt m.then in
      let i = marked inner tt s.then in
      record { high = i.high; rest = i.rest; marks = before_parts (ordinary tt m) m.own (omega arith) (no_marks (low + 1 + 1)) i.marks }
  marked {low = low} no_statements ended counting = record { high = low; rest = counting; marks = no_marks low }
  marked (add_statement statements last) ended counting =
      let s = marked statements tt counting in
      let l = marked last tt s.rest in
      record { high = l.high; rest = l.rest; marks = marks_both s.marks l.marks }
  marked (add_declaration statements function) ended counting =
      let s = marked statements tt counting in
      let m = at_mark function_word tt s.rest in
      let n = at_mark name tt m.then in
      let f = marked function tt n.then in
      record {
        high = f.high;
        rest = f.rest;
        marks = marks_both s.marks (before_parts (ordinary tt m) m.own (omega arith) f.marks (no_marks f.high));
      }
  marked {low = low} no_items ended counting = record { high = low; rest = counting; marks = no_marks low }
  marked (add_item values starts last) ended counting =
      let v = marked values tt counting in
      let s = item_skips starts v.rest in
      let l = marked last tt s.rest in
      let c = at_mark comma tt l.rest in
      record { high = l.high + 1; rest = c.then; marks = signed v.marks (from_lower s.up l.marks) }
  marked (add_hole values) ended counting =
      let v = marked values tt counting in
      let c = at_mark comma tt v.rest in
      record { high = v.high + 1; rest = c.then; marks = to_higher (omega arith) v.marks }
  marked {low = low} list_empty ended counting = record { high = low; rest = counting; marks = no_marks low }
  marked (list_items allowed values) ended counting = marked values tt counting
  marked (list_last values starts last) ended counting =
      let v = marked values tt counting in
      let s = item_skips starts v.rest in
      let l = marked last tt s.rest in
      record { high = l.high; rest = l.rest; marks = marks_both v.marks (from_lower s.up l.marks) }

-- the marks of a program's parts are from the first mark up to the total
program_marks : {total first : ℕ} {all : List Token} {parts : Syntax} → Counting all total first all → Program all parts → Marks all first total parts
program_marks {total} {first} {all} {parts} counting program =
    let p = marked program tt counting in
    subst (λ (high : ℕ). Marks all first high parts) (ended p.rest) p.marks
  where
    ended : {high : ℕ} → Counting all total high [] → high ≡ total
    ended counting_none = refl

-- "index of its marking tree record": no two parts have the same mark, and each is that of a token that is no closer
pub record OwnMarks (total first : ℕ) (all : List Token) (parts : Syntax) : Type 0 where
  pub apart : Distinct (marks_of parts)
  pub within_all : (m : ℕ) → Memᴰ m (marks_of parts) → Within first total m
  pub of_token : (m : ℕ) → Memᴰ m (marks_of parts) → MarkOf m all

pub own_marks : {total first : ℕ} {all : List Token} {parts : Syntax} → Counting all total first all → Program all parts
    → OwnMarks total first all parts
own_marks counting program =
    let marks = program_marks counting program in
    record {
      apart = distinct marks;
      within_all = within marks;
      of_token = λ m member. let range = within marks m member in mark_of m counting range.above range.below;
    }
