-- Document 02, U4: "each added operator and value word makes one syntax record": each token of a program that is one marks a part, whose kind its
-- class and its place in the part tell. No two parts have the same mark (OwnMarks.antt).
use mathlib.Core.Path.{◌≡◌, refl, subst}
use mathlib.Core.Bool.{Bool, not, ◌&&◌}
use mathlib.Core.List.Memᴰ
use mathlib.Core.List.{List, [], ◌∷◌, ◌++◌, Memᴰ}
use Prim.Native.Nat.{ℕ, ◌+◌}
use native.Mathlib.Omega.{arith}
use lib.Dec.{T, T_not}
use Rattle.machine.specs.Tokens.{Token, token, Spot, name, assign, comma, var_word, else_word, do_word, while_word, for_word, in_word, switch_word, case_word, default_word, throw_word, try_word, catch_word, finally_word, debugger_word, colon, semicolon, dot, open_paren, close_paren, open_bracket, close_bracket, open_brace, close_brace, return_word, function_word, if_word}
use Rattle.machine.specs.Syntax.{Syntax, nil, node, snoc, marks_of, variable_syntax, for_in_syntax}
use Rattle.grammar.specs.Grammar.{
  assignment_operators,
  binary_operators,
  prefix_operators,
  prefix_kind,
  postfix_operators,
  postfix_kind,
  is_among,
  HeadWord,
  while-word,
  with-word,
  JumpWord,
  continue-word,
  break-word,
  IdentifierName,
  identifier,
  reserved_word,
  Items,
  ItemStart,
  at_argument,
  at_element,
  at_property,
  Names,
  one_name,
  more_names,
  Parameters,
  no_parameters,
  some_parameters,
  Form,
  Derives,
  chain_leaf,
  chain_array,
  chain_object,
  chain_parens,
  chain_function,
  chain_unnamed,
  chain_index,
  chain_member,
  chain_call,
  chain_new,
  no_items,
  add_item,
  add_hole,
  list_empty,
  list_items,
  list_last,
  expression_assign,
  expression_comma,
  assign_binary,
  assign_to,
  assign_conditional,
  binary_unary,
  binary_operator,
  unary_target,
  unary_prefix,
  unary_postfix,
  target_chain,
  target_new,
  function_all,
  block_all,
  statement_block,
  statement_expression,
  statement_var,
  no_variables,
  add_variable,
  variable_bare,
  variable_initialised,
  statement_empty,
  statement_if,
  statement_else,
  statement_do,
  statement_head,
  statement_for,
  statement_for_var,
  left_out,
  not_left_out,
  statement_for_in,
  statement_for_var_in,
  statement_bare_jump,
  statement_jump,
  statement_bare_return,
  statement_full_return,
  statement_switch,
  no_clauses,
  add_case,
  add_default,
  statement_throw,
  statement_try,
  statement_try_finally,
  statement_try_all,
  catch_all,
  finally_all,
  statement_debugger,
  statement_label,
  no_statements,
  add_statement,
  add_declaration,
  assign_form,
  Statement,
  Expression,
  Program,
}
use Rattle.recorded.specs.Parts.{Part, part, parts_of, marking}
use Rattle.recorded.specs.Recorded.{recorded_classes, is_recorded, operand_kinds, Makes, Assigns, assigns, initialises, Iterates, Relates, relates, iterates}
use Rattle.text.proofs.Range.{and_left, and_right}
use Rattle.grammar.proofs.TableLaws.{at_class, at_leaf, binary_by}
use Rattle.recorded.proofs.Ranges.{no_marks, before_parts}
use Rattle.recorded.proofs.Markers.{part_holds}
use Rattle.recorded.proofs.Counting.{Counting, counting_closer, counting_mark, past_closer, at_mark}
use Rattle.recorded.proofs.Unmarked.{Gaps, gaps, assign_unmarked, in_unmarked}
use Rattle.recorded.proofs.Firsts.{MarkIn, own_first, target_first, expression_first}
use Rattle.recorded.proofs.OwnMarks.{MarksTo, initialising, iterating, ordinary, marked}

-- a token that is to have a record, or a `=` or `in`
abbrev may_mark : ℕ → Bool
may_mark class = is_among (assign ∷ in_word ∷ recorded_classes) class

-- it has it among these, or initialises a variable, or is the `in` of a `for`
data Has (class mark : ℕ) (parts : List Part) : Type 0 where
  has_part : {kind : ℕ} {inside : Syntax} → Memᴰ (part kind mark inside) parts → T (is_among (marking kind) class) → T (is_among operand_kinds kind)
      → Has class mark parts
  has_assign : class ≡ assign → Assigns mark parts → Has class mark parts
  has_in : class ≡ in_word → Relates mark parts → Has class mark parts

-- so it is with each of a list
data Recorded (parts : List Part) : List Token → Type 0 where
  recorded_none : Recorded parts []
  recorded_more : {class : ℕ} {spot : Spot} {rest : List Token} → (T (may_mark class) → Has class spot.mark parts) → Recorded parts rest
      → Recorded parts (token class spot ∷ rest)

recorded_at : {parts : List Part} (before : List Token) (class : ℕ) (spot : Spot) (after : List Token)
    → Recorded parts (before ++ (token class spot ∷ after)) → T (may_mark class) → Has class spot.mark parts
recorded_at [] class spot after (recorded_more has rest) h = has h
recorded_at (token c s ∷ before) class spot after (recorded_more has rest) h = recorded_at before class spot after rest h

-- no name is one, and no word of a statement
name_other : {class : ℕ} → IdentifierName class → T (not (may_mark class))
name_other identifier = tt
name_other reserved_word = tt

head_other : {class : ℕ} → HeadWord class → T (not (may_mark class))
head_other while-word = tt
head_other with-word = tt

jump_other : {class bare : ℕ} → JumpWord class bare → T (not (may_mark class))
jump_other continue-word = tt
jump_other break-word = tt

-- the records of a part are among these
record Among (parts : List Part) (value : Syntax) : Type 0 where
  each : (p : Part) → Memᴰ p (parts_of value) → Memᴰ p parts

module _ {parts : List Part} where
  -- and so are those of what is in it, and its own
  in_left : {kind mark : ℕ} {left right : Syntax} → Among parts (node kind mark left right) → Among parts left
  in_left {right = right} among = record { each = λ p member. among.each p (Memᴰ.append_left (parts_of right ++ _) member) }

  in_right : {kind mark : ℕ} {left right : Syntax} → Among parts (node kind mark left right) → Among parts right
  in_right {left = left} among = record { each = λ p member. among.each p (Memᴰ.append_right (parts_of left) (Memᴰ.append_left _ member)) }

  in_before : {before last : Syntax} → Among parts (snoc before last) → Among parts before
  in_before {last = last} among = record { each = λ p member. among.each p (Memᴰ.append_left (parts_of last) member) }

  in_last : {before last : Syntax} → Among parts (snoc before last) → Among parts last
  in_last {before} among = record { each = λ p member. among.each p (Memᴰ.append_right (parts_of before) member) }

  own_part : {kind mark : ℕ} {left right : Syntax} → Among parts (node kind mark left right) → Memᴰ (part kind mark (snoc left right)) parts
  own_part {left = left} {right = right} among =
      among.each _ (Memᴰ.append_right (parts_of left) (Memᴰ.append_right (parts_of right) (Memᴰ.head refl)))

-- the same of tokens whose marks count their tree records
abbrev Held : List Token → ℕ → List Part → List Token → Type 0
Held all total parts tokens = (low : ℕ) → Counting all total low tokens → Recorded parts tokens

module _ {all : List Token} {total : ℕ} {parts : List Part} (free : Gaps parts) where
  taken : {class : ℕ} {spot : Spot} {rest : List Token} → (T (may_mark class) → Has class spot.mark parts) → Held all total parts rest → Held all total parts (token class spot ∷ rest)
  taken has r low (counting_closer closing counting) = recorded_more has (r low counting)
  taken has r low (counting_mark opens among own counting) = recorded_more has (r (low + 1) counting)

  -- a token that marks no part, one that marks a part, and the `=` behind the name of a variable
  other : (class : ℕ) {spot : Spot} {rest : List Token} → T (not (may_mark class)) → Held all total parts rest → Held all total parts (token class spot ∷ rest)
  other class none = taken (λ h. absurd (T_not (may_mark class) none h))

  making : {kind class : ℕ} {spot : Spot} {left right : Syntax} {rest : List Token} → T (is_among (marking kind) class && is_among operand_kinds kind)
      → Among parts (node kind spot.mark left right) → Held all total parts rest → Held all total parts (token class spot ∷ rest)
  making {kind} {class} h among =
      taken (λ may. has_part (own_part among) (and_left (is_among (marking kind) class) (is_among operand_kinds kind) h) (and_right (is_among (marking kind) class) (is_among operand_kinds kind) h))

  initialised : {more : Bool} {called sign : Spot} {value : Syntax} {rest after : List Token} → Derives (assign_form more) rest after value
      → Among parts (node variable_syntax called.mark nil value) → Held all total parts rest
      → Held all total parts (token name called ∷ token assign sign ∷ rest)
  initialised {value = value} given among r low counting =
      let n = at_mark name tt counting in
      let s = at_mark assign tt n.then in
      let v = marked given tt s.then in
      let own = initialising n.own s.own (expression_first (expression_assign given) s.then) v.marks in
      other name tt (taken (λ h. has_assign refl (initialises (own_part among) own (assign_unmarked free (own_part among) own))) r) low counting

  -- the `in` of a `for`, behind its start and before its object
  iterated : {word opener sign closer : Spot} {start object inner : Syntax} {inside rest middle after : List Token}
      → Expression rest (token close_paren closer ∷ middle) object → Statement middle after inner
      → Among parts (node for_in_syntax word.mark (snoc (snoc nil start) object) inner)
      → ((low : ℕ) → Counting all total low inside → MarkIn low start)
      → ((low : ℕ) → Counting all total low inside → MarksTo all total low (token in_word sign ∷ rest) start)
      → (Held all total parts (token in_word sign ∷ rest) → Held all total parts inside) → Held all total parts rest
      → Held all total parts (token for_word word ∷ token open_paren opener ∷ inside)
  iterated {word} {sign = sign} {start = start} {object = object} {inner = inner} value body among first marks before r low counting =
      let m = at_mark for_word tt counting in
      let o = at_mark open_paren tt m.then in
      let s = marks (low + 1 + 1) o.then in
      let n = at_mark in_word tt s.rest in
      let v = marked value tt n.then in
      let b = marked body tt (past_closer close_paren tt v.rest) in
      let own = iterating m.own (first (low + 1 + 1) o.then) s.marks n.own (expression_first value n.then) v.marks b.marks in
      other for_word tt (other open_paren tt (before (taken (λ h. has_in refl (iterates (own_part among) own (in_unmarked free (own_part among) own))) r))) low counting

  item_recorded : {items : Items} {before after : List Token} → ItemStart items before after → Held all total parts after → Held all total parts before
  item_recorded at_argument r = r
  item_recorded at_element r = r
  item_recorded (at_property {class = class} called) r = other class (name_other called) (other colon tt r)

  names_recorded : {before after : List Token} → Names before after → Held all total parts after → Held all total parts before
  names_recorded one_name r = other name tt r
  names_recorded (more_names names) r = names_recorded names (other comma tt (other name tt r))

  parameters_recorded : {before after : List Token} → Parameters before after → Held all total parts after → Held all total parts before
  parameters_recorded no_parameters r = r
  parameters_recorded (some_parameters names) r = names_recorded names r

  -- where those behind a part have their records, those from its start on have theirs
  derived : {form : Form} {before after : List Token} {value : Syntax} → Derives form before after value → Among parts value → Held all total parts after → Held all total parts before
  derived (chain_leaf leaf) a r = making (at_leaf (λ x. is_among (marking x) x && is_among operand_kinds x) tt leaf) a r
  derived (chain_array values) a r = other open_bracket tt (derived values (in_left a) (other close_bracket tt r))
  derived (chain_object values) a r = other open_brace tt (derived values (in_left a) (other close_brace tt r))
  derived (chain_parens value) a r = other open_paren tt (derived value (in_left a) (other close_paren tt r))
  derived (chain_function function) a r = other function_word tt (other name tt (derived function (in_left a) r))
  derived (chain_unnamed function) a r = other function_word tt (derived function (in_left a) r)
  derived (chain_index object value) a r =
      derived object (in_left a) (other open_bracket tt (derived value (in_right a) (other close_bracket tt r)))
  derived (chain_member {class = class} called object) a r = derived object (in_left a) (other dot tt (other class (name_other called) r))
  derived (chain_call callee values) a r = derived callee (in_left a) (other open_paren tt (derived values (in_right a) (other close_paren tt r)))
  derived (chain_new callee values) a r =
      making tt a (derived callee (in_left a) (other open_paren tt (derived values (in_right a) (other close_paren tt r))))
  derived (target_chain chain) a r = derived chain a r
  derived (target_new callee) a r = making tt a (derived callee (in_right a) r)
  derived (unary_target target) a r = derived target a r
  derived (unary_prefix {class = class} op operand) a r =
      making (at_class (λ x. is_among (marking (prefix_kind x)) x && is_among operand_kinds (prefix_kind x)) prefix_operators class op tt) a (derived operand (in_right a) r)
  derived (unary_postfix {class = class} op same operand) a r =
      derived operand (in_left a) (making (at_class (λ x. is_among (marking (postfix_kind x)) x && is_among operand_kinds (postfix_kind x)) postfix_operators class op tt) a r)
  derived (binary_unary unary) a r = derived unary a r
  derived (binary_operator {within = within} {class = class} op tight left right) a r =
      derived left (in_left a)
      (making (at_class (λ x. is_among (marking x) x && is_among operand_kinds x) binary_operators class (binary_by within class op) tt) a (derived right (in_right a) r))
  derived (assign_binary binary) a r = derived binary a r
  derived (assign_to {class = class} op target value) a r =
      derived target (in_left a)
      (making (at_class (λ x. is_among (marking x) x && is_among operand_kinds x) assignment_operators class op tt) a (derived value (in_right a) r))
  derived (assign_conditional condition first second) a r =
      derived condition (in_before (in_left a)) (making tt a (derived first (in_last (in_left a)) (other colon tt (derived second (in_right a) r))))
  derived (expression_assign value) a r = derived value a r
  derived (expression_comma left right) a r = derived left (in_left a) (other comma tt (derived right (in_right a) r))
  derived (function_all parameters statements) a r =
      other open_paren tt (parameters_recorded parameters (other close_paren tt (other open_brace tt (derived statements a (other close_brace tt r)))))
  derived (block_all statements) a r = other open_brace tt (derived statements (in_left a) (other close_brace tt r))
  derived (statement_block inner) a r = derived inner a r
  derived (statement_expression allowed value) a r = derived value (in_left a) (other semicolon tt r)
  derived (statement_var variables last) a r = other var_word tt (derived variables (in_left a) (derived last (in_right a) (other semicolon tt r)))
  derived no_variables a r = r
  derived (add_variable variables last) a r = derived variables (in_before a) (derived last (in_last a) (other comma tt r))
  derived variable_bare a r = other name tt r
  derived (variable_initialised value) a r = initialised value a (derived value (in_right a) r)
  derived statement_empty a r = other semicolon tt r
  derived (statement_if none condition inner) a r =
      other if_word tt (other open_paren tt (derived condition (in_left a) (other close_paren tt (derived inner (in_right a) r))))
  derived (statement_else condition first second) a r =
      other if_word tt
      (other open_paren tt
      (derived condition (in_left (in_left a))
      (other close_paren tt (derived first (in_right (in_left a)) (other else_word tt (derived second (in_right a) r))))))
  derived (statement_do inner condition) a r =
      other do_word tt
      (derived inner (in_left a) (other while_word tt (other open_paren tt (derived condition (in_right a) (other close_paren tt (other semicolon tt r))))))
  derived (statement_head {class = class} heads head inner) a r =
      other class (head_other heads) (other open_paren tt (derived head (in_left a) (other close_paren tt (derived inner (in_right a) r))))
  derived (statement_for start condition step inner) a r =
      let head = in_left a in
      other for_word tt
      (other open_paren tt
      (derived start (in_last (in_before (in_before head)))
      (other semicolon tt
      (derived condition (in_last (in_before head)) (other semicolon tt (derived step (in_last head) (other close_paren tt (derived inner (in_right a) r))))))))
  derived (statement_for_var variables last condition step inner) a r =
      let head = in_left a in
      let start = in_last (in_before (in_before head)) in
      other for_word tt
      (other open_paren tt
      (other var_word tt
      (derived variables (in_left start)
      (derived last (in_right start)
      (other semicolon tt
      (derived condition (in_last (in_before head)) (other semicolon tt (derived step (in_last head) (other close_paren tt (derived inner (in_right a) r))))))))))
  derived left_out a r = r
  derived (not_left_out value) a r = derived value a r
  derived (statement_for_in target object inner) a r =
      iterated object inner a (λ low. target_first target) (λ low. marked target tt) (λ t. derived target (in_last (in_before (in_left a))) t)
      (derived object (in_last (in_left a)) (other close_paren tt (derived inner (in_right a) r)))
  derived (statement_for_var_in variable object inner) a r =
      iterated object inner a (λ low. own_first var_word tt)
      (λ low counting.
      let d = at_mark var_word tt counting in
      let v = marked variable tt d.then in
      record { high = v.high; rest = v.rest; marks = before_parts (ordinary tt d) d.own (omega arith) (no_marks (low + 1)) v.marks })
      (λ t. other var_word tt (derived variable (in_right (in_last (in_before (in_left a)))) t))
      (derived object (in_last (in_left a)) (other close_paren tt (derived inner (in_right a) r)))
  derived (statement_bare_jump {class = class} jumps) a r = other class (jump_other jumps) (other semicolon tt r)
  derived (statement_jump {class = class} jumps same) a r = other class (jump_other jumps) (other name tt (other semicolon tt r))
  derived statement_bare_return a r = other return_word tt (other semicolon tt r)
  derived (statement_full_return same value) a r = other return_word tt (derived value (in_right a) (other semicolon tt r))
  derived (statement_switch subject clauses) a r =
      other switch_word tt
      (other open_paren tt
      (derived subject (in_left a) (other close_paren tt (other open_brace tt (derived clauses (in_right a) (other close_brace tt r))))))
  derived no_clauses a r = r
  derived (add_case cases test statements) a r =
      let clause = in_last a in
      derived cases (in_before a) (other case_word tt (derived test (in_left clause) (other colon tt (derived statements (in_right clause) r))))
  derived (add_default cases statements) a r =
      derived cases (in_before a) (other default_word tt (other colon tt (derived statements (in_right (in_last a)) r)))
  derived (statement_throw same value) a r = other throw_word tt (derived value (in_right a) (other semicolon tt r))
  derived (statement_try none inner handler) a r =
      let parts = in_left a in
      other try_word tt (derived inner (in_last (in_before parts)) (derived handler (in_last parts) r))
  derived (statement_try_finally inner last) a r =
      let parts = in_left a in
      other try_word tt (derived inner (in_last (in_before parts)) (derived last (in_last parts) r))
  derived (statement_try_all inner handler last) a r =
      let parts = in_left a in
      other try_word tt
      (derived inner (in_last (in_before (in_before parts))) (derived handler (in_last (in_before parts)) (derived last (in_last parts) r)))
  derived (catch_all inner) a r = other catch_word tt (other open_paren tt (other name tt (other close_paren tt (derived inner (in_right a) r))))
  derived (finally_all inner) a r = other finally_word tt (derived inner (in_right a) r)
  derived statement_debugger a r = other debugger_word tt (other semicolon tt r)
  derived (statement_label inner) a r = other name tt (other colon tt (derived inner (in_right a) r))
  derived no_statements a r = r
  derived (add_statement statements last) a r = derived statements (in_before a) (derived last (in_last a) r)
  derived (add_declaration statements function) a r =
      derived statements (in_before a) (other function_word tt (other name tt (derived function (in_left (in_last a)) r)))
  derived no_items a r = r
  derived (add_item values starts last) a r = derived values (in_before a) (item_recorded starts (derived last (in_last a) (other comma tt r)))
  derived (add_hole values) a r = derived values a (other comma tt r)
  derived list_empty a r = r
  derived (list_items allowed values) a r = derived values a r
  derived (list_last values starts last) a r = derived values (in_before a) (item_recorded starts (derived last (in_last a) r))

module _ {total low : ℕ} {all : List Token} {value : Syntax} (counting : Counting all total low all) (program : Program all value) (before : List Token) where
  has_at : (class : ℕ) (spot : Spot) (after : List Token) → all ≡ before ++ (token class spot ∷ after) → T (may_mark class)
      → Has class spot.mark (parts_of value)
  has_at class spot after split h =
      recorded_at before class spot after
      (subst (Recorded (parts_of value)) split (derived (gaps (marked program tt counting).marks) program (record { each = λ p member. member }) (λ end none. recorded_none) low counting)) h

  -- what has its part there makes it: the part holds what it must
  makes : {class mark kind : ℕ} {inside : Syntax} → Memᴰ (part kind mark inside) (parts_of value) → T (is_among (marking kind) class)
      → T (is_among operand_kinds kind) → Makes class mark (parts_of value)
  makes {kind = kind} {inside = inside} is marks some =
      record { kind = kind; inside = inside; among = is; marks = marks; holds = part_holds counting program is some }

  pub token_recorded : (class : ℕ) (spot : Spot) (after : List Token) → all ≡ before ++ (token class spot ∷ after) → T (is_recorded class)
      → Makes class spot.mark (parts_of value)
  token_recorded class spot after split h = made (has_at class spot after split (at_class may_mark recorded_classes class h tt))
    where
      made : {mark : ℕ} → Has class mark (parts_of value) → Makes class mark (parts_of value)
      made (has_part is marks some) = makes is marks some
      made (has_assign same assigned) = absurd (subst (λ (x : ℕ). T (is_recorded x)) same h)
      made (has_in same related) = absurd (subst (λ (x : ℕ). T (is_recorded x)) same h)

  -- a `=` marks one too, unless it stands behind the name of a variable
  pub assign_recorded : (spot : Spot) (after : List Token) → all ≡ before ++ (token assign spot ∷ after) → Assigns spot.mark (parts_of value)
  assign_recorded spot after split = made (has_at assign spot after split tt)
    where
      made : {mark : ℕ} → Has assign mark (parts_of value) → Assigns mark (parts_of value)
      made (has_part is marks some) = assigns (makes is marks some)
      made (has_assign same assigned) = assigned
      made (has_in same related) = absurd (omega arith)

  -- and so does `in`, unless it is that of a `for`
  pub in_recorded : (spot : Spot) (after : List Token) → all ≡ before ++ (token in_word spot ∷ after) → Relates spot.mark (parts_of value)
  in_recorded spot after split = made (has_at in_word spot after split tt)
    where
      made : {mark : ℕ} → Has in_word mark (parts_of value) → Relates mark (parts_of value)
      made (has_part is marks some) = relates (makes is marks some)
      made (has_assign same assigned) = absurd (omega arith)
      made (has_in same related) = related

-- a `for` has one `in` of its own
pub one_in : {word first second : ℕ} {start object inner : Syntax} → Iterates word first start object inner → Iterates word second start object inner
    → first ≡ second
one_in {first = first} {second = second} {inner = inner} i j =
    omega (arith, i.behind (second + 1) (Memᴰ.append_left (marks_of inner) j.next), j.behind (first + 1) (Memᴰ.append_left (marks_of inner) i.next))
