-- The first mark of an operand is that of its first token.
use mathlib.Core.Path.{sym}
use mathlib.Core.Bool.{Bool, not}
use mathlib.Core.List.Memᴰ
use mathlib.Core.List.{List, [], ◌∷◌, ◌++◌, Memᴰ}
use Prim.Native.Nat.{ℕ}
use lib.Dec.{T}
use Rattle.machine.specs.Tokens.{Token, token, Spot, new_word, open_paren, open_bracket, open_brace, function_word}
use Rattle.machine.specs.Syntax.{Syntax, node, marks_of}
use Rattle.grammar.specs.Grammar.{
  prefix_operators,
  Derives,
  chain_leaf,
  chain_array,
  chain_object,
  chain_parens,
  chain_function,
  chain_unnamed,
  chain_index,
  chain_member,
  chain_call,
  chain_new,
  expression_assign,
  expression_comma,
  assign_binary,
  assign_to,
  assign_conditional,
  binary_unary,
  binary_operator,
  unary_target,
  unary_prefix,
  unary_postfix,
  target_chain,
  target_new,
  binary_form,
  expression_form,
  Target,
  Chain,
}
use Rattle.recorded.proofs.Counts.{is_closing, leaf_open, operator_open}
use Rattle.recorded.proofs.Counting.{Counting, at_mark}

-- a mark is among a tree's
pub record MarkIn (mark : ℕ) (value : Syntax) : Type 0 where
  pub member : Memᴰ mark (marks_of value)

left_mark : {mark kind own : ℕ} {left right : Syntax} → MarkIn mark left → MarkIn mark (node kind own left right)
left_mark {own = own} {right = right} m = record { member = Memᴰ.append_left (marks_of right ++ (own ∷ [])) m.member }

-- that of the first token of an operand is among the operand's
module _ {all : List Token} {total low : ℕ} where
  pub own_first : (class : ℕ) {kind : ℕ} {spot : Spot} {rest : List Token} {left right : Syntax} → T (not (is_closing class))
      → Counting all total low (token class spot ∷ rest) → MarkIn low (node kind spot.mark left right)
  own_first class {left = left} {right = right} opens c =
      record { member = Memᴰ.append_right (marks_of left) (Memᴰ.append_right (marks_of right) (Memᴰ.head (sym (at_mark class opens c).own))) }

  chain_first : {calls : Bool} {before after : List Token} {value : Syntax} → Chain calls before after value → Counting all total low before → MarkIn low value
  chain_first (chain_leaf {class = class} leaf) c = own_first class (leaf_open leaf) c
  chain_first (chain_array values) c = own_first open_bracket tt c
  chain_first (chain_object values) c = own_first open_brace tt c
  chain_first (chain_parens value) c = own_first open_paren tt c
  chain_first (chain_function function) c = own_first function_word tt c
  chain_first (chain_unnamed function) c = own_first function_word tt c
  chain_first (chain_index object value) c = left_mark (chain_first object c)
  chain_first (chain_member called object) c = left_mark (chain_first object c)
  chain_first (chain_call callee values) c = left_mark (chain_first callee c)
  chain_first (chain_new callee values) c = own_first new_word tt c

  pub target_first : {calls : Bool} {before after : List Token} {value : Syntax} → Target calls before after value → Counting all total low before → MarkIn low value
  target_first (target_chain chain) c = chain_first chain c
  target_first (target_new callee) c = own_first new_word tt c

  pub binary_first : {within : Bool} {least : ℕ} {before after : List Token} {value : Syntax} → Derives (binary_form within least) before after value
      → Counting all total low before → MarkIn low value
  binary_first (binary_unary (unary_target target)) c = target_first target c
  binary_first (binary_unary (unary_prefix {class = class} op operand)) c = own_first class (operator_open prefix_operators tt class op) c
  binary_first (binary_unary (unary_postfix op same operand)) c = left_mark (target_first operand c)
  binary_first (binary_operator op tight left right) c = left_mark (binary_first left c)

  pub expression_first : {within : Bool} {before after : List Token} {value : Syntax} → Derives (expression_form within) before after value
      → Counting all total low before → MarkIn low value
  expression_first (expression_assign (assign_binary binary)) c = binary_first binary c
  expression_first (expression_assign (assign_to op target value)) c = left_mark (target_first target c)
  expression_first (expression_assign (assign_conditional {first = inner} condition first second)) c =
      left_mark (record { member = Memᴰ.append_left (marks_of inner) (binary_first condition c).member })
  expression_first (expression_comma left right) c = left_mark (expression_first left c)
