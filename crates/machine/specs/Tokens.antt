-- Elements as the grammar tells them apart: tokens, closers included.
use Rattle.std.specs.Prelude.{ℕ, Bool}
pub use Rattle.vocabulary.specs.TokenClasses.{name, number, string, pattern, divide, plus, assign, this_word, null_word, true_word, false_word, new_word, delete_word, void_word, typeof_word, increment, decrement, complement, negation, multiply, remainder, minus, left_shift, right_shift, unsigned_shift, less, greater, at_most, at_least, instanceof_word, in_word, equal, unequal, identical, unidentical, bit_and, bit_xor, bit_or, logical_and, logical_or, question, multiply_assign, divide_assign, remainder_assign, plus_assign, minus_assign, left_shift_assign, right_shift_assign, unsigned_shift_assign, and_assign, xor_assign, or_assign, comma, var_word, else_word, do_word, while_word, for_word, continue_word, break_word, with_word, switch_word, case_word, default_word, throw_word, try_word, catch_word, finally_word, debugger_word, colon, semicolon, dot, open_paren, close_paren, open_brace, close_brace, return_word, function_word, if_word, open_bracket, close_bracket, word_name}

-- where a token stands: whether a line end lies before it, the number of tree records before it, which is the index of its own if it has one, and its first byte
pub record Spot : Type 0 where
  pub newline : Bool
  pub mark : ℕ
  pub first : ℕ

-- a token: its class, and where it stands
pub data Token : Type 0 where
  token : ℕ → Spot → Token
