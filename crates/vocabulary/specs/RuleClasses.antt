-- Trees as far as the prefix rule tells them apart.
use Rattle.std.specs.Prelude.{ℕ}

pub data Class : Type 0 where
  -- a name
  name : Class
  -- a number, string or regular expression; by document 02, U4, also what stands as one does: `this`, `null`, `true` or `false`, and `++` or `--` after its operand
  value : Class
  -- `/`, `+`, `=`, `++` or `--` before its operand, or any other operator but those below; by document 02, U6, also what a brace stands behind as
  -- behind one: `case`
  operator : Class
  -- `?`, and a `:` that answers one
  question : Class
  answer : Class
  -- any other `:`
  colon : Class
  -- `.`
  dot : Class
  -- `,`
  comma : Class
  -- `;`
  semicolon : Class
  -- any reserved word but those named here, or a delimiter, which is no tree by itself
  other : Class
  -- the words `return` and `throw`; `function`; and those behind whose `( )` a slash opens a pattern: `if`, `while`, `for` and `with`
  return_word : Class
  function_word : Class
  head_word : Class
  -- `( )`, `[ ]`, an object and a block
  parens : Class
  brackets : Class
  object : Class
  block : Class

-- classes told apart by numbers
abbrev pub rank : Class → ℕ
rank name = 0
rank value = 1
rank operator = 2
rank question = 3
rank answer = 4
rank colon = 5
rank dot = 6
rank comma = 7
rank semicolon = 8
rank other = 9
rank return_word = 10
rank function_word = 11
rank head_word = 12
rank parens = 13
rank brackets = 14
rank object = 15
rank block = 16
