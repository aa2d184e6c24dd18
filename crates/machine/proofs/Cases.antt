-- Short texts, as one table and one test: which of them the token machine takes for programs, what records it makes of them, and
-- how far it follows the others.
use mathlib.Core.Bool.{Bool, true, false, cond, ◌&&◌}
use mathlib.Core.List.{List, [], ◌∷◌}
use mathlib.Core.Path.{◌≡◌, refl}
use Prim.Native.Nat.{ℕ, ◌+◌}
use Prim.Native.String.{String}
use lib.Dec.{eqb}
use Rattle.text.specs.Quoted.{byte, bytes}
use Rattle.text.specs.Runs.{same}
use Rattle.machine.specs.Tokens.{
  Token,
  token,
  name,
  number,
  string,
  pattern,
  divide,
  plus,
  assign,
  colon,
  semicolon,
  dot,
  open_paren,
  close_paren,
  open_brace,
  close_brace,
  open_bracket,
  close_bracket,
  comma,
  return_word,
  function_word,
  if_word,
  word_name,
  this_word,
  new_word,
  void_word,
  instanceof_word,
  increment,
  plus_assign,
  logical_or,
  logical_and,
  minus,
  multiply,
  less,
  negation,
  question,
  var_word,
  else_word,
  do_word,
  while_word,
  continue_word,
  break_word,
  with_word,
  throw_word,
  debugger_word,
  in_word,
  for_word,
  switch_word,
  case_word,
  default_word,
  try_word,
  catch_word,
  finally_word,
}
use Rattle.machine.specs.Syntax.{Syntax, nil, syntax_records, program_tree}
use Rattle.machine.specs.Machinery.Classes.{is_end}
use Rattle.machine.specs.Machinery.Machine.{State, dead, live, consume, run, start, done_of, end_of_text}
use Rattle.machine.proofs.Ran.{is_live}

-- The texts are spelled with a byte for a token: `P` is a regular expression, `S` a string, and `F`, `I` and `R` are the words
-- `function`, `if` and `return`; `W` is a reserved word that is taken as a name; `T`, `N`, `V` and `O` are `this`, `new`, `void` and `instanceof`; `#` is
-- `++`, `~` is `+=`, `|` is `||` and `&` is `&&`; `A`, `E`, `D`, `H`, `U`, `C`, `B`, `X` and `G` are `var`, `else`, `do`, `while`, `with`, `continue`,
-- `break`, `throw` and `debugger`, and `J`, `K`, `L`, `M`, `Q`, `Y`, `Z` and `$` are `for`, `in`, `switch`, `case`, `default`, `try`, `catch` and `finally`. Every other letter is a name.
data Spelling : Type 0 where
  spells : ℕ → ℕ → Spelling

abbrev spellings : List Spelling
spellings =
    spells (byte "1") number
    ∷ spells (byte "S") string
    ∷ spells (byte "P") pattern
    ∷ spells (byte "/") divide
    ∷ spells (byte "+") plus
    ∷ spells (byte "=") assign
    ∷ spells (byte ":") colon
    ∷ spells (byte ";") semicolon
    ∷ spells (byte ".") dot
    ∷ spells (byte "(") open_paren
    ∷ spells (byte ")") close_paren
    ∷ spells (byte "{") open_brace
    ∷ spells (byte "}") close_brace
    ∷ spells (byte "[") open_bracket
    ∷ spells (byte "]") close_bracket
    ∷ spells (byte ",") comma
    ∷ spells (byte "R") return_word
    ∷ spells (byte "F") function_word
    ∷ spells (byte "I") if_word
    ∷ spells (byte "W") word_name
    ∷ spells (byte "T") this_word
    ∷ spells (byte "N") new_word
    ∷ spells (byte "V") void_word
    ∷ spells (byte "O") instanceof_word
    ∷ spells (byte "#") increment
    ∷ spells (byte "~") plus_assign
    ∷ spells (byte "|") logical_or
    ∷ spells (byte "&") logical_and
    ∷ spells (byte "-") minus
    ∷ spells (byte "*") multiply
    ∷ spells (byte "<") less
    ∷ spells (byte "!") negation
    ∷ spells (byte "?") question
    ∷ spells (byte "A") var_word
    ∷ spells (byte "E") else_word
    ∷ spells (byte "D") do_word
    ∷ spells (byte "H") while_word
    ∷ spells (byte "U") with_word
    ∷ spells (byte "C") continue_word
    ∷ spells (byte "B") break_word
    ∷ spells (byte "X") throw_word
    ∷ spells (byte "G") debugger_word
    ∷ spells (byte "J") for_word
    ∷ spells (byte "K") in_word
    ∷ spells (byte "L") switch_word
    ∷ spells (byte "M") case_word
    ∷ spells (byte "Q") default_word
    ∷ spells (byte "Y") try_word
    ∷ spells (byte "Z") catch_word
    ∷ spells (byte "$") finally_word
    ∷ []

abbrev spelled_in : List Spelling → ℕ → ℕ
spelled_in [] b = name
spelled_in (spells x class ∷ rest) b = cond (eqb b x) class (spelled_in rest b)

abbrev spelled : ℕ → ℕ
spelled b = spelled_in spellings b

-- the tokens with the text's end behind them; a line end is marked, and a blank passed over
abbrev tokens_from : Bool → ℕ → List ℕ → List Token
tokens_from newline mark [] = token end_of_text (record { newline = newline; mark = mark; first = 0 }) ∷ []
tokens_from newline mark (b ∷ rest) =
    elim (eqb b (byte "\n")) [
      | true ↦ tokens_from true mark rest
      | false ↦
          elim (eqb b (byte " ")) [
            | true ↦ tokens_from newline mark rest
            | false ↦
                token (spelled b) (record { newline = newline; mark = mark; first = 0 }) ∷ tokens_from false (cond (is_end (spelled b)) mark (mark + 1)) rest
          ]
    ]

abbrev tokens : String → List Token
tokens t = tokens_from false 0 (bytes t)

-- how many of them the machine follows
abbrev followed : State → List Token → ℕ
followed state [] = 0
followed state (t ∷ ts) = elim (is_live (consume state t)) [ true ↦ followed (consume state t) ts + 1 | false ↦ 0 ]

abbrev is_program : String → Bool
is_program t = is_live (run start (tokens t))

-- the records that it makes; the mark of the text's end is the number of tree records
abbrev end_mark : List Token → ℕ
end_mark [] = 0
end_mark (token class spot ∷ ts) = cond (eqb class end_of_text) spot.mark (end_mark ts)

abbrev parts_of : State → Syntax
parts_of (dead place) = nil
parts_of (live control f around) = done_of f

unfoldable records : String → List ℕ
records t = syntax_records (program_tree (end_mark (tokens t)) (parts_of (run start (tokens t))))

-- a program; a program with its syntax records; and what is refused, with the number of tokens that are followed
data Case : Type 0 where
  program : String → Case
  parsed : String → List ℕ → Case
  refused : ℕ → String → Case

unfoldable right : Case → Bool
right (program t) = is_program t
right (parsed t cells) = is_program t && same (records t) cells
right (refused n t) = eqb (followed start (tokens t)) n

table : List Case
table =
    -- Document 01, Readings
    program ""
    ∷ program "P;"
    ∷ program "a/b/c;"
    ∷ program "{} P;"
    ∷ program "x={}/a/b;"
    ∷ program "I(a) P;"
    ∷ program "f(a)/b/c;"
    ∷ program "F f(x){} P;"
    ∷ program "y=F f(x){}/a/b;"
    ∷ program "x:{} P;"
    ∷ program "y={x:{}/a/b};"
    ∷ program "R{}/a/b;"
    ∷ refused 1 "R\n{} P;"
    ∷ program "a=P;"
    ∷ refused 1 "a"
    ∷ refused 2 "a.I(b) P;"
    -- the same slashes taken otherwise
    ∷ refused 0 "/a/;"
    ∷ refused 1 "aPb;"
    ∷ refused 2 "{}/a;"
    ∷ refused 4 "x={}P;"
    ∷ refused 4 "I(a)/b;"
    ∷ refused 7 "F f(x){}/a;"
    ∷ refused 9 "y=F f(x){}P;"
    -- statements
    ∷ program "R;"
    ∷ program "R\n;"
    ∷ refused 1 "R\na;"
    ∷ program "I(a)I(b){}"
    ∷ refused 4 "I(a)"
    ∷ refused 1 "I a;"
    ∷ program "a:b:c;"
    ∷ refused 2 "a:"
    ∷ program "{a:b;}"
    ∷ refused 4 "{a:b}"
    ∷ refused 0 "}"
    ∷ refused 1 "{"
    -- declarations stand in bodies alone
    ∷ program "F f(x){F g(y){}}"
    ∷ refused 1 "{F f(x){}}"
    ∷ refused 4 "I(a)F f(x){}"
    ∷ refused 2 "a:F f(x){}"
    ∷ refused 1 "F(x){}"
    ∷ refused 5 "F f(x);"
    -- expressions
    ∷ program "1+S;"
    ∷ program "(a)(b);"
    ∷ program "({});"
    ∷ program "(F f(x){});"
    ∷ program "a.b.c=d=e;"
    ∷ program "1=(a=b)=c;"
    ∷ refused 3 "a+b=c;"
    ∷ refused 5 "a=b+c=d;"
    ∷ refused 1 "();"
    ∷ refused 6 "x={a:b:c};"
    ∷ refused 3 "x={1:a};"
    ∷ refused 2 "a.1;"
    ∷ refused 2 "({)"
    -- document 02, U1: a reserved word that is taken as a name stands behind a dot
    ∷ program "a.W(b)/c/d;"
    ∷ refused 9 "a.W(b)/c/;"
    ∷ program "a.W.W=b.W;"
    ∷ refused 0 "W;"
    ∷ refused 0 "W:a;"
    ∷ refused 1 "I.W;"
    ∷ refused 1 "F W(x){}"
    ∷ refused 3 "F f(W){}"
    ∷ refused 2 "(a}"
    ∷ refused 3 "f(a;"
    -- document 02, U2: arrays with holes, indexing, lists of any length, functions without a name; such a word is a property too
    ∷ program "[];"
    ∷ program "[,];"
    ∷ program "[a,,b,];"
    ∷ program "[[a],{},P]/b/c;"
    ∷ refused 2 "[a b];"
    ∷ refused 2 "[a};"
    ∷ program "a[b]=c[d][e].f;"
    ∷ refused 2 "a[];"
    ∷ program "a[b,c];"
    ∷ program "f();"
    ∷ program "f(a,b=c,{},P);"
    ∷ refused 2 "f(,a);"
    ∷ refused 4 "f(a,);"
    ∷ program "(a,b);"
    ∷ program "a,b;"
    ∷ program "F f(){}"
    ∷ program "F f(x,y,z){}"
    ∷ refused 3 "F f(,){}"
    ∷ refused 5 "F f(x,){}"
    ∷ program "x={a:b,W:c,};"
    ∷ program "x={W:F(a){R b;},c:d};"
    ∷ refused 3 "x={,};"
    ∷ refused 7 "x={a:b,,};"
    ∷ refused 4 "x={a,b};"
    ∷ program "y=F(x){}/a/b;"
    ∷ refused 8 "y=F(x){}P;"
    ∷ refused 1 "[W];"
    ∷ refused 4 "f(a,W);"
    -- document 02, U4: operators between, before and after operands
    ∷ program "a*b-c<d&e|f;"
    ∷ program "a~b=c;"
    ∷ refused 3 "a|b~c;"
    ∷ refused 2 "-a=b;"
    ∷ program "- - !V a O b;"
    ∷ program "a# + #b - -c;"
    ∷ refused 2 "a##;"
    ∷ refused 1 "a\n#b;"
    ∷ refused 2 "a#b"
    ∷ refused 2 "a#(b);"
    ∷ refused 2 "a#=b;"
    ∷ program "f(a)#;"
    ∷ program "#-a;"
    ∷ program "T.a(T);"
    -- `,` where there is an Expression
    ∷ program "I(a,b)R c,d;"
    ∷ refused 9 "[a,b];c?d,e:f;"
    ∷ refused 2 "a,;"
    -- conditionals
    ∷ program "a?b:c?d:e=f;"
    ∷ program "a=b?c=d:e,f;"
    ∷ program "x={a:b?c:d,W:e};"
    ∷ program "a?b?c:d:e;"
    ∷ program "a?(b):{}/c/d;"
    ∷ refused 5 "a?b:c:d;"
    ∷ refused 3 "a?b;"
    ∷ refused 4 "(a?b);"
    ∷ refused 7 "a?b:c?d;"
    -- `new`
    ∷ program "N a;"
    ∷ program "N N a.b(c).d(e);"
    ∷ program "N a[b]#;"
    ∷ program "N a=b;"
    ∷ program "N{}/a;"
    ∷ program "N F(){}(a);"
    ∷ refused 1 "N-a;"
    ∷ refused 1 "N#a;"
    ∷ program "-N a(b)-c;"
    -- document 02, U6: the empty statement, `while` and `with`, and `else`, which joins the nearest `if` that can take it
    ∷ program ";;"
    ∷ program "H(a)H(b);"
    ∷ program "U(a) P;"
    ∷ refused 1 "H"
    ∷ refused 4 "H(a)"
    ∷ refused 4 "H(a)/b;"
    ∷ program "I(a);E;"
    ∷ program "I(a)I(b);E;E;"
    ∷ refused 13 "I(a)I(b);E;E;E;"
    ∷ program "I(a)H(b)I(c);E;"
    ∷ program "I(a)x:{}E I(b);E P;"
    ∷ refused 0 "E;"
    ∷ refused 5 "H(a);E;"
    -- `do`
    ∷ program "D;H(a);"
    ∷ program "D I(a);E;H(b);"
    ∷ program "D D;H(a);H(b);"
    ∷ program "I(a)D;H(b);E;"
    ∷ refused 6 "D;H(a)P;"
    ∷ refused 2 "D;a;"
    ∷ refused 6 "D H(a);"
    ∷ program "D H(a);H(b);"
    -- `throw`, `continue`, `break`, `debugger`
    ∷ program "X a,{}/b;"
    ∷ refused 1 "X;"
    ∷ refused 1 "X\na;"
    ∷ program "B;C;B a;C\n;"
    ∷ refused 1 "B\na;"
    ∷ refused 2 "C a b;"
    ∷ program "G;"
    ∷ refused 1 "G a;"
    -- `var`
    ∷ program "A a,b=c,d=e=f;"
    ∷ program "I(a)A b={}/c;E;"
    ∷ refused 1 "A;"
    ∷ refused 2 "A a b;"
    ∷ refused 3 "A a,;"
    ∷ refused 2 "A a.b;"
    ∷ refused 2 "A a~b;"
    ∷ program "A a=b,c;"
    -- `for`, with two `;` and with `in`, which is no operator at the top of its head
    ∷ program "J(;;);"
    ∷ program "J(a;b;c)J(;;);"
    ∷ program "J(A a=b,c;;)d;"
    ∷ program "J(a=b,c;d K e;f K g);"
    ∷ program "J(a K b);"
    ∷ program "J(N a.b[c] K d,e)I(f);E;"
    ∷ program "J(A a K b);"
    ∷ program "J(A a=b K c);"
    ∷ program "J(a?b K c:d;;);"
    ∷ refused 7 "J(a?b:c K d;;);"
    ∷ program "J((a K b);;);"
    ∷ program "J(a[b K c];;);"
    ∷ program "J(F(){a K b;};;);"
    ∷ refused 5 "J(a=b K c);"
    ∷ refused 4 "J(a#K b);"
    ∷ refused 6 "J(A a,b K c);"
    ∷ refused 3 "J(a)b;"
    ∷ refused 5 "J(a;b)c;"
    ∷ refused 4 "J(a,K b);"
    ∷ refused 4 "J(-a K b);"
    ∷ program "x:J(a K b)J({}/c;;)P;"
    -- `switch`, with one `default` at most
    ∷ program "L(a){}"
    ∷ program "L(a){M b:}"
    ∷ program "L(a){M b?c:d:M{}:e;{}Q:f:B;M P:}"
    ∷ refused 7 "L(a){Q:Q:}"
    ∷ refused 5 "L(a){b;}"
    ∷ refused 8 "L(a){M b:F f(){}}"
    ∷ program "L(a){Q:L(b){Q:}}"
    ∷ program "L(a){M b,c:H(d);}P;"
    ∷ refused 6 "L(a){}E"
    -- `try`
    ∷ program "Y{}Z(a){}"
    ∷ program "Y{}${}"
    ∷ program "Y{}Z(a){}${}P;"
    ∷ program "I(a)Y{}Z(b){}E;"
    ∷ refused 3 "Y{}"
    ∷ refused 6 "Y{}Z(a,b){}"
    ∷ refused 5 "Y{}Z(){}"
    ∷ refused 7 "Y{}Z(a);"
    ∷ refused 6 "Y{}${}${}"
    ∷ refused 6 "Y{}${}Z(a){}"
    -- records: kind, mark and size of each part
    ∷ parsed "" (20 ∷ 0 ∷ 1 ∷ [])
    ∷ parsed "a={b:P}/c;" (1 ∷ 0 ∷ 1 ∷ 4 ∷ 5 ∷ 1 ∷ 5 ∷ 2 ∷ 2 ∷ 1 ∷ 7 ∷ 1 ∷ 10 ∷ 6 ∷ 4 ∷ 12 ∷ 1 ∷ 6 ∷ 13 ∷ 8 ∷ 7 ∷ 20 ∷ 9 ∷ 8 ∷ [])
    ∷ parsed "a+b/c+d;" (1 ∷ 0 ∷ 1 ∷ 1 ∷ 2 ∷ 1 ∷ 1 ∷ 4 ∷ 1 ∷ 10 ∷ 3 ∷ 3 ∷ 11 ∷ 1 ∷ 5 ∷ 1 ∷ 6 ∷ 1 ∷ 11 ∷ 5 ∷ 7 ∷ 13 ∷ 7 ∷ 8 ∷ 20 ∷ 8 ∷ 9 ∷ [])
    ∷ parsed "a.b(c);" (1 ∷ 0 ∷ 1 ∷ 8 ∷ 2 ∷ 2 ∷ 1 ∷ 4 ∷ 1 ∷ 9 ∷ 3 ∷ 4 ∷ 13 ∷ 5 ∷ 5 ∷ 20 ∷ 6 ∷ 6 ∷ [])
    ∷ parsed "F f(x){R x;}" (1 ∷ 6 ∷ 1 ∷ 15 ∷ 5 ∷ 2 ∷ 19 ∷ 0 ∷ 3 ∷ 20 ∷ 8 ∷ 4 ∷ [])
    ∷ parsed "I(a){b:R;}" (1 ∷ 2 ∷ 1 ∷ 14 ∷ 6 ∷ 1 ∷ 17 ∷ 4 ∷ 2 ∷ 16 ∷ 3 ∷ 3 ∷ 18 ∷ 0 ∷ 5 ∷ 20 ∷ 8 ∷ 6 ∷ [])
    ∷ parsed "(F f(x){})(1);" (7 ∷ 1 ∷ 1 ∷ 6 ∷ 0 ∷ 2 ∷ 2 ∷ 7 ∷ 1 ∷ 9 ∷ 6 ∷ 4 ∷ 13 ∷ 8 ∷ 5 ∷ 20 ∷ 9 ∷ 6 ∷ [])
    ∷ parsed "a[b]=[c,,d];" (1 ∷ 0 ∷ 1 ∷ 1 ∷ 2 ∷ 1 ∷ 22 ∷ 1 ∷ 3 ∷ 1 ∷ 5 ∷ 1 ∷ 1 ∷ 8 ∷ 1 ∷ 21 ∷ 4 ∷ 3 ∷ 12 ∷ 3 ∷ 7 ∷ 13 ∷ 9 ∷ 8 ∷ 20 ∷ 10 ∷ 9 ∷ [])
    ∷ parsed "a-b-c*d;" (1 ∷ 0 ∷ 1 ∷ 1 ∷ 2 ∷ 1 ∷ 42 ∷ 1 ∷ 3 ∷ 1 ∷ 4 ∷ 1 ∷ 1 ∷ 6 ∷ 1 ∷ 40 ∷ 5 ∷ 3 ∷ 42 ∷ 3 ∷ 7 ∷ 13 ∷ 7 ∷ 8 ∷ 20 ∷ 8 ∷ 9 ∷ [])
    ∷ parsed "-a#,T;" (1 ∷ 1 ∷ 1 ∷ 29 ∷ 2 ∷ 2 ∷ 37 ∷ 0 ∷ 3 ∷ 23 ∷ 4 ∷ 1 ∷ 73 ∷ 3 ∷ 5 ∷ 13 ∷ 5 ∷ 6 ∷ 20 ∷ 6 ∷ 7 ∷ [])
    ∷ parsed "a|b?c:d?e:f;" (1 ∷ 0 ∷ 1 ∷ 1 ∷ 2 ∷ 1 ∷ 60 ∷ 1 ∷ 3 ∷ 1 ∷ 4 ∷ 1 ∷ 1 ∷ 6 ∷ 1 ∷ 1 ∷ 8 ∷ 1 ∷ 1 ∷ 10 ∷ 1 ∷ 61 ∷ 7 ∷ 4 ∷ 61 ∷ 3 ∷ 9 ∷ 13 ∷ 11 ∷ 10 ∷ 20 ∷ 12 ∷ 11 ∷ [])
    ∷ parsed "N N a(b);" (1 ∷ 2 ∷ 1 ∷ 1 ∷ 4 ∷ 1 ∷ 27 ∷ 1 ∷ 3 ∷ 28 ∷ 0 ∷ 4 ∷ 13 ∷ 5 ∷ 5 ∷ 20 ∷ 6 ∷ 6 ∷ [])
    ∷ parsed "N a(b)(c)#;" (1 ∷ 1 ∷ 1 ∷ 1 ∷ 3 ∷ 1 ∷ 27 ∷ 0 ∷ 3 ∷ 1 ∷ 5 ∷ 1 ∷ 9 ∷ 4 ∷ 5 ∷ 29 ∷ 6 ∷ 6 ∷ 13 ∷ 7 ∷ 7 ∷ 20 ∷ 8 ∷ 8 ∷ [])
    ∷ parsed "f(a,{b:c,W:1});" (1 ∷ 0 ∷ 1 ∷ 1 ∷ 2 ∷ 1 ∷ 1 ∷ 7 ∷ 1 ∷ 2 ∷ 11 ∷ 1 ∷ 5 ∷ 4 ∷ 3 ∷ 9 ∷ 1 ∷ 6 ∷ 13 ∷ 12 ∷ 7 ∷ 20 ∷ 13 ∷ 8 ∷ [])
    ∷ parsed "I(a)I(b);E;" (1 ∷ 2 ∷ 1 ∷ 1 ∷ 5 ∷ 1 ∷ 76 ∷ 6 ∷ 1 ∷ 18 ∷ 3 ∷ 3 ∷ 76 ∷ 8 ∷ 1 ∷ 77 ∷ 7 ∷ 5 ∷ 18 ∷ 0 ∷ 7 ∷ 20 ∷ 9 ∷ 8 ∷ [])
    ∷ parsed "x:D H(a)b;H(c);" (1 ∷ 5 ∷ 1 ∷ 1 ∷ 6 ∷ 1 ∷ 13 ∷ 7 ∷ 2 ∷ 79 ∷ 3 ∷ 4 ∷ 1 ∷ 10 ∷ 1 ∷ 78 ∷ 2 ∷ 6 ∷ 17 ∷ 0 ∷ 7 ∷ 20 ∷ 12 ∷ 8 ∷ [])
    ∷ parsed "A a,b=1;U(c)B x;C;G;" (75 ∷ 1 ∷ 1 ∷ 2 ∷ 5 ∷ 1 ∷ 75 ∷ 3 ∷ 2 ∷ 74 ∷ 0 ∷ 4 ∷ 1 ∷ 9 ∷ 1 ∷ 85 ∷ 10 ∷ 1 ∷ 86 ∷ 7 ∷ 3 ∷ 82 ∷ 13 ∷ 1 ∷ 94 ∷ 15 ∷ 1 ∷ 20 ∷ 17 ∷ 10 ∷ [])
    ∷ parsed "X-a;" (1 ∷ 2 ∷ 1 ∷ 37 ∷ 1 ∷ 2 ∷ 90 ∷ 0 ∷ 3 ∷ 20 ∷ 4 ∷ 4 ∷ [])
    ∷ parsed "J(A a=b;;c)d;" (1 ∷ 5 ∷ 1 ∷ 75 ∷ 3 ∷ 2 ∷ 74 ∷ 2 ∷ 3 ∷ 1 ∷ 8 ∷ 1 ∷ 1 ∷ 9 ∷ 1 ∷ 13 ∷ 10 ∷ 2 ∷ 80 ∷ 0 ∷ 7 ∷ 20 ∷ 11 ∷ 8 ∷ [])
    ∷ parsed "J(N a K b);" (1 ∷ 3 ∷ 1 ∷ 28 ∷ 2 ∷ 2 ∷ 1 ∷ 5 ∷ 1 ∷ 76 ∷ 6 ∷ 1 ∷ 81 ∷ 0 ∷ 5 ∷ 20 ∷ 7 ∷ 6 ∷ [])
    ∷ parsed "L(a){M b:c;Q:;}" (1 ∷ 2 ∷ 1 ∷ 1 ∷ 5 ∷ 1 ∷ 1 ∷ 7 ∷ 1 ∷ 13 ∷ 8 ∷ 2 ∷ 88 ∷ 4 ∷ 4 ∷ 76 ∷ 11 ∷ 1 ∷ 89 ∷ 9 ∷ 2 ∷ 87 ∷ 0 ∷ 8 ∷ 20 ∷ 12 ∷ 9 ∷ [])
    ∷ parsed "Y{;}Z(a){}${}" (76 ∷ 2 ∷ 1 ∷ 16 ∷ 1 ∷ 2 ∷ 16 ∷ 6 ∷ 1 ∷ 92 ∷ 3 ∷ 2 ∷ 16 ∷ 8 ∷ 1 ∷ 93 ∷ 7 ∷ 2 ∷ 91 ∷ 0 ∷ 7 ∷ 20 ∷ 9 ∷ 8 ∷ [])
    ∷ []

-- those that are not as the table says
abbrev failures : List Case → List Case
failures [] = []
failures (c ∷ rest) = elim (right c) [ true ↦ failures rest | false ↦ c ∷ failures rest ]

no_failures : failures table ≡ []
unfolding table right records syntax_records same
no_failures = refl
