-- Tokens as far as the grammar tells them apart: their classes, by number.
use Rattle.std.specs.Prelude.{ℕ}

-- A number, string, regular expression, value word, operator or word of a statement that U6 adds has the number of the part that it marks, and so has a name that is an operand. An
-- operator that marks parts of two kinds has that of the part with two operands or, `++` and `--`, that of the part in which it stands before its operand; `new` has that of the part without arguments.
abbrev pub name : ℕ
name = 1

abbrev pub number : ℕ
number = 2

abbrev pub string : ℕ
string = 3

abbrev pub pattern : ℕ
pattern = 4

abbrev pub divide : ℕ
divide = 10

abbrev pub plus : ℕ
plus = 11

abbrev pub assign : ℕ
assign = 12

-- the value words
abbrev pub this_word : ℕ
this_word = 23

abbrev pub null_word : ℕ
null_word = 24

abbrev pub true_word : ℕ
true_word = 25

abbrev pub false_word : ℕ
false_word = 26

-- operators before their operand
abbrev pub new_word : ℕ
new_word = 28

abbrev pub delete_word : ℕ
delete_word = 31

abbrev pub void_word : ℕ
void_word = 32

abbrev pub typeof_word : ℕ
typeof_word = 33

abbrev pub increment : ℕ
increment = 34

abbrev pub decrement : ℕ
decrement = 35

abbrev pub complement : ℕ
complement = 38

abbrev pub negation : ℕ
negation = 39

-- operators between two operands
abbrev pub multiply : ℕ
multiply = 40

abbrev pub remainder : ℕ
remainder = 41

abbrev pub minus : ℕ
minus = 42

abbrev pub left_shift : ℕ
left_shift = 43

abbrev pub right_shift : ℕ
right_shift = 44

abbrev pub unsigned_shift : ℕ
unsigned_shift = 45

abbrev pub less : ℕ
less = 46

abbrev pub greater : ℕ
greater = 47

abbrev pub at_most : ℕ
at_most = 48

abbrev pub at_least : ℕ
at_least = 49

abbrev pub instanceof_word : ℕ
instanceof_word = 50

abbrev pub in_word : ℕ
in_word = 51

abbrev pub equal : ℕ
equal = 52

abbrev pub unequal : ℕ
unequal = 53

abbrev pub identical : ℕ
identical = 54

abbrev pub unidentical : ℕ
unidentical = 55

abbrev pub bit_and : ℕ
bit_and = 56

abbrev pub bit_xor : ℕ
bit_xor = 57

abbrev pub bit_or : ℕ
bit_or = 58

abbrev pub logical_and : ℕ
logical_and = 59

abbrev pub logical_or : ℕ
logical_or = 60

-- `?`
abbrev pub question : ℕ
question = 61

-- assignments
abbrev pub multiply_assign : ℕ
multiply_assign = 62

abbrev pub divide_assign : ℕ
divide_assign = 63

abbrev pub remainder_assign : ℕ
remainder_assign = 64

abbrev pub plus_assign : ℕ
plus_assign = 65

abbrev pub minus_assign : ℕ
minus_assign = 66

abbrev pub left_shift_assign : ℕ
left_shift_assign = 67

abbrev pub right_shift_assign : ℕ
right_shift_assign = 68

abbrev pub unsigned_shift_assign : ℕ
unsigned_shift_assign = 69

abbrev pub and_assign : ℕ
and_assign = 70

abbrev pub xor_assign : ℕ
xor_assign = 71

abbrev pub or_assign : ℕ
or_assign = 72

-- `,`, which marks a part where it is an operator
abbrev pub comma : ℕ
comma = 73

-- words of statements (document 02, U6), which have the number of the part that they mark: `for` that with two `;`, `continue` and `break` that with a label
abbrev pub var_word : ℕ
var_word = 74

abbrev pub else_word : ℕ
else_word = 77

abbrev pub do_word : ℕ
do_word = 78

abbrev pub while_word : ℕ
while_word = 79

abbrev pub for_word : ℕ
for_word = 80

abbrev pub continue_word : ℕ
continue_word = 83

abbrev pub break_word : ℕ
break_word = 85

abbrev pub with_word : ℕ
with_word = 86

abbrev pub switch_word : ℕ
switch_word = 87

abbrev pub case_word : ℕ
case_word = 88

abbrev pub default_word : ℕ
default_word = 89

abbrev pub throw_word : ℕ
throw_word = 90

abbrev pub try_word : ℕ
try_word = 91

abbrev pub catch_word : ℕ
catch_word = 92

abbrev pub finally_word : ℕ
finally_word = 93

abbrev pub debugger_word : ℕ
debugger_word = 94

-- the others have numbers from 128 up, which meet no kind of a part. 128 is the end of the text (Machine.antt of `machine`), and a closer has the number
-- behind its opener's
abbrev pub colon : ℕ
colon = 129

abbrev pub semicolon : ℕ
semicolon = 130

abbrev pub dot : ℕ
dot = 131

abbrev pub open_paren : ℕ
open_paren = 132

abbrev pub close_paren : ℕ
close_paren = 133

abbrev pub open_brace : ℕ
open_brace = 134

abbrev pub close_brace : ℕ
close_brace = 135

abbrev pub return_word : ℕ
return_word = 136

abbrev pub function_word : ℕ
function_word = 137

abbrev pub if_word : ℕ
if_word = 138

-- a reserved word that is taken as a name
abbrev pub word_name : ℕ
word_name = 139

abbrev pub open_bracket : ℕ
open_bracket = 140

abbrev pub close_bracket : ℕ
close_bracket = 141
