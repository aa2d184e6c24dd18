-- Document 01, Refused texts (document 02, U4: "8 no longer occurs"): rows 2 to 7, the numbers of the faults that elements and comments have of their own, and then the number and
-- the place of each row's fault.
use Rattle.std.specs.Prelude.{ℕ, Result, Ok, Err}
use Rattle.answers.specs.declared.Answer.{Answer}
use Rattle.answers.specs.declared.faults.Fault.{Fault}

-- "illegal byte, or one starting no element"; place: it
abbrev pub stray : ℕ
stray = 2

-- "a line end or the text's end comes before the closing quote, after a backslash too"; place: the quote
abbrev pub open_string : ℕ
open_string = 3

-- "the same in a regular expression"; place: the slash
abbrev pub open_pattern : ℕ
open_pattern = 4

-- "no `*/`"; place: its `/`
abbrev pub open_comment : ℕ
open_comment = 5

-- document 02, U4: "6 now only when a digit or name byte follows directly"; place: its first byte
abbrev pub bad_number : ℕ
bad_number = 6

-- "reserved word not taken here", unless it is a name (document 02, U1 and U2); place: its first byte
abbrev pub barred_word : ℕ
barred_word = 7

-- the number of a fault's row. Rows 1, 9 to 12 and 13 to 15 are those of reading a whole text, of its levels, and of parsing and respacing; their definitions
-- stand with what they refuse
abbrev pub fault_number : Fault → ℕ
fault_number (Fault.Long at) = 1
fault_number (Fault.Stray at) = stray
fault_number (Fault.OpenString at) = open_string
fault_number (Fault.OpenPattern at) = open_pattern
fault_number (Fault.OpenComment at) = open_comment
fault_number (Fault.BadNumber at) = bad_number
fault_number (Fault.BarredWord at) = barred_word
fault_number (Fault.Deep at) = 9
fault_number (Fault.WrongCloser at) = 10
fault_number (Fault.Unclosed at) = 11
fault_number (Fault.TreesFull at) = 12
fault_number (Fault.NoProgram at) = 13
fault_number (Fault.SyntaxFull at) = 14
fault_number (Fault.OutputFull at) = 15

-- its place
abbrev pub fault_place : Fault → ℕ
fault_place (Fault.Long at) = at
fault_place (Fault.Stray at) = at
fault_place (Fault.OpenString at) = at
fault_place (Fault.OpenPattern at) = at
fault_place (Fault.OpenComment at) = at
fault_place (Fault.BadNumber at) = at
fault_place (Fault.BarredWord at) = at
fault_place (Fault.Deep at) = at
fault_place (Fault.WrongCloser at) = at
fault_place (Fault.Unclosed at) = at
fault_place (Fault.TreesFull at) = at
fault_place (Fault.NoProgram at) = at
fault_place (Fault.SyntaxFull at) = at
fault_place (Fault.OutputFull at) = at

-- the answer that refuses a text for a fault: "refused with number and place"
abbrev pub refusal : Fault → Answer
refusal fault = Answer.Refused (fault_number fault) (fault_place fault)

-- the answer of what ends with a count or a fault
abbrev pub answered : Result ℕ Fault → Answer
answered (Ok count) = Answer.Accepted count
answered (Err fault) = refusal fault
