-- Document 01, Elements: the element at a place of a text under stated answers, or the text's end, or the first fault of a
-- comment or of the element itself, "bytes of an element left to right". What is stated is two answers: whether a slash met
-- there opens a regular expression, and (document 02, U1 and U2) whether a reserved word met there is a name.
use Rattle.std.specs.Prelude.{ℕ, ◌+◌, ◌≡◌, List, [], ◌∷◌, Bool, false, not, cond, ◌&&◌, ◌||◌, eqb, get_or, take, drop, Option, None, Some, Result, Ok, Err}
use Rattle.answers.specs.Faults.{fault_number, fault_place}
use Rattle.answers.specs.declared.faults.Fault.{Fault}
use Rattle.text.specs.Quoted.{byte, bytes}
use Rattle.text.specs.Bytes.{letter, name_byte}
use Rattle.text.specs.Runs.{run}
use Rattle.words.specs.Words.{word_number, taken}
use Rattle.signs.specs.Signs.{longest_sign}
use Rattle.signs.specs.declared.Sign.{Sign}
use Rattle.answers.specs.Answers.{Tells}
use Rattle.gaps.specs.Gaps.{gap}
use Rattle.numbers.specs.Numbers.{starts_number, number_from}
use Rattle.literals.specs.Strings.{quote, string_rest}
use Rattle.literals.specs.Patterns.{pattern_rest}
use Rattle.gaps.specs.declared.Gap.{Gap}
use Rattle.elements.specs.declared.Element.{Element}
use Rattle.elements.specs.declared.Stated.{Stated}

-- Kinds of elements, as Records numbers them. A delimiter has none of its own: the kind of a brace's group is not settled by
-- its bytes. Nor are kinds 11 to 13, of `++`, `--` and `:`: here these are signs, and the prefix rule settles them (`settled_in` of Levels.antt of `rule`).
abbrev pub delimiter_kind : ℕ
delimiter_kind = 0

abbrev pub name_kind : ℕ
name_kind = 1

abbrev pub word_kind : ℕ
word_kind = 2

abbrev pub number_kind : ℕ
number_kind = 3

abbrev pub string_kind : ℕ
string_kind = 4

abbrev pub pattern_kind : ℕ
pattern_kind = 5

abbrev pub sign_kind : ℕ
sign_kind = 6

-- what is next from a place on: no element any more, an element, or the first fault
abbrev pub Next : Type 0
Next = Result (Option Element) Fault

-- the answers, together
abbrev pub stating : Bool → Bool → Stated
stating pattern name = record { pattern = pattern; name = name }

-- the element of a kind from `first` to before `end`; `which` is its number among the reserved words or the signs, else
-- 0; `newline` says whether a line end lies between it and the place from which it was looked for
abbrev pub element : ℕ → ℕ → Bool → ℕ → ℕ → Next
element kind which newline first end = Ok (Some (record { kind = kind; which = which; first = first; end = end; newline = newline }))

-- a number, string or regular expression, as it was cut
abbrev pub literal_element : ℕ → Bool → ℕ → Result ℕ Fault → Next
literal_element kind newline first (Ok end) = element kind 0 newline first end
literal_element kind newline first (Err fault) = Err fault

-- a name, which is no reserved word or (document 02, U1; U2: "without 7") one that "becomes a name (kind 1), for all 36 words, and 7 does not apply
-- there"; a reserved word that is taken here; or one that is refused
abbrev pub word_or_name : Bool → ℕ → Bool → ℕ → ℕ → Next
word_or_name asName word newline first end =
    cond (eqb word 0 || asName) (element name_kind word newline first end)
    (cond (taken word) (element word_kind word newline first end)
    (Err (Fault.BarredWord first)))

-- the number of the reserved word that a text starts with; 0 where the name there is none
abbrev pub first_word : List ℕ → ℕ
first_word s = word_number (take (run name_byte s) s)

-- "Names: letters, `$`, `_`, and digits after the first byte": the name or word at `first`, where s is the text from there on
unfoldable pub named : Bool → Bool → ℕ → List ℕ → Next
named asName newline first s = word_or_name asName (first_word s) newline first (first + run name_byte s)

-- the number of a sign
abbrev pub number_of_sign : Option Sign → ℕ
number_of_sign None = 0
number_of_sign (Some sign) = sign.number

-- the delimiters: "`( ) { }`", and `[ ]` of document 02, U2
abbrev pub paren_opener : ℕ
paren_opener = number_of_sign (longest_sign (bytes "("))

abbrev pub paren_closer : ℕ
paren_closer = number_of_sign (longest_sign (bytes ")"))

abbrev pub brace_opener : ℕ
brace_opener = number_of_sign (longest_sign (bytes "{"))

abbrev pub brace_closer : ℕ
brace_closer = number_of_sign (longest_sign (bytes "}"))

abbrev pub bracket_opener : ℕ
bracket_opener = number_of_sign (longest_sign (bytes "["))

abbrev pub bracket_closer : ℕ
bracket_closer = number_of_sign (longest_sign (bytes "]"))

unfoldable pub delimiter : ℕ → Bool
delimiter sign =
    eqb sign brace_opener || eqb sign brace_closer || eqb sign paren_opener || eqb sign paren_closer || eqb sign bracket_opener || eqb sign bracket_closer

-- "Signs: the longest of the 48 signs of ES5.1 section 7.7 is taken"; by document 02, U4, all are legal
abbrev pub sign_or_stray : Bool → ℕ → Option Sign → Next
sign_or_stray newline first None = Err (Fault.Stray first)
sign_or_stray newline first (Some sign) = element (cond (delimiter sign.number) delimiter_kind sign_kind) sign.number newline first (first + sign.len)

-- The element at `first`, where the list is the text from there on and no blank, line end or comment starts there. "A slash
-- that opens a regular expression is not a sign." An illegal byte starts no sign, so it is stray.
unfoldable pub element_from : Stated → Bool → ℕ → List ℕ → Next
element_from stated newline first [] = Ok None
element_from stated newline first (b ∷ s) =
    cond (letter b) (named stated.name newline first (b ∷ s))
    (cond (starts_number (b ∷ s)) (literal_element number_kind newline first (number_from first (b ∷ s)))
    (cond (quote b) (literal_element string_kind newline first (string_rest b first false (first + 1) s))
    (cond (stated.pattern && eqb b (byte "/")) (literal_element pattern_kind newline first (pattern_rest first false false (first + 1) s))
    (sign_or_stray newline first (longest_sign (b ∷ s))))))

-- what follows a gap
abbrev pub after_gap : List ℕ → Stated → Result Gap Fault → Next
after_gap text stated (Ok g) = element_from stated g.newline g.end (drop g.end text)
after_gap text stated (Err fault) = Err fault

-- the next element of a text from a place on, where it is stated whether a slash met there opens a regular expression, and
-- whether a reserved word met there is a name; at or past the text's end there is none
unfoldable pub element_at : List ℕ → ℕ → Stated → Next
element_at text place stated = after_gap text stated (gap place false (drop place text))

-- whether the element behind a gap would start with a slash
abbrev pub slash_after : List ℕ → Result Gap Fault → Bool
slash_after text (Ok g) = eqb (get_or text g.end 0) (byte "/")
slash_after text (Err fault) = false

-- "A slash is met where an element would start with it and no comment starts there."
unfoldable pub slash_met : List ℕ → ℕ → Bool
slash_met text place = slash_after text (gap place false (drop place text))

-- whether a text starts with a reserved word
abbrev pub starts_with_word : List ℕ → Bool
starts_with_word s = letter (get_or s 0 0) && not (eqb (first_word s) 0)

-- whether the element behind a gap would be a reserved word
abbrev pub word_after : List ℕ → Result Gap Fault → Bool
word_after text (Ok g) = starts_with_word (drop g.end text)
word_after text (Err fault) = false

-- a reserved word is met where an element would be one
unfoldable pub word_met : List ℕ → ℕ → Bool
word_met text place = word_after text (gap place false (drop place text))

-- the number that the table of refused texts gives what is met; 0 where that is no fault
abbrev pub number_of : Next → ℕ
number_of (Ok None) = 0
number_of (Ok (Some e)) = 0
number_of (Err fault) = fault_number fault

-- what stands beside it: the place of a fault, or an element's first byte; nothing, which is 0, at the text's end
abbrev pub value_of : Next → ℕ
value_of (Ok None) = 0
value_of (Ok (Some e)) = e.first
value_of (Err fault) = fault_place fault

-- What `element_at` promises of its answer, for every text, every place and all stated answers.
abbrev pub Finds : List ℕ → ℕ → Stated → Next → Type 0
Finds text place stated next =
    (next ≡ element_at text place stated) × Tells number_of value_of next (element_at text place stated)
