-- The readings that document 01 marks (M), those of document 02, U1, six with lists, twelve with operators and numbers and eighteen with statements hold of
-- the definitions.
use lib.Dec.{T}
use Rattle.text.specs.Bytes.{blank, line_end, illegal, letter, digit, name_byte}
use Rattle.text.specs.Runs
use Rattle.words.specs.Words.{place_in, word_number, taken}
use Rattle.signs.specs.Signs.{longest_sign, longest_of}
use Rattle.gaps.specs.Gaps.{gap}
use Rattle.numbers.specs.Numbers.{hex_digit, hex_length, integer_length, fraction_length, exponent_length, decimal_length, number_length, number_from}
use Rattle.literals.specs.Strings.{quote, string_rest}
use Rattle.literals.specs.Patterns.{pattern_rest}
use Rattle.elements.specs.Elements.{element_at, element_from, named, delimiter}
use Rattle.rule.specs.Trees.{count}
use Rattle.rule.specs.Rule.{element_class, group_class, backwards, opens_object, opens_pattern, names_word, unanswered, settled_kind}
use Rattle.prefix.specs.Reading.{step, proceed, read_on, reading}
use Rattle.storing.specs.Records.{records}
use Rattle.reading.specs.Read.{reading_for}
use Rattle.derivations.specs.Tokens.{class_of, tokens_from}
use Rattle.machine.specs.Syntax.{syntax_records}
use Rattle.derivations.specs.TreeElements.{elements_of}
use Rattle.parsing.specs.Parse.{state_after, parsing_for}
use Rattle.spacing.specs.Respaced.{add_element, add_closer, add_trees}
use Rattle.respacer.specs.Respace.{whole_reading}
use Rattle.marked.specs.Marked.{all_hold, readings}

pub all_hold_lem : T (all_hold readings)
unfolding blank line_end illegal letter digit name_byte Runs.run Runs.same place_in word_number taken longest_sign longest_of gap hex_digit hex_length integer_length fraction_length exponent_length decimal_length number_length number_from quote string_rest pattern_rest element_at element_from named delimiter count element_class group_class backwards opens_object opens_pattern names_word unanswered settled_kind step proceed read_on reading records reading_for class_of tokens_from syntax_records elements_of state_after parsing_for add_element add_closer add_trees whole_reading
all_hold_lem = tt
