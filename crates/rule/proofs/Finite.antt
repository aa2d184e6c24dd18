-- A rule of all summaries, and of all classes of trees, proved by one test that antt computes over all of them.
use mathlib.Core.Bool.{Bool, true, false, ◌&&◌}
use mathlib.Core.List.{List, [], ◌∷◌}
use lib.Dec.{T}
use Rattle.text.proofs.Range.{and_left, and_right}
use Rattle.text.proofs.Members.{Has, here, there, all_in, at}
use Rattle.rule.specs.Rule.{Class, name, value, operator, question, answer, colon, dot, comma, semicolon, other, return_word, function_word, head_word, parens, brackets, object, block}
use Rattle.rule.specs.Machinery.Summary.{
  Summary,
  nothing,
  operand,
  after_operator,
  after_separator,
  after_dot,
  after_comma,
  after_other,
  after_return,
  after_head_word,
  after_head,
  after_block,
  after_function,
  after_function_name,
  after_function_parens,
}

abbrev bools : List Bool
bools = true ∷ false ∷ []

a_bool : (b : Bool) → Has b bools
a_bool true = here
a_bool false = there here

abbrev pub both_bools : (Bool → Bool) → Bool
both_bools P = all_in P bools

pub at_bool : (P : Bool → Bool) → T (both_bools P) → (b : Bool) → T (P b)
at_bool P t b = at P (a_bool b) t

abbrev classes : List Class
classes = name ∷ value ∷ operator ∷ question ∷ answer ∷ colon ∷ dot ∷ comma ∷ semicolon ∷ other ∷ return_word ∷ function_word ∷ head_word ∷ parens ∷ brackets ∷ object ∷ block ∷ []

a_class : (c : Class) → Has c classes
a_class name = here
a_class value = there here
a_class operator = there (there here)
a_class question = there (there (there here))
a_class answer = there (there (there (there here)))
a_class colon = there (there (there (there (there here))))
a_class dot = there (there (there (there (there (there here)))))
a_class comma = there (there (there (there (there (there (there here))))))
a_class semicolon = there (there (there (there (there (there (there (there here)))))))
a_class other = there (there (there (there (there (there (there (there (there here))))))))
a_class return_word = there (there (there (there (there (there (there (there (there (there here)))))))))
a_class function_word = there (there (there (there (there (there (there (there (there (there (there here))))))))))
a_class head_word = there (there (there (there (there (there (there (there (there (there (there (there here)))))))))))
a_class parens = there (there (there (there (there (there (there (there (there (there (there (there (there here))))))))))))
a_class brackets = there (there (there (there (there (there (there (there (there (there (there (there (there (there here)))))))))))))
a_class object = there (there (there (there (there (there (there (there (there (there (there (there (there (there (there here))))))))))))))
a_class block = there (there (there (there (there (there (there (there (there (there (there (there (there (there (there (there here)))))))))))))))

abbrev pub all_classes : (Class → Bool) → Bool
all_classes P = all_in P classes

pub at_class : (P : Class → Bool) → T (all_classes P) → (c : Class) → T (P c)
at_class P t c = at P (a_class c) t

-- the last three hold a Boolean
abbrev plain : List Summary
plain = nothing ∷ operand ∷ after_operator ∷ after_separator ∷ after_dot ∷ after_comma ∷ after_other ∷ after_return ∷ after_head_word ∷ after_head ∷ after_block ∷ []

abbrev of_functions : List (Bool → Summary)
of_functions = after_function ∷ after_function_name ∷ after_function_parens ∷ []

abbrev all_plain : (Summary → Bool) → Bool
all_plain P = all_in P plain

abbrev all_of_functions : (Summary → Bool) → Bool
all_of_functions P = all_in (λ f. both_bools λ inObject. P (f inObject)) of_functions

abbrev pub all_summaries : (Summary → Bool) → Bool
all_summaries P = all_plain P && all_of_functions P

module _ (P : Summary → Bool) (t : T (all_summaries P)) where
  at_plain : {s : Summary} → Has s plain → T (P s)
  at_plain h = at P h (and_left (all_plain P) (all_of_functions P) t)

  at_function : {f : Bool → Summary} → Has f of_functions → (inObject : Bool) → T (P (f inObject))
  at_function {f} h inObject =
      at_bool (λ inObject. P (f inObject)) (at (λ f. both_bools λ inObject. P (f inObject)) h (and_right (all_plain P) (all_of_functions P) t)) inObject

  pub at_summary : (s : Summary) → T (P s)
  at_summary nothing = at_plain here
  at_summary operand = at_plain (there here)
  at_summary after_operator = at_plain (there (there here))
  at_summary after_separator = at_plain (there (there (there here)))
  at_summary after_dot = at_plain (there (there (there (there here))))
  at_summary after_comma = at_plain (there (there (there (there (there here)))))
  at_summary after_other = at_plain (there (there (there (there (there (there here))))))
  at_summary after_return = at_plain (there (there (there (there (there (there (there here)))))))
  at_summary after_head_word = at_plain (there (there (there (there (there (there (there (there here))))))))
  at_summary after_head = at_plain (there (there (there (there (there (there (there (there (there here)))))))))
  at_summary after_block = at_plain (there (there (there (there (there (there (there (there (there (there here))))))))))
  at_summary (after_function inObject) = at_function here inObject
  at_summary (after_function_name inObject) = at_function (there here) inObject
  at_summary (after_function_parens inObject) = at_function (there (there here)) inObject
