-- Rows behind operands, by what ends the expression and the classes that they list.
use mathlib.Core.Path.{◌≡◌, refl, ◌∙◌}
use mathlib.Core.Bool.{Bool, true, false, cond}
use mathlib.Core.List.{List, [], ◌∷◌}
use Prim.Native.Nat.{ℕ, ◌≤◌}
use native.Mathlib.Omega.{arith}
use borrow.Author.Tests.{ne_eqb, eqb-true}
use lib.Dec.{T, eqb}
use Rattle.machine.specs.Tokens.{question, in_word, semicolon, comma, colon}
use Rattle.machine.specs.Operators.{assignment_operators, binary_operators, binary_operators_by, without, postfix_operators, postfix_kind, is_among}
use Rattle.machine.specs.Scopes.{call_arguments, array_elements, object_properties}
use Rattle.machine.specs.Machinery.Machine as machine
use Rattle.machine.specs.Machinery.Machine.{in_statement, in_head, Target, no_target, some_target, lone_target, is_target, takes_in, allows_in, later_variables, by_statement, by_return, by_variable, by_start, by_test, by_step, by_object, by_case, by_paren, by_bracket, by_colon, by_item, test_due, operand_due, postfix_done, item_due, take_operator, take_postfix, Entry, on, otherwise, Action, fail, goto, ask, look, for_each, behind_comma, comma_action, in_entry, is_first, ending_row, after_unary, assignment_row, postfix_row}
use Rattle.machine.specs.Machinery.Classes.{is_single}
use Rattle.controls.specs.declared.Setting.{Setting}
use Rattle.controls.specs.declared.Ending.{Ending}
use Rattle.controls.specs.declared.Ending.TheVariants.{Statement, Return, Variable, FirstVariable, LaterVariable, LoneStart, Start, Test, Case, LastCase, Colon, Argument, Element, Property}
use Rattle.controls.specs.Machinery.Numbers.{variables_by, ending_by, target_by}
use Rattle.controls.specs.Machinery.Steps.{takes_comma}
use Rattle.controls.proofs.EndLaws.{NoCloser}
use Rattle.controls.proofs.ClassLaws.{among_all, not_among}
use Rattle.forms.proofs.EntryLaws.{among_entry, other_entry}

module _ (setting : Setting) where
  -- `;` ends nothing past the second part of a `for`'s head
  pub semicolon_nowhere : (ending : Ending) → (ending ≡ Statement → ⊥) → (ending ≡ Return → ⊥) → (ending ≡ Variable → ⊥) → (ending ≡ FirstVariable → ⊥)
      → (ending ≡ LaterVariable → ⊥) → (ending ≡ LoneStart → ⊥) → (ending ≡ Start → ⊥) → (ending ≡ Test → ⊥)
      → look semicolon (ending_row (ending_by ending setting)) ≡ fail
  semicolon_nowhere Statement a b c d e f g h = absurd (a refl)
  semicolon_nowhere Return a b c d e f g h = absurd (b refl)
  semicolon_nowhere Variable a b c d e f g h = absurd (c refl)
  semicolon_nowhere FirstVariable a b c d e f g h = absurd (d refl)
  semicolon_nowhere LaterVariable a b c d e f g h = absurd (e refl)
  semicolon_nowhere LoneStart a b c d e f g h = absurd (f refl)
  semicolon_nowhere Start a b c d e f g h = absurd (g refl)
  semicolon_nowhere Test a b c d e f g h = absurd (h refl)
  semicolon_nowhere _ a b c d e f g h = refl

  -- `:` ends the value of a `case` and the middle of a conditional, and nothing else
  pub colon_nowhere : (ending : Ending) → (ending ≡ Colon → ⊥) → (ending ≡ Case → ⊥) → (ending ≡ LastCase → ⊥)
      → look colon (ending_row (ending_by ending setting)) ≡ fail
  colon_nowhere Colon a b c = absurd (a refl)
  colon_nowhere Case a b c = absurd (b refl)
  colon_nowhere LastCase a b c = absurd (c refl)
  colon_nowhere _ a b c = refl

  -- before the first `;` of a `for`'s head `in` is no operator
  pub allowed_in : (ending : Ending) → (ending ≡ FirstVariable → ⊥) → (ending ≡ LaterVariable → ⊥) → (ending ≡ LoneStart → ⊥) → (ending ≡ Start → ⊥)
      → T (allows_in (ending_by ending setting))
  allowed_in FirstVariable a b c d = absurd (a refl)
  allowed_in LaterVariable a b c d = absurd (b refl)
  allowed_in LoneStart a b c d = absurd (c refl)
  allowed_in Start a b c d = absurd (d refl)
  allowed_in _ a b c d = tt

  -- where `,` is an operator
  pub comma_taken : (ending : Ending) → (ending ≡ Variable → ⊥) → (ending ≡ FirstVariable → ⊥) → (ending ≡ LaterVariable → ⊥) → (ending ≡ Colon → ⊥)
      → (ending ≡ Argument → ⊥) → (ending ≡ Element → ⊥) → (ending ≡ Property → ⊥) → T (takes_comma (ending_by ending setting))
  comma_taken Variable a b c d e f g = absurd (a refl)
  comma_taken FirstVariable a b c d e f g = absurd (b refl)
  comma_taken LaterVariable a b c d e f g = absurd (c refl)
  comma_taken Colon a b c d e f g = absurd (d refl)
  comma_taken Argument a b c d e f g = absurd (e refl)
  comma_taken Element a b c d e f g = absurd (f refl)
  comma_taken Property a b c d e f g = absurd (g refl)
  comma_taken _ a b c d e f g = tt

  -- later variables stay later ones
  pub later_same : (ending : Ending) → (ending ≡ FirstVariable → ⊥) → later_variables (variables_by ending setting) ≡ variables_by ending setting
  later_same FirstVariable other = absurd (other refl)
  later_same _ other = refl

  pub not_first : (ending : Ending) → (ending ≡ FirstVariable → ⊥) → is_first (variables_by ending setting) ≡ false
  not_first FirstVariable other = absurd (other refl)
  not_first _ other = refl

-- a chain that may be assigned to
pub some-target : (ending : Ending) → (ending ≡ LoneStart → ⊥) → target_by ending true ≡ some_target
some-target LoneStart other = absurd (other refl)
some-target _ other = refl

pub is-target : (ending : Ending) → T (is_target (target_by ending true))
is-target LoneStart = tt
is-target _ = tt

pub comma_operator : (ending : machine.Ending) → T (takes_comma ending) → look comma (ending_row ending) ≡ comma_action ending
comma_operator (by_statement setting) t = refl
comma_operator (by_return setting) t = refl
comma_operator (by_variable place) t = absurd t
comma_operator by_start t = refl
comma_operator by_test t = refl
comma_operator by_step t = refl
comma_operator by_object t = refl
comma_operator (by_case seen) t = refl
comma_operator by_paren t = refl
comma_operator by_bracket t = refl
comma_operator by_colon t = absurd t
comma_operator (by_item items) t = absurd t

-- `in` as an operator
in_operator : (within : Bool) → T within → (action : ℕ → Action) (rest : List Entry)
    → (look in_word (for_each action (binary_operators_by within) rest) ≡ action in_word) × T (is_among (binary_operators_by within) in_word)
in_operator true t action rest = (refl, tt)
in_operator false t action rest = absurd t

pub in_next : (ending : machine.Ending) → T (allows_in ending)
    → (look in_word (after_unary ending) ≡ goto (operand_due ending no_target) (take_operator in_word))
    × T (is_among (binary_operators_by (allows_in ending)) in_word)
in_next ending t =
    in_operator (allows_in ending) t (λ class. goto (operand_due ending no_target) (take_operator class)) (on question (ask ending) ∷ ending_row ending)

-- but for `in`, binary operators are the same everywhere
among_without : (x class : ℕ) → eqb class x ≡ false → (classes : List ℕ) → is_among (without x classes) class ≡ is_among classes class
among_without x class other [] = refl
among_without x class other (y ∷ rest) = go (eqb y x) refl (among_without x class other rest)
  where
    go : (b : Bool) → eqb y x ≡ b → is_among (without x rest) class ≡ is_among rest class
        → is_among (cond b (without x rest) (y ∷ without x rest)) class ≡ cond (eqb class y) true (is_among rest class)
    go true e h = rw (eqb-true y x e, other) h
    go false e h = rw h

module _ (class : ℕ) (no_in : class ≡ in_word → ⊥) where
  pub among_by : (within : Bool) → is_among (binary_operators_by within) class ≡ is_among binary_operators class
  among_by true = refl
  among_by false = among_without in_word class (ne_eqb class in_word no_in) binary_operators

  pub no_in_entry : (b : Bool) (rest : List Entry) → look class (in_entry b rest) ≡ look class rest
  no_in_entry true rest = rw (ne_eqb class in_word no_in)
  no_in_entry false rest = refl

  -- binary operators at once, and a class that follows no Unary
  pub binary_next : (ending : machine.Ending) → is_among binary_operators class ≡ true
      → (look class (after_unary ending) ≡ goto (operand_due ending no_target) (take_operator class)) × T (is_single class)
  binary_next ending is = (
    among_entry class (λ class. goto (operand_due ending no_target) (take_operator class)) (binary_operators_by (allows_in ending)) (on question (ask ending) ∷ ending_row ending) (among_by (allows_in ending) ∙ is),
    among_all class is_single binary_operators tt is,
  )

  pub past_operators : (ending : machine.Ending) → is_among binary_operators class ≡ false
      → look class (after_unary ending) ≡ look class (on question (ask ending) ∷ ending_row ending)
  past_operators ending none =
      other_entry class (λ class. goto (operand_due ending no_target) (take_operator class)) (binary_operators_by (allows_in ending)) (on question (ask ending) ∷ ending_row ending) (among_by (allows_in ending) ∙ none)

  pub none_next : (ending : machine.Ending) → is_among binary_operators class ≡ false → (class ≡ semicolon → ⊥) → (class ≡ comma → ⊥) → (class ≡ question → ⊥)
      → (class ≡ colon → ⊥) → NoCloser class → look class (after_unary ending) ≡ fail
  none_next ending none a b c d h = past_operators ending none ∙ rw (ne_eqb class question c) (ends ending)
    where
      ends : (ending : machine.Ending) → look class (ending_row ending) ≡ fail
      ends (by_statement setting) = rw (ne_eqb class semicolon a, ne_eqb class comma b)
      ends (by_return setting) = rw (ne_eqb class semicolon a, ne_eqb class comma b)
      ends (by_variable place) = rw (ne_eqb class semicolon a, ne_eqb class comma b) (no_in_entry (is_first place) [])
      ends by_start = rw (ne_eqb class semicolon a, ne_eqb class comma b)
      ends by_test = rw (ne_eqb class semicolon a, ne_eqb class comma b)
      ends by_step = rw (h.no_paren, ne_eqb class comma b)
      ends by_object = rw (h.no_paren, ne_eqb class comma b)
      ends (by_case seen) = rw (ne_eqb class colon d, ne_eqb class comma b)
      ends by_paren = rw (h.no_paren, ne_eqb class comma b)
      ends by_bracket = rw (h.no_bracket, ne_eqb class comma b)
      ends by_colon = rw (ne_eqb class colon d)
      ends (by_item call_arguments) = rw (ne_eqb class comma b, h.no_paren)
      ends (by_item array_elements) = rw (ne_eqb class comma b, h.no_bracket)
      ends (by_item object_properties) = rw (ne_eqb class comma b, h.no_brace)

-- `++` and `--`, and assignments
module _ (class : ℕ) (ending : machine.Ending) (rest : List Entry) where
  pub postfix_next : is_among postfix_operators class ≡ true
      → (look class (postfix_row ending false rest) ≡ goto (postfix_done ending) (take_postfix (postfix_kind class))) × T (is_single class)
  postfix_next is = (
    among_entry class (λ class. goto (postfix_done ending) (take_postfix (postfix_kind class))) postfix_operators rest is,
    among_all class is_single postfix_operators tt is,
  )

  pub no_postfix : is_among postfix_operators class ≡ false → (newline : Bool) → look class (postfix_row ending newline rest) ≡ look class rest
  no_postfix none true = refl
  no_postfix none false = other_entry class (λ class. goto (postfix_done ending) (take_postfix (postfix_kind class))) postfix_operators rest none

  assigned : is_among assignment_operators class ≡ true
      → look class (for_each (λ class. goto (operand_due ending some_target) (take_operator class)) assignment_operators rest)
      ≡ goto (operand_due ending some_target) (take_operator class)
  assigned is = among_entry class (λ class. goto (operand_due ending some_target) (take_operator class)) assignment_operators rest is

  pub assignment_next : is_among assignment_operators class ≡ true → (target : Target) → T (is_target target)
      → (look class (assignment_row ending target rest) ≡ goto (operand_due ending some_target) (take_operator class)) × T (is_single class)
  assignment_next is no_target t = absurd t
  assignment_next is some_target t = (assigned is, among_all class is_single assignment_operators tt is)
  assignment_next is lone_target t = (assigned is, among_all class is_single assignment_operators tt is)

  pub no_assignment : is_among assignment_operators class ≡ false → (target : Target) → look class (assignment_row ending target rest) ≡ look class rest
  no_assignment none no_target = refl
  no_assignment none some_target = other_entry class (λ class. goto (operand_due ending some_target) (take_operator class)) assignment_operators rest none
  no_assignment none lone_target = other_entry class (λ class. goto (operand_due ending some_target) (take_operator class)) assignment_operators rest none

-- none of them has a class from that of `,` on
pub neither_next : (class : ℕ) (ending : machine.Ending) → comma ≤ class → (target : Target) (newline : Bool) (rest : List Entry)
    → look class (in_entry (takes_in ending target) (assignment_row ending target (postfix_row ending newline rest))) ≡ look class rest
neither_next class ending past target newline rest =
    no_in_entry class (λ e. omega arith) (takes_in ending target) (assignment_row ending target (postfix_row ending newline rest))
    ∙ no_assignment class ending (postfix_row ending newline rest) (not_among assignment_operators comma tt class past) target
    ∙ no_postfix class ending rest (not_among postfix_operators comma tt class past) newline
