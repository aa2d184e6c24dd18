-- Rows of statements, by the classes that they list.
use mathlib.Core.Path.{◌≡◌, refl, ◌∙◌}
use mathlib.Core.Bool.{Bool, true, false}
use mathlib.Core.List.{List, [], ◌∷◌}
use Prim.Native.Nat.{ℕ, ◌≤◌, ◌<◌}
use native.Mathlib.Omega.{arith}
use borrow.Author.Tests.{ne_eqb}
use lib.Dec.{T, eqb, ltb, leb, ltb→lt, leb→le}
use Rattle.machine.specs.Tokens.{name, semicolon, comma, open_paren, open_brace, open_bracket, close_paren, close_brace, close_bracket, new_word, var_word, do_word, while_word, for_word, continue_word, break_word, with_word, switch_word, case_word, default_word, throw_word, try_word, debugger_word, return_word, function_word, if_word}
use Rattle.machine.specs.Operators.{prefix_operators, prefix_kind}
use Rattle.machine.specs.Scopes.{array_elements, body, block}
use Rattle.machine.specs.Machinery.Machine.{end_of_text, Setting, among, in_clause, no_target, some_target, Ending, by_statement, by_paren, declared, Control, statement_due, function_first, operand_due, member_due, operand_done, item_due, hold_word, take_leaf, take_prefix, to_parens, to_array, Entry, on, fail, goto, push, look, primaries, values, word_row, beginnings, operand, no_statement, row}
use Rattle.std.specs.Prelude.{Option}
use Rattle.controls.specs.declared.Setting as settings
use Rattle.controls.specs.declared.Setting.TheVariants.{Body, Block}
use Rattle.controls.specs.declared.Step.{Step}
use Rattle.controls.specs.Machinery.Numbers.{setting_by, must_by}
use Rattle.controls.specs.Machinery.Steps.{Means}
use Rattle.controls.proofs.EndLaws.{NoCloser, at_closers, besides_closers}
use Rattle.controls.proofs.ClassLaws.{not_among}
use Rattle.forms.proofs.EntryLaws.{other_entry}

module _ (class : ℕ) where
  -- where a statement is due, a class that starts none of four kinds may be a word, start an operand, or end the level
  statement_words : (class ≡ name → ⊥) → (class ≡ if_word → ⊥) → (class ≡ return_word → ⊥) → (class ≡ open_brace → ⊥)
      → (must : Bool) (setting : Setting) (newline : Bool)
      → look class (row (statement_due must setting) newline)
      ≡ look class (word_row setting (beginnings (by_statement setting) some_target (no_statement must setting)))
  statement_words no_name no_if no_return no_block must setting newline =
      simp (ne_eqb class name no_name, ne_eqb class open_brace no_block, ne_eqb class if_word no_if, ne_eqb class return_word no_return)

  -- what a place that needs no statement takes besides: in a body, and elsewhere; the code says of clauses that one must come
  pub below_body : look class (no_statement false (among block)) ≡ fail → (setting : settings.Setting) → (setting ≡ Body → ⊥)
      → look class (no_statement (must_by false setting) (setting_by setting)) ≡ fail
  below_body none Body other = absurd (other refl)
  below_body none Block other = none
  below_body none _ other = refl

  pub nothing_else : (class ≡ function_word → ⊥) → (must : Bool) (setting : settings.Setting) → NoCloser class
      → look class (no_statement (must_by must setting) (setting_by setting)) ≡ fail
  nothing_else no-function true setting h = refl
  nothing_else no-function false Body h = rw (ne_eqb class function_word no-function, h.no_brace, h.no_text)
  nothing_else no-function false Block h = below_body (rw h.no_brace) Block (λ e. cc)
  nothing_else no-function false _ h = refl

-- a class that starts no statement of its own starts an operand, or ends the level
pub statement_operand : {class : ℕ} → (class ≡ name → ⊥) → (class ≡ if_word → ⊥) → (class ≡ return_word → ⊥) → (class ≡ open_brace → ⊥)
    → (class ≡ function_word → ⊥) → (class ≡ semicolon → ⊥) → ((word : ℕ) → comma < word → word ≤ debugger_word → class ≡ word → ⊥)
    → {from : Control} {step : Option Step} (must : Bool) (setting : Setting) (newline : Bool)
    → (NoCloser class → look class (no_statement must setting) ≡ fail)
    → Means from class step (look class (operand (by_statement setting) some_target))
    → Means from class step (look class (row (statement_due must setting) newline))
statement_operand {class} no_name no_if no_return no_block no-function no-semicolon no_word must setting newline none m =
    rw (statement_words class no_name no_if no_return no_block must setting newline, past_words)
    (besides_closers (rw only_beginnings at m)
    (at_closers (λ (k : ℕ). look k (beginnings (by_statement setting) some_target []) ≡ fail) refl refl refl refl class)
    (λ h. rw (none h)))
  where
    other : (word : ℕ) → T (ltb comma word) → T (leb word debugger_word) → eqb class word ≡ false
    other word low high = ne_eqb class word (no_word word (ltb→lt comma word low) (leb→le word debugger_word high))

    past_words : look class (word_row setting (beginnings (by_statement setting) some_target (no_statement must setting)))
        ≡ look class (beginnings (by_statement setting) some_target (no_statement must setting))
    past_words =
        simp (ne_eqb class semicolon no-semicolon, other var_word tt tt, other do_word tt tt, other for_word tt tt, other switch_word tt tt, other throw_word tt tt, other try_word tt tt, other debugger_word tt tt, other while_word tt tt, other with_word tt tt, other continue_word tt tt, other break_word tt tt)

    only_beginnings : look class (operand (by_statement setting) some_target) ≡ look class (beginnings (by_statement setting) some_target [])
    only_beginnings = simp (ne_eqb class name no_name, ne_eqb class open_brace no_block, ne_eqb class function_word no-function)

-- the words between `,` and the signs start no operand, and end no level
module _ {class : ℕ} (past : comma < class) (few : class ≤ debugger_word) where
  no_sign : (x : ℕ) → T (ltb debugger_word x) → class ≡ x → ⊥
  no_sign x high e = omega (arith, few, ltb→lt debugger_word x high)

  no_closing : NoCloser class
  no_closing = record {
    no_paren = ne_eqb class close_paren (no_sign close_paren tt);
    no_brace = ne_eqb class close_brace (no_sign close_brace tt);
    no_bracket = ne_eqb class close_bracket (no_sign close_bracket tt);
    no_text = ne_eqb class end_of_text (no_sign end_of_text tt);
  }

  no_beginning : (ending : Ending) (rest : List Entry) → look class (beginnings ending some_target rest) ≡ look class rest
  no_beginning ending rest =
      other_entry class (λ class. goto (operand_due ending no_target) (take_prefix (prefix_kind class))) prefix_operators (primaries ending some_target rest) (not_among prefix_operators comma tt class (omega arith))
      ∙ other_entry class (λ class. goto (operand_done ending some_target) (take_leaf class)) values groups (not_among values comma tt class (omega arith))
      ∙ rw (ne_eqb class open_paren (no_sign open_paren tt), ne_eqb class open_bracket (no_sign open_bracket tt), ne_eqb class new_word (λ e. omega arith))
    where
      groups : List Entry
      groups =
          on open_paren (push (operand_due by_paren some_target) (operand_done ending some_target) to_parens)
          ∷ on open_bracket (push (item_due array_elements) (operand_done ending some_target) to_array)
          ∷ on new_word (goto (member_due ending some_target) (take_prefix new_word))
          ∷ rest

  pub statement_word : (must : Bool) (setting : Setting) (newline : Bool) → (NoCloser class → look class (no_statement must setting) ≡ fail)
      → look class (row (statement_due must setting) newline) ≡ look class (word_row setting [])
  statement_word must setting newline none =
      statement_words class (λ e. omega arith) (no_sign if_word tt) (no_sign return_word tt) (no_sign open_brace tt) must setting newline
      ∙ rw (no_beginning (by_statement setting) (no_statement must setting), none no_closing)

-- what does not end the statements of a clause
pub clause_goes_on : (class : ℕ) → (class ≡ case_word → ⊥) → (class ≡ default_word → ⊥) → (class ≡ close_brace → ⊥)
    → look class (no_statement false in_clause) ≡ fail
clause_goes_on class a b c = rw (ne_eqb class case_word a, ne_eqb class default_word b, ne_eqb class close_brace c)

-- a function is declared where no statement must come
pub declares : {step : Option Step} → Means (statement_due false (among body)) function_word step (goto (function_first declared) hold_word) → (must : Bool)
    → look function_word (no_statement must (among body)) ≡ goto (function_first declared) hold_word
    → Means (statement_due must (among body)) function_word step (look function_word (no_statement must (among body)))
declares m true e =
    let z : ◌≡◌ {A = ℕ} 0 1 = cc in
    absurd (omega arith)
declares m false e = m
