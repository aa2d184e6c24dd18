-- Rows inside forms, by the classes that they list.
use mathlib.Core.Path.{◌≡◌, refl, sym, ◌∙◌, ap, subst}
use mathlib.Core.Bool.{Bool, true, false, cond}
use mathlib.Core.List.{List, [], ◌∷◌}
use Prim.Native.Nat.{ℕ}
use borrow.Author.Tests.{eqb-true, ne_eqb}
use lib.Dec.{T, eqb}
use Rattle.machine.specs.Tokens.{name, new_word, colon, open_paren, open_brace, open_bracket, function_word}
use Rattle.machine.specs.Operators.{prefix_operators, prefix_kind, is_among}
use Rattle.machine.specs.Scopes.{array_elements, object_properties}
use Rattle.machine.specs.Machinery.Machine.{Setting, Target, no_target, some_target, Ending, by_paren, operand_in, statement_due, name_first, operand_due, member_due, operand_done, function_first, item_due, take_leaf, take_prefix, take_label, hold_word, to_parens, to_array, to_object, Entry, on, Action, fail, goto, push, look, values, primaries, operand, member, no_parameter, row}
use Rattle.machine.specs.Machinery.Classes.{is_leaf, is_end, is_single}
use Rattle.controls.proofs.ClassLaws.{among_all, among_apart, leaf_among}
use Rattle.controls.proofs.EndLaws.{NoCloser, at_closers}
use Rattle.forms.proofs.EntryLaws.{among_entry, other_entry}

module _ (class : ℕ) (ending : Ending) (target : Target) where
  -- what `primaries` has besides values
  abbrev groups : List Entry
  groups =
      on open_paren (push (operand_due by_paren some_target) (operand_done ending target) to_parens)
      ∷ on open_bracket (push (item_due array_elements) (operand_done ending target) to_array)
      ∷ on new_word (goto (member_due ending target) (take_prefix new_word))
      ∷ []

  -- the leaves at once
  pub leaf_row : is_leaf class ≡ true → (look class (member ending target) ≡ goto (operand_done ending target) (take_leaf class)) × T (is_single class)
  leaf_row is = go (eqb class name) refl (sym (leaf_among class) ∙ is)
    where
      go : (b : Bool) → eqb class name ≡ b → cond b true (is_among values class) ≡ true
          → (look class (member ending target) ≡ goto (operand_done ending target) (take_leaf class)) × T (is_single class)
      go true e is = rw (eqb-true class name e) (refl, tt)
      go false e is = (
        rw (e, among_apart class values open_brace refl is, among_apart class values function_word refl is)
            (among_entry class (λ class. goto (operand_done ending target) (take_leaf class)) values groups is),
        among_all class is_single values tt is,
      )

  -- operators before an operand at once, and what is no such operator
  pub prefix_row : is_among prefix_operators class ≡ true
      → (look class (operand ending target) ≡ goto (operand_due ending no_target) (take_prefix (prefix_kind class))) × T (is_single class)
  prefix_row is = (
    rw (among_apart class prefix_operators name refl is, among_apart class prefix_operators open_brace refl is, among_apart class prefix_operators function_word refl is)
        (among_entry class (λ class. goto (operand_due ending no_target) (take_prefix (prefix_kind class))) prefix_operators (primaries ending target []) is),
    among_all class is_single prefix_operators tt is,
  )

  pub no_prefix_row : is_among prefix_operators class ≡ false → look class (operand ending target) ≡ look class (member ending target)
  no_prefix_row none =
      ap (λ (x : Action). cond (eqb class name) (goto (operand_done ending target) (take_leaf name)) (cond (eqb class open_brace) (push (item_due object_properties) (operand_done ending target) to_object) (cond (eqb class function_word) (goto (function_first (operand_in ending target)) hold_word) x)))
      (other_entry class (λ class. goto (operand_due ending no_target) (take_prefix (prefix_kind class))) prefix_operators (primaries ending target []) none)

  -- a class that starts no operand
  pub no_member : is_leaf class ≡ false → (class ≡ open_paren → ⊥) → (class ≡ open_brace → ⊥) → (class ≡ open_bracket → ⊥) → (class ≡ function_word → ⊥)
      → (class ≡ new_word → ⊥) → look class (member ending target) ≡ fail
  no_member none a b c d e = go (eqb class name) refl (sym (leaf_among class) ∙ none)
    where
      go : (t : Bool) → eqb class name ≡ t → cond t true (is_among values class) ≡ false → look class (member ending target) ≡ fail
      go true e none = absurd (subst T none tt)
      go false f none =
          rw (f, ne_eqb class open_brace b, ne_eqb class function_word d)
          (other_entry class (λ class. goto (operand_done ending target) (take_leaf class)) values groups none
          ∙ rw (ne_eqb class open_paren a, ne_eqb class open_bracket c, ne_eqb class new_word e))

-- a name that is held, before `:`
pub label_row : (class : ℕ) (setting : Setting) (newline : Bool) → class ≡ colon
    → look class (row (name_first setting) newline) ≡ look class (on colon (goto (statement_due true setting) take_label) ∷ [])
label_row class setting newline e = rw e

-- no operand starts with a closer
pub operand_closers : (ending : Ending) (target : Target) (class : ℕ) → T (is_end class) → look class (operand ending target) ≡ fail
operand_closers ending target = at_closers (λ (k : ℕ). look k (operand ending target) ≡ fail) refl refl refl refl

-- what a place that needs no parameter takes besides is a closer
pub parameter_closers : {class : ℕ} (must : Bool) → NoCloser class → look class (no_parameter must) ≡ fail
parameter_closers true h = refl
parameter_closers false h = rw h.no_paren
