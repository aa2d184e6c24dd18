-- `item_row` is the machine's row where an item of a list is due, list by list.
use Prim.Native.Nat.{ℕ}
use mathlib.Core.Path.{◌≡◌, refl}
use mathlib.Core.List.{[]}
use Rattle.machine.specs.Scopes.{call_arguments, object_properties}
use Rattle.machine.specs.Machinery.Machine.{some_target, keep, by_item, item_due, property_named, fail, goto, look, names}
use Rattle.controls.specs.declared.Ending.{Ending}
use Rattle.controls.specs.declared.Ending.TheVariants.{Argument, Element}
use Rattle.controls.specs.Machinery.Numbers.{items_by}
use Rattle.controls.specs.Machinery.Steps.{due_item, to_property}
use Rattle.controls.proofs.EndLaws.{at_closers, besides_closers}
use Rattle.forms.proofs.FormLaws.{operand_closers}
use Rattle.forms.proofs.item_row.Goals as goal

properties : (ending : Ending) → (ending ≡ Argument → ⊥) → (ending ≡ Element → ⊥) → items_by ending ≡ object_properties
properties Argument no_argument no_element = absurd (no_argument refl)
properties Element no_argument no_element = absurd (no_element refl)
properties _ no_argument no_element = refl

pub returns-in-Argument : goal.returns-in-Argument
returns-in-Argument c = rw c.in-Argument.is
    (besides_closers ((rw c.in-Argument.is at c.operand_row.ensures) (item_due call_arguments) due_item tt) (operand_closers (by_item call_arguments) some_target c.args.class)
    (λ none. rw none.no_paren))

pub returns-in-Element : goal.returns-in-Element
returns-in-Element c = rw c.in-Element.is c.element_row.ensures

pub returns-in_default : goal.returns-in_default
returns-in_default c = let a = c.args in
    rw (properties a.at.ending c.in_default.not-Argument c.in_default.not-Element)
    (besides_closers (c.only_names.ensures _ to_property)
    (at_closers (λ (k : ℕ). look k (names (goto property_named keep) []) ≡ fail) refl refl refl refl a.class)
    (λ none. rw none.no_brace))
