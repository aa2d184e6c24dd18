-- `sign_element` is `sign_or_stray`: what the longest sign is settles it.
use native.Mathlib.Omega.{arith}
use mathlib.Core.Path.{sym, ◌∙◌}
use lib.ListN.{drop, length-drop}
use Rattle.signs.proofs.Laws.{longest_fits}
use Rattle.elements.proofs.ElementLaws.{sign_stray, sign_delimiter, sign_other}
use Rattle.elements.proofs.sign_element.Goals as goal
use Rattle.elements.proofs.sign_element.Goals.{then-is_delimiter, else-is_delimiter}

pub returns-in_default : goal.returns-in_default
returns-in_default c = sym (sign_stray _ _ _ (sym c.sign_at.ensures ∙ c.in_default.is))

pub overflow_add-first : goal.overflow_add-first
overflow_add-first c = let a = c.args in
    let fits = longest_fits (drop a.first a.text.now) _ (sym c.in-Some.ensures) in
    omega (arith, length-drop a.first a.text.now)

pub returns : goal.returns
returns c = let e = sym c.in-Some.ensures in
    c.found.ensures ∙ elim c.if-is_delimiter.branch [
      | then-is_delimiter w ↦ rw w.kind-is (sym (sign_delimiter _ _ _ _ e (sym c.is_delimiter.ensures ∙ w.if-is_delimiter.true)))
      | else-is_delimiter w ↦ rw w.kind-is (sym (sign_other _ _ _ _ e (sym c.is_delimiter.ensures ∙ w.if-is_delimiter.false)))
    ]
