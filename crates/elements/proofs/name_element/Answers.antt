-- `name_element` is `named`: the run of name bytes is the name, and its number among the reserved words settles it.
use native.Mathlib.Omega.{arith}
use mathlib.Core.Bool.{Bool, true, ◌||◌}
use mathlib.Core.Logic.{◌⊎◌, inl, inr}
use mathlib.Core.Path.{◌≡◌, sym, ◌∙◌}
use Prim.Native.Nat.{ℕ}
use lib.Dec.{eqb}
use borrow.Author.Tests.{eq-eqb, ne_eqb}
use Rattle.text.specs.Bytes.{name_byte}
use Rattle.text.proofs.Laws.{run_within}
use Rattle.elements.proofs.ElementLaws.{named_name, named_word, named_barred}
use Rattle.elements.proofs.name_element.Goals as goal

either_name : (word : ℕ) (asName : Bool) → (word ≡ 0) ⊎ ((word ≡ 0 → ⊥) × (asName ≡ true)) → (eqb word 0 || asName) ≡ true
either_name word asName (inl e) = rw (eq-eqb word 0 e)
either_name word asName (inr (n, a)) = rw (ne_eqb word 0 n, a)

pub slice_bounds-word_number-end : goal.slice_bounds-word_number-end
slice_bounds-word_number-end c = let a = c.args in
    omega (arith, run_within name_byte a.text.now a.first (omega arith))

pub returns-then-which-eq0 : goal.returns-then-which-eq0
returns-then-which-eq0 c = c.found.ensures ∙ sym (named_name _ _ _ _ _ _ c.name_end-end.ensures c.word_number-which.ensures (either_name _ _ c.then-which-eq0.either))

pub returns-then-is_taken : goal.returns-then-is_taken
returns-then-is_taken c = c.found-then-is_taken.ensures ∙ sym
    (named_word _ _ _ _ _ _ c.name_end-end.ensures c.word_number-which.ensures
    (rw (ne_eqb _ 0 c.if-which-eq0.false, c.if-as_name.false)) (sym c.is_taken.ensures ∙ c.if-is_taken.true))

pub returns : goal.returns
returns c = sym
    (named_barred _ _ _ _ _ _ c.name_end-end.ensures c.word_number-which.ensures
    (rw (ne_eqb _ 0 c.if-which-eq0.false, c.if-as_name.false)) (sym c.is_taken.ensures ∙ c.if-is_taken.false))
