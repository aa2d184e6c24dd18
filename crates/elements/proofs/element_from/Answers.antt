-- By the first byte.
use native.Mathlib.Omega.{arith}
use mathlib.Core.Bool.{Bool, true, false, ◌&&◌}
use mathlib.Core.Logic.{◌⊎◌, inl, inr}
use mathlib.Core.Path.{◌≡◌, sym, ap, ◌∙◌}
use Prim.Native.Nat.{ℕ}
use lib.Dec.{eqb}
use borrow.Author.Tests.{eq-eqb, ne_eqb}
use Rattle.text.proofs.CodeLaws.{by_letter, coded_in, coded_out}
use Rattle.elements.specs.Elements.{literal_element}
use Rattle.elements.proofs.ElementLaws.{from_past, from_letter, from_number, from_quote, from_pattern, from_sign}
use Rattle.elements.proofs.element_from.Goals as goal

either_sign : (pattern : Bool) (b : ℕ) → ((pattern ≡ true) × (b ≡ 47 → ⊥)) ⊎ (pattern ≡ false) → (pattern && eqb b 47) ≡ false
either_sign pattern b (inl (p, n)) = rw (p, ne_eqb b 47 n)
either_sign pattern b (inr p) = rw p

pub returns-then-text-first : goal.returns-then-text-first
returns-then-text-first c = sym (from_past _ _ _ _ c.if-text-first.true)

pub returns-then-code-eq-LETTER : goal.returns-then-code-eq-LETTER
returns-then-code-eq-LETTER c = c.name_element.ensures ∙ sym (from_letter _ _ _ _ (omega arith) (coded_in by_letter _ (omega arith)))

pub string_rest-requires : goal.string_rest-requires
string_rest-requires c = sym c.is_quote.ensures ∙ c.if-is_quote.true

pub returns-then-starts_number : goal.returns-then-starts_number
returns-then-starts_number c = c.number_element.ensures
    ∙ sym (from_number _ _ _ _ (omega arith) (coded_out by_letter _ (omega arith)) (sym c.starts_number.ensures ∙ c.if-starts_number.true))

pub returns-then-is_quote : goal.returns-then-is_quote
returns-then-is_quote c = let d = sym c.starts_number.ensures ∙ c.if-starts_number.false in
    c.literal_element.ensures ∙ ap (literal_element _ _ _) c.string_rest.ensures
    ∙ sym (from_quote _ _ _ _ (omega arith) (coded_out by_letter _ (omega arith)) d (sym c.is_quote.ensures ∙ c.if-is_quote.true))

pub returns-then-b-eq47 : goal.returns-then-b-eq47
returns-then-b-eq47 c = let d = sym c.starts_number.ensures ∙ c.if-starts_number.false in
    let q = sym c.is_quote.ensures ∙ c.if-is_quote.false in
    c.literal_element-then-b-eq47.ensures ∙ ap (literal_element _ _ _) c.pattern_rest.ensures
    ∙ sym (from_pattern _ _ _ _ (omega arith) (coded_out by_letter _ (omega arith)) d q (rw (c.if-stated.true, eq-eqb _ 47 c.if-b-eq47.true)))

pub returns : goal.returns
returns c = let d = sym c.starts_number.ensures ∙ c.if-starts_number.false in
    let q = sym c.is_quote.ensures ∙ c.if-is_quote.false in
    c.sign_element.ensures
    ∙ sym (from_sign _ _ _ _ (omega arith) (coded_out by_letter _ (omega arith)) d q (either_sign _ _ c.else-stated.either))
