-- Test for test; past the text's end no digit stands.
use mathlib.Core.Path.{sym, ap, ◌∙◌}
use borrow.Author.Tests.{eq-eqb}
use lib.Dec.{eqb}
use Rattle.text.specs.Machinery.Codes.{code_of}
use Rattle.text.proofs.CodeLaws.{by_digit}
use Rattle.elements.proofs.is_dot_before_digit.Goals as goal

pub returns-then-b-eq46 : goal.returns-then-b-eq46
returns-then-b-eq46 c = rw (eq-eqb _ 46 c.if-b-eq46.true) (ap (λ k. eqb k 6) (c.of.ensures ∙ ap code_of c.byte_after.ensures) ∙ sym (by_digit _))
