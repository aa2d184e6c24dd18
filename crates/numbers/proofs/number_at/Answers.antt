-- `number_at` is `number_from`: what follows the number settles it.
use native.Mathlib.Omega.{arith}
use mathlib.Core.Path.{sym}
use Rattle.text.proofs.CodeLaws.{code_name, code_no_name}
use Rattle.numbers.proofs.NumberPlaces.{number_past, number_last, number_ends, number_named}
use Rattle.numbers.proofs.number_at.Goals as goal
use Rattle.numbers.proofs.number_at.Goals.{else-end-text-via-then-end-text+else-of-gt-BLANK, else-end-text-via-else-end-text}

pub returns-then-text-first : goal.returns-then-text-first
returns-then-text-first c = sym (number_past _ _ c.if-text-first.true)

pub returns-then-of-gt-BLANK : goal.returns-then-of-gt-BLANK
returns-then-of-gt-BLANK c = sym (number_named _ _ _ c.number_end-end.ensures (code_name _ (omega arith)))

pub returns : goal.returns
returns c = elim c.else-end-text.branch [
  | else-end-text-via-then-end-text+else-of-gt-BLANK w ↦ sym (number_ends _ _ _ c.number_end-end.ensures (code_no_name _ (omega arith)))
  | else-end-text-via-else-end-text w ↦ sym (number_last _ _ _ c.number_end-end.ensures w.if-end-text.false)
]
