-- Either way.
use native.Mathlib.Omega.{arith}
use mathlib.Core.Bool.{true≢false}
use mathlib.Core.Path.{refl, sym, ◌∙◌}
use Rattle.turns.proofs.tag_for.Goals as goal

pub returns-then-spaced : goal.returns-then-spaced
returns-then-spaced c = (λ z. refl, λ z. absurd (true≢false (sym c.if-spaced.true ∙ z)))

pub overflow_cast-result-2 : goal.overflow_cast-result-2
overflow_cast-result-2 c = omega (arith, c.requires.1 c.if-spaced.false)

pub returns : goal.returns
returns c = (λ z. absurd (true≢false (sym z ∙ c.if-spaced.false)), λ z. refl)
