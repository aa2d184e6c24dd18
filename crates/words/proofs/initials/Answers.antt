-- `initials` has the initials of all words of a length: antt computes that each of them is admitted, and that no word has another length.
use native.Mathlib.Omega.{arith}
use mathlib.Core.Path.{refl, ◌∙◌}
use borrow.Author.Tests.{ne_eqb}
use Rattle.words.proofs.Laws.{words_admitted, word_length}
use Rattle.std.proofs.Common.{ℕ, ◌≡◌, eqb, false}
use Rattle.words.proofs.initials.Goals as goal

pub returns-in-2 : goal.returns-in-2
returns-in-2 c = (λ name some e. words_admitted 2 _ tt name some (e ∙ c.in-2.is), λ m. omega arith)

pub returns-in-3 : goal.returns-in-3
returns-in-3 c = (λ name some e. words_admitted 3 _ tt name some (e ∙ c.in-3.is), λ m. omega arith)

pub returns-in-4 : goal.returns-in-4
returns-in-4 c = (λ name some e. words_admitted 4 _ tt name some (e ∙ c.in-4.is), λ m. omega arith)

pub returns-in-5 : goal.returns-in-5
returns-in-5 c = (λ name some e. words_admitted 5 _ tt name some (e ∙ c.in-5.is), λ m. omega arith)

pub returns-in-6 : goal.returns-in-6
returns-in-6 c = (λ name some e. words_admitted 6 _ tt name some (e ∙ c.in-6.is), λ m. omega arith)

pub returns-in-7 : goal.returns-in-7
returns-in-7 c = (λ name some e. words_admitted 7 _ tt name some (e ∙ c.in-7.is), λ m. omega arith)

pub returns-in-8 : goal.returns-in-8
returns-in-8 c = (λ name some e. words_admitted 8 _ tt name some (e ∙ c.in-8.is), λ m. omega arith)

pub returns-in-10 : goal.returns-in-10
returns-in-10 c = (λ name some e. words_admitted 10 _ tt name some (e ∙ c.in-10.is), λ m. omega arith)

pub returns-in_default : goal.returns-in_default
returns-in_default c =
    let no : (n : ℕ) → (c.args.len ≡ n → ⊥) → eqb c.args.len n ≡ false = λ n. ne_eqb c.args.len n in
    (λ name some e. absurd (rw (e, no 2 (λ e. omega arith), no 3 (λ e. omega arith), no 4 (λ e. omega arith), no 5 (λ e. omega arith), no 6 (λ e. omega arith), no 7 (λ e. omega arith), no 8 (λ e. omega arith), no 10 (λ e. omega arith)) at (word_length name some)), λ m. absurd (m refl))
