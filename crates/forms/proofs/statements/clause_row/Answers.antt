-- `clause_row` is the machine's row where a clause is due.
use Prim.Native.Nat.{ℕ}
use native.Mathlib.Omega.{arith}
use mathlib.Core.Path.{◌≡◌, refl}
use mathlib.Core.Bool.{Bool, true, false}
use borrow.Author.Tests.{ne_eqb, not-true, not-false}
use Rattle.machine.specs.Tokens.{case_word, default_word}
use Rattle.machine.specs.Machinery.Machine.{fail, look, default_row}
use Rattle.controls.specs.Machinery.Numbers.{start_kind}
use Rattle.controls.specs.Machinery.Steps.{to_case, to_default, means_fail}
use Rattle.controls.proofs.EndLaws.{only_closers}
use Rattle.forms.proofs.statements.clause_row.Goals as goal

no_default : (class : ℕ) (seen : Bool) → (class ≡ default_word → ⊥) → look class (default_row seen) ≡ fail
no_default class true other = refl
no_default class false other = rw (ne_eqb class default_word other)

pub returns-in-88 : goal.returns-in-88
unfolding start_kind
returns-in-88 c = rw c.in-88.is (c.case_row.ensures _ _ tt to_case)

pub returns-in-89 : goal.returns-in-89
unfolding start_kind
returns-in-89 c = let none : c.args.at.flag ≡ false = not-true c.args.at.flag c.if-not-at.true in
    rw (none, c.in-89.is) (c.goto.ensures _ _ tt to_default)

pub returns-in_default : goal.returns-in_default
returns-in_default c = let seen : c.args.at.flag ≡ true = not-false c.args.at.flag c.if-not-at.false in
    rw (seen, c.in-89.is) means_fail

pub returns-in_default-2 : goal.returns-in_default-2
returns-in_default-2 c = let class = c.args.class in
    rw (ne_eqb class case_word (omega arith))
    (only_closers (λ none. rw none.no_brace (no_default class c.args.at.flag (omega arith))))
