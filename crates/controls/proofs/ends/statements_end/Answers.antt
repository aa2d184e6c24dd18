-- `statements_end` is what the row where a statement is due has at a closer.
use Prim.Native.Nat.{ℕ}
use mathlib.Core.Path.{◌≡◌, refl}
use mathlib.Core.Bool.{true, false}
use lib.Dec.{T, eqb}
use Rattle.machine.specs.Scopes.{body, block}
use Rattle.machine.specs.Tokens.{close_brace}
use Rattle.machine.specs.Machinery.Classes.{is_end}
use Rattle.machine.specs.Machinery.Machine.{end_of_text, among, statement_due, look, row}
use Rattle.controls.specs.declared.Setting.{Setting}
use Rattle.controls.specs.declared.Setting.TheVariants.{Body, Block, Clause, IfNest, ElseNest, DoNest}
use Rattle.controls.specs.Machinery.Numbers.{setting_by, must_by}
use Rattle.controls.specs.Machinery.Steps.{Ends, ends_statements, ends_text, goes_on}
use Rattle.controls.proofs.EndLaws.{at_closers}
use Rattle.controls.proofs.LevelEnds.{EndsAt, GoesOn, no_closer_at}
use Rattle.controls.proofs.ends.statements_end.Goals as goal

-- a statement must come in a clause here, and one that is due in a nest ends no level
at_none : (setting : Setting) (closer : ℕ) → T (is_end closer) → (setting ≡ Body → ⊥) → (setting ≡ Block → ⊥)
    → GoesOn closer (statement_due (must_by false setting) (setting_by setting))
at_none Body closer end no_body no_block = absurd (no_body refl)
at_none Block closer end no_body no_block = absurd (no_block refl)
at_none Clause closer end no_body no_block = no_closer_at closer end (statement_due true (setting_by Clause)) refl refl refl refl
at_none IfNest closer end no_body no_block = no_closer_at closer end (statement_due false (setting_by IfNest)) refl refl refl refl
at_none ElseNest closer end no_body no_block = no_closer_at closer end (statement_due false (setting_by ElseNest)) refl refl refl refl
at_none DoNest closer end no_body no_block = no_closer_at closer end (statement_due false (setting_by DoNest)) refl refl refl refl

pub returns-then-closer-eq-CLOSE_BRACE : goal.returns-then-closer-eq-CLOSE_BRACE
returns-then-closer-eq-CLOSE_BRACE c = λ end. rw (c.if-not-must.true, c.in-Body.is, c.if-closer-eq-CLOSE_BRACE.true) ends_statements

pub returns-else-closer-eq-CLOSE_BRACE : goal.returns-else-closer-eq-CLOSE_BRACE
returns-else-closer-eq-CLOSE_BRACE c = λ end.
    rw (c.if-not-must.true, c.in-Body.is)
    (at_closers
    (λ (k : ℕ). (k ≡ close_brace → ⊥) → Ends k (statement_due false (among body)) (eqb k end_of_text) (look k (row (statement_due false (among body)) false)))
    (λ other. goes_on)
    (λ other. absurd (other refl))
    (λ other. goes_on)
    (λ other. ends_text refl)
    c.args.closer
    end
    c.if-closer-eq-CLOSE_BRACE.false)

pub returns-in-Block : goal.returns-in-Block
returns-in-Block c = λ end.
    let a = c.args in
    rw (c.if-not-must.true, c.in-Block.is)
    (at_closers (EndsAt (statement_due false (among block)) close_brace) goes_on ends_statements goes_on goes_on a.closer end)

pub returns-in_default : goal.returns-in_default
returns-in_default c = λ end. let a = c.args in rw c.if-not-must.true (at_none a.setting a.closer end c.in_default.not-Body c.in_default.not-Block)

pub returns-else-not-must : goal.returns-else-not-must
returns-else-not-must c = λ end.
    let a = c.args in
    rw c.if-not-must.false (no_closer_at a.closer end (statement_due true (setting_by a.setting)) refl refl refl refl)
