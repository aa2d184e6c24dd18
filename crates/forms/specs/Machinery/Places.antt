-- Which function has the row of a place, and the places where an expression is due. Machinery.
use Rattle.std.specs.Prelude.{ℕ, Bool, true, false}
use Rattle.controls.specs.declared.Ending.{Ending}
use Rattle.controls.specs.declared.Ending.TheVariants.{LoneStart, Test, Step, Return}
use Rattle.controls.specs.declared.Place.{Place}
use Rattle.controls.specs.declared.Place.TheVariants.{ReturnFirst, ThrowFirst, StartDue, TestDue, StepDue, DotLast, NameFirst, IfFirst, ItemDue, MemberDue, PropertyNamed, StatementDone, CatchDone, TryEnded, HeadFirst, VariableDue, BodyDone, TestFirst, ForFirst, SwitchFirst, SwitchPast, ClauseDue, DefaultFirst, TryFirst, TryDone, CatchFirst, CatchDue, CatchNamed, CatchPast, FinallyFirst, ParameterDue, ParameterNamed, FunctionFirst, FunctionNamed, ParameterPast, DeclaredFirst, DeclaredNamed, DeclaredPast}

-- 1 is `form_row`, 2 `word_form_row`, 3 `try_row`, 4 `function_row` and 5 `declared_row`; 0 is not inside a form
abbrev pub rows_at : Place → ℕ
rows_at DotLast = 1
rows_at NameFirst = 1
rows_at IfFirst = 1
rows_at ItemDue = 1
rows_at MemberDue = 1
rows_at PropertyNamed = 1
rows_at StatementDone = 1
rows_at CatchDone = 1
rows_at TryEnded = 1
rows_at HeadFirst = 2
rows_at VariableDue = 2
rows_at BodyDone = 2
rows_at TestFirst = 2
rows_at ForFirst = 2
rows_at SwitchFirst = 2
rows_at SwitchPast = 2
rows_at ClauseDue = 3
rows_at DefaultFirst = 3
rows_at TryFirst = 3
rows_at TryDone = 3
rows_at CatchFirst = 3
rows_at CatchDue = 3
rows_at CatchNamed = 3
rows_at CatchPast = 3
rows_at FinallyFirst = 3
rows_at ParameterDue = 4
rows_at ParameterNamed = 4
rows_at FunctionFirst = 4
rows_at FunctionNamed = 4
rows_at ParameterPast = 4
rows_at DeclaredFirst = 5
rows_at DeclaredNamed = 5
rows_at DeclaredPast = 5
rows_at _ = 0

-- an expression is due behind `return` or `throw`, where it stands on the line of its word, and in the head of a `for`; what ends it
abbrev pub IsDue : Place → Type 0
IsDue ReturnFirst = Unit {0}
IsDue ThrowFirst = Unit {0}
IsDue StartDue = Unit {0}
IsDue TestDue = Unit {0}
IsDue StepDue = Unit {0}
IsDue _ = ⊥

abbrev pub bars_line : Place → Bool
bars_line ReturnFirst = true
bars_line ThrowFirst = true
bars_line _ = false

abbrev pub due_ending : Place → Ending
due_ending StartDue = LoneStart
due_ending TestDue = Test
due_ending StepDue = Step
due_ending _ = Return
