-- The six functions of the cycle meet their contracts: a turn of `level` is one law by what the step means, and the records left fall.
use Rattle.std.proofs.Common.{Option, Some, ℕ, ◌≡◌, ◌<◌, Bool, List, refl, ap, ◌∙◌, arith}
use Rattle.std.proofs.lemmas.Result.{err_from_is_err_and}
use Rattle.machine.specs.Machinery.Machine.{Control, look, row}
use Rattle.controls.specs.declared.Control as code
use Rattle.controls.specs.Machinery.Numbers.{control_of}
use Rattle.segments.specs.Machinery.Segments.{Segment, Fine, count_of, class_at, line_at}
use Rattle.levels.proofs.RunLaws.{Underway, starts_underway, ran_to_closer}
use Rattle.levels.proofs.BriefLaws.{found_there, nothing_ran, operand_ran}
use Rattle.levels.proofs.StepLaws.{Arrival, fails, may_affect, affected, may_enter, entered, may_ask, asked, may_turn, turned, class_small, may_open, inner_dies, may_close, closed, may_run, fewer_inside, body_inside, block_inside, ran_as}
use Rattle.controls.specs.declared.Step.{Step}
use Rattle.controls.specs.Machinery.Steps.{Settled, Means}
use Rattle.waiting.specs.declared.Level.{Level}
use Rattle.waiting.specs.declared.Waiting.{Waiting}
use Rattle.frames.specs.declared.Standing.{Standing}
use Rattle.frames.specs.Machinery.Effects.{Readies}
use Rattle.levels.proofs.+level.Goals as goal

-- a turn of the loop, up to its step
arrive : {p : Segment} {from : Control} {count top : ℕ} {table : List ℕ} {before : List Waiting} {control : code.Control} {first : Level} {at : ℕ} {old : List ℕ} {oldStack : List Waiting}
    {class : ℕ} {newline : Bool} {s : Standing} {stack : List Waiting} {cells : List ℕ} {step : Option Step}
    → Fine p → Underway p from count top table before (control_of control) first at old oldStack → at < count_of p.cells → class ≡ class_at p.text p.cells at
    → newline ≡ line_at p.cells at → Readies control class first oldStack old s stack cells
    → (Settled s.control class → Means (control_of s.control) class step (look class (row (control_of s.control) newline)))
    → Arrival p from count top table before control first at old oldStack class newline s stack cells step
arrive fine underway here is lined readies steps = record { fine = fine; underway = underway; here = here; is = is; lined = lined; readies = readies; steps = steps }

pub content-returns-in-Block : goal.content-returns-in-Block
content-returns-in-Block t c = ran_as c.statements.ensures (block_inside c.in-Block.is)

pub content-returns-in-Declaration : goal.content-returns-in-Declaration
content-returns-in-Declaration t c = ran_as c.function.ensures (body_inside c.in-Declaration.is)

pub group-inside-within-requires : goal.group-inside-within-requires
group-inside-within-requires t c = let f = c.requires.fine.at c.args.at c.requires.here in
    record { size_fits = (f.some, f.fits); index_fits = omega (arith, c.requires.fine.few, c.requires.here) }

pub group-content-requires : goal.group-content-requires
group-content-requires t c = (omega (arith, c.decreases, fewer_inside c.requires, ap (λ (p : Segment). count_of p.cells) c.inside-within.ensures), rw c.inside-within.ensures (may_run c.requires))

pub group-returns-in-Nothing : goal.group-returns-in-Nothing
group-returns-in-Nothing t c = nothing_ran c.requires (found_there c.requires c.inside-within.ensures (c.look_inside.ensures _ _ _)) c.in-Nothing.is

pub group-returns-in-Operand : goal.group-returns-in-Operand
group-returns-in-Operand t c = operand_ran c.requires (found_there c.requires c.inside-within.ensures (c.look_inside.ensures _ _ _)) c.in-Operand.is (rw (ap (λ (p : Segment). p.base) c.inside-within.ensures) at c.put.ensures)

pub level-loop-at-init : goal.level-loop-at-init
level-loop-at-init t c = let e = c.empty-l.ensures in (refl, refl, rw c.inside_of-control.ensures (starts_underway c.args.inside c.requires e.0 e.1 e.2 e.3 e.4))

pub level-returns-in_default : goal.level-returns-in_default
level-returns-in_default t c =
    let turn = arrive c.requires.fine c.loop-at.invariant.2 (rw c.count-number.ensures at c.loop-at-test.true) c.class_at-class.ensures c.newline_at-newline.ensures c.ready-s.ensures c.row.ensures in
    fails turn c.in_default.is c.place_at.ensures

pub level-affect-l-requires : goal.level-affect-l-requires
level-affect-l-requires t c =
    let turn = arrive c.requires.fine c.loop-at.invariant.2 (rw c.count-number.ensures at c.loop-at-test.true) c.class_at-class.ensures c.newline_at-newline.ensures c.ready-s.ensures c.row.ensures in
    may_affect turn (c.in-Some.is ∙ ap Some c.in-Goto.is)

pub level-loop-at-preserved-in-Goto : goal.level-loop-at-preserved-in-Goto
level-loop-at-preserved-in-Goto t c =
    let turn = arrive c.requires.fine c.loop-at.invariant.2 (rw c.count-number.ensures at c.loop-at-test.true) c.class_at-class.ensures c.newline_at-newline.ensures c.ready-s.ensures c.row.ensures in
    (c.affect-l.auto.syntax ∙ c.ready-s.auto.syntax ∙ c.loop-at.invariant.0, c.affect-l.auto.waiting ∙ c.ready-s.auto.waiting ∙ c.loop-at.invariant.1, affected turn (c.in-Some.is ∙ ap Some c.in-Goto.is) c.affect-l.ensures c.affect-l.auto.waiting)

pub level-entered-l-requires : goal.level-entered-l-requires
level-entered-l-requires t c =
    let turn = arrive c.requires.fine c.loop-at.invariant.2 (rw c.count-number.ensures at c.loop-at-test.true) c.class_at-class.ensures c.newline_at-newline.ensures c.ready-s.ensures c.row.ensures in
    may_enter turn (c.in-Some.is ∙ ap Some c.in-Enter.is)

pub level-loop-at-preserved-in-Enter : goal.level-loop-at-preserved-in-Enter
level-loop-at-preserved-in-Enter t c =
    let turn = arrive c.requires.fine c.loop-at.invariant.2 (rw c.count-number.ensures at c.loop-at-test.true) c.class_at-class.ensures c.newline_at-newline.ensures c.ready-s.ensures c.row.ensures in
    (c.entered-l.auto.syntax ∙ c.ready-s.auto.syntax ∙ c.loop-at.invariant.0, c.entered-l.auto.waiting ∙ c.ready-s.auto.waiting ∙ c.loop-at.invariant.1, entered turn (c.in-Some.is ∙ ap Some c.in-Enter.is) c.entered-control.ensures c.entered-l.ensures c.entered-l.auto.waiting)

pub level-asked-inner-requires : goal.level-asked-inner-requires
level-asked-inner-requires t c =
    let turn = arrive c.requires.fine c.loop-at.invariant.2 (rw c.count-number.ensures at c.loop-at-test.true) c.class_at-class.ensures c.newline_at-newline.ensures c.ready-s.ensures c.row.ensures in
    may_ask turn (c.in-Some.is ∙ ap Some c.in-Ask.is)

pub level-loop-at-preserved-in-Ask : goal.level-loop-at-preserved-in-Ask
level-loop-at-preserved-in-Ask t c =
    let turn = arrive c.requires.fine c.loop-at.invariant.2 (rw c.count-number.ensures at c.loop-at-test.true) c.class_at-class.ensures c.newline_at-newline.ensures c.ready-s.ensures c.row.ensures in
    (c.asked-inner.auto.syntax ∙ c.ready-s.auto.syntax ∙ c.loop-at.invariant.0, c.asked-inner.auto.waiting ∙ c.ready-s.auto.waiting ∙ c.loop-at.invariant.1, asked turn (c.in-Some.is ∙ ap Some c.in-Ask.is) c.asked-inner.ensures c.asked-inner.auto.waiting)

pub level-turned-behind-requires : goal.level-turned-behind-requires
level-turned-behind-requires t c =
    let turn = arrive c.requires.fine c.loop-at.invariant.2 (rw c.count-number.ensures at c.loop-at-test.true) c.class_at-class.ensures c.newline_at-newline.ensures c.ready-s.ensures c.row.ensures in
    may_turn turn (c.in-Some.is ∙ ap Some c.in-Turn.is)

pub level-loop-at-preserved-in-Turn : goal.level-loop-at-preserved-in-Turn
level-loop-at-preserved-in-Turn t c =
    let turn = arrive c.requires.fine c.loop-at.invariant.2 (rw c.count-number.ensures at c.loop-at-test.true) c.class_at-class.ensures c.newline_at-newline.ensures c.ready-s.ensures c.row.ensures in
    (c.turned-behind.auto.syntax ∙ c.ready-s.auto.syntax ∙ c.loop-at.invariant.0, c.turned-behind.auto.waiting ∙ c.ready-s.auto.waiting ∙ c.loop-at.invariant.1, turned turn (c.in-Some.is ∙ ap Some c.in-Turn.is) c.turned-behind.ensures c.turned-behind.auto.waiting)

pub level-overflow_add-class : goal.level-overflow_add-class
level-overflow_add-class t c =
    let turn = arrive c.requires.fine c.loop-at.invariant.2 (rw c.count-number.ensures at c.loop-at-test.true) c.class_at-class.ensures c.newline_at-newline.ensures c.ready-s.ensures c.row.ensures in
    omega (arith, class_small turn (c.in-Some.is ∙ ap Some c.in-Push.is))

pub level-group-requires : goal.level-group-requires
level-group-requires t c =
    let turn = arrive c.requires.fine c.loop-at.invariant.2 (rw c.count-number.ensures at c.loop-at-test.true) c.class_at-class.ensures c.newline_at-newline.ensures c.ready-s.ensures c.row.ensures in
    (omega arith, may_open turn (c.in-Some.is ∙ ap Some c.in-Push.is))

pub level-returns-in_err-inner-in-Push : goal.level-returns-in_err-inner-in-Push
level-returns-in_err-inner-in-Push t c =
    let turn = arrive c.requires.fine c.loop-at.invariant.2 (rw c.count-number.ensures at c.loop-at-test.true) c.class_at-class.ensures c.newline_at-newline.ensures c.ready-s.ensures c.row.ensures in
    let p = err_from_is_err_and c.from_residual.result c.from_residual.ensures.1 in
    rw (p.1, p.2) (inner_dies turn (c.in-Some.is ∙ ap Some c.in-Push.is) c.group.ensures c.in_err-inner-in-Push.was)

pub level-close-l-requires : goal.level-close-l-requires
level-close-l-requires t c =
    let turn = arrive c.requires.fine c.loop-at.invariant.2 (rw c.count-number.ensures at c.loop-at-test.true) c.class_at-class.ensures c.newline_at-newline.ensures c.ready-s.ensures c.row.ensures in
    may_close turn (c.in-Some.is ∙ ap Some c.in-Push.is) c.group.ensures c.in_ok-inner-in-Push.was c.closing_by-done.result c.closing_by-done.ensures

pub level-loop-at-preserved : goal.level-loop-at-preserved
level-loop-at-preserved t c =
    let turn = arrive c.requires.fine c.loop-at.invariant.2 (rw c.count-number.ensures at c.loop-at-test.true) c.class_at-class.ensures c.newline_at-newline.ensures c.ready-s.ensures c.row.ensures in
    (c.close-l.auto.syntax ∙ c.group.auto.syntax ∙ c.ready-s.auto.syntax ∙ c.loop-at.invariant.0, c.close-l.auto.waiting ∙ c.group.auto.waiting ∙ c.ready-s.auto.waiting ∙ c.loop-at.invariant.1, rw c.size_at-at.ensures (closed turn (c.in-Some.is ∙ ap Some c.in-Push.is) c.group.ensures c.in_ok-inner-in-Push.was c.closing_by-done.result c.closing_by-done.ensures c.close-l.ensures c.close-l.auto.waiting))

pub level-returns : goal.level-returns
level-returns t c = ran_to_closer c.loop-at.control c.loop-at.invariant.2 (rw c.count-number.ensures at c.loop-at-test.false) c.args.closer c.at_closer.ensures
