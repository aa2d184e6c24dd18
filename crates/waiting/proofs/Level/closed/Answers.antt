-- Each turn closes what waits uppermost.
use Rattle.waiting.proofs.CloseLaws.{held_one, closing_on, closing_stops, closing_ends}
use Rattle.waiting.proofs.Level.closed.Goals as goal

pub loop-l-preserved : goal.loop-l-preserved
loop-l-preserved c = let l = c.loop-l in
    let more = c.loop-l-test.true in
    let tight = rw (c.binding.ensures, c.from-kind.ensures) at c.if-binding-least.false in
    let made = rw (c.popped.ensures, c.from-kind.ensures, c.from.ensures) at c.made-l.ensures in
    rw (made.0, made.1) (
      l.invariant.0,
      l.invariant.1,
      held_one l.invariant.2 more,
      λ table first done ps operand h. closing_on (l.invariant.3 table first done ps operand h) more tight,
    )

pub returns-after-loop-l : goal.returns-after-loop-l
returns-after-loop-l c = let i = c.loop-l.invariant in
    (i.0, i.1, λ table first done ps operand h. closing_ends (i.3 table first done ps operand h) c.loop-l-test.false)

pub returns-then-binding-least : goal.returns-then-binding-least
returns-then-binding-least c = let i = c.loop-l.invariant in
    let loose = rw (c.binding.ensures, c.from-kind.ensures) at c.if-binding-least.true in
    (i.0, i.1, λ table first done ps operand h. closing_stops (i.3 table first done ps operand h) c.loop-l-test.true loose)
