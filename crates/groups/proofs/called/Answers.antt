-- Above the floor the uppermost tells whether a `new` waits.
use mathlib.Core.Path.{sym, ◌∙◌}
use native.Mathlib.Omega.{arith}
use Rattle.groups.proofs.GroupLaws.{call_asks, call_closes, construct_closes}
use Rattle.groups.proofs.called.Goals as goal
use Rattle.groups.proofs.called.Goals.{then-l+else-from-eq-NEW, else-l}

pub made-requires : goal.made-requires
made-requires c = let u = call_asks c.requires c.if-l.true in rw (c.popped.ensures, c.from-then-from-eq-NEW.ensures) (u.behind, u.room, u.marked)

pub returns-then-from-eq-NEW : goal.returns-then-from-eq-NEW
returns-then-from-eq-NEW c =
    construct_closes c.args.mark c.args.count c.from-then-from-eq-NEW.result c.if-l.true (sym c.from.ensures ∙ c.if-from-eq-NEW.true) (sym c.from-then-from-eq-NEW.ensures) (rw c.popped.ensures at c.made.ensures)

pub returns : goal.returns
returns c =
    call_closes c.args.mark c.args.count
    (λ more new.
    elim c.if-l.branch [
      | then-l+else-from-eq-NEW w ↦ w.if-from-eq-NEW.false (w.from.ensures ∙ new)
      | else-l w ↦ omega (arith, more)
    ])
    c.made-2.ensures
