-- `scan` is `first_of`: the first of the signs from the row `from` on is the first of those from the row of the turn on.
use Rattle.std.specs.Prelude.{◌≡◌, ◌+◌, drop}
use Rattle.signs.specs.Machinery.Rows.{order, first_of}
use Rattle.signs.proofs.scan.Given as goal

abbrev pub invariant-loop-row : goal.invariant-loop-row
invariant-loop-row l = first_of l.text (drop l.from order) ≡ first_of l.text (drop (l.from + l.row-index) order)
