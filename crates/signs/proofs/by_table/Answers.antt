-- `by_table` is `longest_sign`: the code's table is that of the signs, by computing both, and the first of its signs is the longest.
use native.Mathlib.Omega.{arith}
use mathlib.Core.Path.{refl, ◌∙◌}
use lib.ListN.{drop}
use Rattle.text.proofs.Lists.{drop_at}
use Rattle.signs.specs.Machinery.Rows.{table}
use Rattle.signs.proofs.Order.{first_longest}
use Rattle.signs.proofs.by_table.Goals as goal

pub scan-requires : goal.scan-requires
unfolding table
scan-requires c = (refl, c.first_row.ensures.0)

pub returns : goal.returns
returns c = let s = c.args.text.now in
    c.scan.ensures ∙ rw (drop_at s 0 (omega arith)) (c.first_row.ensures.1 (drop 1 s)) ∙ first_longest _
