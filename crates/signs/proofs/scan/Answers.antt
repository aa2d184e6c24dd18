-- `scan` is `first_of`: the first of the signs from the row `from` on is the first of those from the row of the turn on.
use native.Mathlib.Omega.{arith}
use Prim.Native.Nat.{◌+◌, ◌-◌}
use lib.ListN.{length, drop}
use mathlib.Core.Path.{refl, sym, ◌∙◌}
use Rattle.signs.proofs.Laws.{same_pointwise}
use Rattle.signs.proofs.Table.{table_length, row_within, scan_found, scan_other, scan_end}
use Rattle.std.proofs.lemmas.List.{length-take, length-drop}
use Rattle.signs.proofs.scan.Goals as goal

pub slice_bounds-row-items-count : goal.slice_bounds-row-items-count
slice_bounds-row-items-count c = omega (arith, table_length _ c.requires.0)

pub slice_bounds-row-items-start : goal.slice_bounds-row-items-start
slice_bounds-row-items-start c = omega (arith, table_length _ c.requires.0)

pub shared_ref_as_front-starts_with : goal.shared_ref_as_front-starts_with
shared_ref_as_front-starts_with c = omega (arith, c.from-len.ensures, row_within _ c.requires.0 _ _ c.loop-row-test.true)

pub returns-then-starts_with : goal.returns-then-starts_with
returns-then-starts_with c =
    sym (c.loop-row.invariant ∙ scan_found _ c.requires.0 _ _ c.loop-row-test.true _ _ c.from-len.ensures c.from.ensures _
    (sym (c.starts_with.ensures.value ∙ same_pointwise _ _) ∙ c.if-starts_with.true))

pub loop-row-preserved : goal.loop-row-preserved
loop-row-preserved c =
    c.loop-row.invariant ∙ scan_other _ c.requires.0 _ _ c.loop-row-test.true _ _ c.from-len.ensures refl _
    (sym (c.starts_with.ensures.value ∙ same_pointwise _ _) ∙ c.if-starts_with.false)

pub returns : goal.returns
returns c =
    sym (c.loop-row.invariant ∙ scan_end _ (c.args.from + c.loop-row.row-index) (omega (arith, c.loop-row-test.false, table_length _ c.requires.0, length-take (length c.args.signs.now - c.args.from) (drop c.args.from c.args.signs.now), length-drop c.args.from c.args.signs.now)))
