-- The heading, a line of one number, and the lines of the records.
use Rattle.std.proofs.Common.{rules, [], ◌∷◌, ◌++◌, arith}
use Rattle.text.specs.Quoted.{byte}
use Rattle.writing.specs.Numbers.{decimal}
use Rattle.printing.specs.Printed.{lines}
use Rattle.writing.proofs.WritingLaws.{adds_both}
use Rattle.printing.proofs.PrintedLaws.{listed_is, listed_length}
use Rattle.printing.proofs.put_listed.Goals as goal

pub returns-clause-adds : goal.returns-clause-adds
returns-clause-adds c = let a = c.args in
    let h = a.heading.now in
    let t = a.table.now in
    let n = a.count in
    rw (listed_is h a.width n t)
    (adds_both h ((decimal n ++ (byte "\n" ∷ [])) ++ lines a.width n t) c.put_bytes.ensures.adds
    (adds_both (decimal n ++ (byte "\n" ∷ [])) (lines a.width n t) c.put_number.ensures.adds c.put_lines.ensures.adds))

pub returns-clause-table_in_bounds : goal.returns-clause-table_in_bounds
returns-clause-table_in_bounds c = let a = c.args in
    listed_length a.heading.now a.width a.count a.table.now (λ i. omega (arith, c.shared_slice_known-2-1.given i)) (search rules) (search rules)
