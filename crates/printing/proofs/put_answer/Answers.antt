-- What was written of the answer's case is what was said, from nothing on.
use Rattle.std.proofs.Common.{rules}
use Rattle.printing.specs.Printed.{listed}
use Rattle.writing.proofs.WritingLaws.{of_writer}
use Rattle.printing.proofs.PrintedLaws.{accepted_said, refused_said}
use Rattle.printing.proofs.put_answer.Goals as goal

pub returns-in-Accepted-clause-written : goal.returns-in-Accepted-clause-written
returns-in-Accepted-clause-written c = let a = c.args in
    let w = c.new-to.ensures in
    let p = c.put_listed.ensures in
    (accepted_said a.heading.now a.width a.table.now a.answer a.output.now _ _ _ c.in-Accepted.is c.requires
    (of_writer (listed a.heading.now a.width c.in-Accepted.count a.table.now) a.output.now w.untouched w.at_start (c.output-1.given.1.1 (search rules)) c.count.ensures p.adds, p.table_in_bounds)).0

pub returns-in-Refused-clause-written : goal.returns-in-Refused-clause-written
returns-in-Refused-clause-written c = let a = c.args in
    let p = c.put_refused.ensures in
    (refused_said a.heading.now a.width a.table.now a.answer a.output.now _ _ _ _ c.in-Refused.is (p.adds, p.place_len_bound)).0
