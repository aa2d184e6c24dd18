-- A reading that is refused answers; one that is accepted is judged over the records in front of the table.
use mathlib.Core.Path.{sym, ap, ◌∙◌}
use native.Mathlib.Omega.{arith}
use lib.ListN.{replicate}
use Rattle.std.proofs.lemmas.List.{length-take-le}
use Rattle.answers.proofs.AnswerLaws.{same_tells}
use Rattle.parser.proofs.ParseLaws.{read_done, front_fine, answers_refused, not_read, judged_refused, judged_accepted}
use Rattle.parser.proofs.parse.Goals as goal

pub returns-in_default : goal.returns-in_default
returns-in_default c = let a = c.args in
    let r = not_read a.text.now a.trees.now a.syntax.now c.read-read.ensures.0 c.read-read.ensures.1 c.in_default.is in
    let p = answers_refused a.text.now a.trees.now a.syntax.now r.0 r.1 c.clear.ensures in
    rw c.in_default.is (p.0, p.1, p.2, same_tells p.0)

pub overflow_mul-count : goal.overflow_mul-count
overflow_mul-count c = let d = read_done _ c.args.trees.now _ _ _ c.read-read.ensures.0 c.read-read.ensures.1 c.in-Accepted.is in omega (arith, d.few)

pub slice_bounds-program_of-end : goal.slice_bounds-program_of-end
slice_bounds-program_of-end c = let d = read_done _ c.args.trees.now _ _ _ c.read-read.ensures.0 c.read-read.ensures.1 c.in-Accepted.is in omega (arith, d.within)

pub slice_bounds-program_of-end-2 : goal.slice_bounds-program_of-end-2
slice_bounds-program_of-end-2 c = let d = read_done _ c.args.trees.now _ _ _ c.read-read.ensures.0 c.read-read.ensures.1 c.in-Accepted.is in sym (length-take-le _ c.read-read.new.trees d.within)

pub program_of-requires : goal.program_of-requires
program_of-requires c = front_fine (read_done _ c.args.trees.now _ _ _ c.read-read.ensures.0 c.read-read.ensures.1 c.in-Accepted.is) _

pub returns-in-Ok : goal.returns-in-Ok
returns-in-Ok c = let a = c.args in
    let d = read_done _ a.trees.now _ _ _ c.read-read.ensures.0 c.read-read.ensures.1 c.in-Accepted.is in
    let p = judged_accepted a.text.now a.trees.now a.syntax.now d c.program_of.ensures c.in-Ok.is in
    (p.0, p.1, p.2, same_tells p.0)

pub returns-in-Err : goal.returns-in-Err
returns-in-Err c = let a = c.args in
    let d = read_done _ a.trees.now _ _ _ c.read-read.ensures.0 c.read-read.ensures.1 c.in-Accepted.is in
    let e = judged_refused a.text.now a.trees.now a.syntax.now d c.program_of.ensures c.in-Err.is in
    let p =
    answers_refused a.text.now a.trees.now a.syntax.now e
    (c.clear-in-Err.ensures ∙ ap (λ n. replicate n 0) c.read-read.auto.trees)
    (c.clear-in-Err-2.ensures ∙ ap (λ n. replicate n 0) c.program_of.auto.syntax) in
    rw c.from.ensures (p.0, p.1, p.2, same_tells p.0)
