-- What is left to write is the lines from the record on at which the loop stands.
use Rattle.std.proofs.Common.{ℕ, ◌≡◌, ◌+◌, ◌-◌, ◌*◌, ◌∙◌, arith, take, drop}
use Rattle.writing.specs.Numbers.{line}
use Rattle.printing.specs.Printed.{lines}
use Rattle.writing.proofs.WritingLaws.{left_less, left_none}
use Rattle.printing.proofs.PrintedLaws.{lines_none, lines_next}
use Rattle.printing.proofs.put_lines.Goals as goal

pub loop-i-preserved : goal.loop-i-preserved
loop-i-preserved c = let l = c.loop-i in
    let a = c.args in
    let t = a.table.now in
    let w = a.width in
    let first : ℕ = w * l.i in
    let wide : first + w - first ≡ w = omega arith in (
      c.put_line.ensures.same_output ∙ l.invariant.0,
      left_less (lines w a.count t) (line (take w (drop first t))) (lines w (a.count - (l.i + 1)) (drop (w * (l.i + 1)) t)) a.to.now.output.now a.to.now.at
          (rw (lines_next t w l.i a.count (omega arith)) at l.invariant.1) (rw wide at c.put_line.ensures.adds),
    )

pub returns-clause-adds : goal.returns-clause-adds
returns-clause-adds c = let l = c.loop-i in
    let a = c.args in
    let e : a.count - l.i ≡ 0 = omega arith in
    left_none (lines a.width a.count a.table.now) a.to.now.output.now a.to.now.at _ _ (rw (e, lines_none a.width (drop (a.width * l.i) a.table.now)) at l.invariant.1)
