-- What is left to write is the lines from the record on at which the loop stands.
use Rattle.std.proofs.Common.{◌≡◌, ◌*◌, ◌-◌, drop}
use Rattle.printing.specs.Printed.{lines}
use Rattle.writing.proofs.WritingLaws.{Left}
use Rattle.printing.proofs.put_lines.Given as goal

abbrev pub invariant-loop-i : goal.invariant-loop-i
invariant-loop-i l = (l.to.output.ghost_name ≡ l.initial.to.output.ghost_name)
    × Left (lines l.width l.count l.table) (lines l.width (l.count - l.i) (drop (l.width * l.i) l.table)) l.initial.to.output.now l.initial.to.at l.to.output.now l.to.at
