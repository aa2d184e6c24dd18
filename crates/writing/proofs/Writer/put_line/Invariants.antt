-- What is left to write is the line from the number on at which the loop stands.
use Rattle.std.proofs.Common.{◌≡◌, drop}
use Rattle.writing.specs.Numbers.{line}
use Rattle.writing.proofs.WritingLaws.{Left}
use Rattle.writing.proofs.Writer.put_line.Given as goal

abbrev pub invariant-loop-number : goal.invariant-loop-number
invariant-loop-number l = (l.self.output.ghost_name ≡ l.initial.self.output.ghost_name)
    × Left (line l.numbers) (line (drop l.number-index l.numbers)) l.initial.self.output.now l.initial.self.at l.self.output.now l.self.at
