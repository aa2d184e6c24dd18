-- What is left to write are the bytes from the one on at which the loop stands.
use Rattle.std.proofs.Common.{◌≡◌, drop}
use Rattle.writing.proofs.WritingLaws.{Left}
use Rattle.writing.proofs.Writer.put_bytes.Given as goal

abbrev pub invariant-loop-byte : goal.invariant-loop-byte
invariant-loop-byte l = (l.self.output.ghost_name ≡ l.initial.self.output.ghost_name)
    × Left l.bytes (drop l.byte-index l.bytes) l.initial.self.output.now l.initial.self.at l.self.output.now l.self.at
