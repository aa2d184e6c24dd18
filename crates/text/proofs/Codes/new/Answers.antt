-- The table is the codes of the 256 bytes: antt computes them.
use Rattle.std.proofs.Common.{refl}
use Rattle.text.specs.Bytes.{blank, line_end, illegal, letter, digit}
use Rattle.text.specs.Machinery.Codes.{turning, code_of, byte_codes}
use Rattle.text.proofs.Codes.new.Goals as goal

pub invariant_of-result : goal.invariant_of-result
unfolding byte_codes code_of turning illegal line_end blank letter digit
invariant_of-result c = record { by_byte = refl }
