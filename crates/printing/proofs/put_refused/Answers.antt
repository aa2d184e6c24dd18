-- The text, and a line of two numbers.
use Rattle.std.proofs.Common.{rules, [], ◌∷◌, ◌++◌}
use Rattle.text.specs.Quoted.{byte, bytes}
use Rattle.writing.specs.Numbers.{decimal}
use Rattle.printing.specs.Printed.{refusal}
use Rattle.writing.proofs.WritingLaws.{adds_both, of_writer}
use Rattle.printing.proofs.PrintedLaws.{refusal_is, refusal_length}
use Rattle.printing.proofs.put_refused.Goals as goal

pub returns-clause-adds : goal.returns-clause-adds
returns-clause-adds c = let a = c.args in
    let w = c.new-to.ensures in
    of_writer (refusal a.number a.place) a.output.now w.untouched w.at_start (c.output-1.given.1.1 (search rules)) c.count.ensures
    (rw (refusal_is a.number a.place)
    (adds_both (bytes "refused,") ((decimal a.number ++ (byte "," ∷ [])) ++ (decimal a.place ++ (byte "\n" ∷ []))) c.put_bytes.ensures.adds
    (adds_both (decimal a.number ++ (byte "," ∷ [])) (decimal a.place ++ (byte "\n" ∷ [])) c.put_number.ensures.adds c.put_number-2.ensures.adds)))

pub returns-clause-place_len_bound : goal.returns-clause-place_len_bound
returns-clause-place_len_bound c = refusal_length c.args.number c.args.place (search rules) (search rules)
