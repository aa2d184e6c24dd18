-- What is left to write is the line from the number on at which the loop stands.
use Rattle.std.proofs.Common.{◌≡◌, [], ◌∷◌, ◌++◌, ◌+◌, ◌∙◌, arith, rules, length, drop}
use lib.ListN.{get_or}
use Rattle.text.specs.Quoted.{byte}
use Rattle.writing.specs.Numbers.{decimal, line}
use Rattle.writing.proofs.WritingLaws.{left_less, adds_none}
use Rattle.writing.proofs.NumberLaws.{line_none, line_step, line_last}
use Rattle.writing.proofs.Writer.put_line.Goals as goal

pub loop-number-preserved : goal.loop-number-preserved
loop-number-preserved c = let l = c.loop-number in
    let w = c.args.self.now in
    let s = c.args.numbers.now in
    let o = c.in-Some.others.now in
    let n = c.in-Some.last.now in
    let e : s ≡ o ++ (n ∷ []) = search rules in (
      c.put_number.ensures.same_output ∙ l.invariant.0,
      left_less (line s) (decimal (get_or o l.number-index 0) ++ (byte "," ∷ [])) (line (drop (l.number-index + 1) s)) w.output.now w.at
          (rw (e, line_step o n l.number-index (omega arith), ← e) at l.invariant.1) c.put_number.ensures.adds,
    )

pub returns-after-loop-number-clause-adds : goal.returns-after-loop-number-clause-adds
returns-after-loop-number-clause-adds c = let l = c.loop-number in
    let w = c.args.self.now in
    let s = c.args.numbers.now in
    let o = c.in-Some.others.now in
    let n = c.in-Some.last.now in
    let e : s ≡ o ++ (n ∷ []) = search rules in
    let i : l.number-index ≡ length o = omega arith in
    l.invariant.1 _ _ (rw (e, i, line_last o n) c.put_number-in-Some.ensures.adds)

pub returns-in_default-clause-adds : goal.returns-in_default-clause-adds
returns-in_default-clause-adds c = rw (line_none c.args.numbers.now (search rules)) (adds_none _ _)
