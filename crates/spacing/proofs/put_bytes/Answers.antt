-- The bytes before the one at which the loop stands are written.
use Rattle.std.proofs.Common.{arith, rules, ◌++◌, take}
use lib.Seq.{take_all}
use Rattle.spacing.proofs.OverLaws.{bytes_step, bytes_place}
use Rattle.spacing.proofs.put_bytes.Goals as goal

pub loop-b-preserved : goal.loop-b-preserved
loop-b-preserved c = let a = c.args in
    let s = a.bytes.now in
    let l = c.loop-b in
    let p = c.put_byte-to.ensures in (
      omega (arith, p.0),
      search rules,
      λ written old e o. bytes_step s written old _ l.b-index (omega arith) (p.1 (written ++ take l.b-index s) old (bytes_place s written l.b-index a.at l.to (omega arith) e l.invariant.0) (l.invariant.2 written old e o)),
    )

pub returns : goal.returns
returns c = let l = c.loop-b in
    let s = c.args.bytes.now in
    (omega arith, λ written old e o. rw (take_all l.b-index s (omega arith)) at (l.invariant.2 written old e o))
