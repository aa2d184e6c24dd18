-- What is left to write are the bytes from the one on at which the loop stands.
use Rattle.std.proofs.Common.{◌≡◌, [], ◌∷◌, ◌+◌, ◌∙◌, arith, length, drop}
use lib.ListN.{get_or}
use lib.Seq.{drop-length}
use Rattle.text.proofs.Lists.{drop_at}
use Rattle.writing.proofs.WritingLaws.{left_less, left_none}
use Rattle.writing.proofs.Writer.put_bytes.Goals as goal

pub loop-byte-preserved : goal.loop-byte-preserved
loop-byte-preserved c = let l = c.loop-byte in
    let w = c.args.self.now in
    let s = c.args.bytes.now in (
      c.put_byte.ensures.same_output ∙ l.invariant.0,
      left_less s (get_or s l.byte-index 0 ∷ []) (drop (l.byte-index + 1) s) w.output.now w.at
          (rw (drop_at s l.byte-index (omega arith)) at l.invariant.1) c.put_byte.ensures.adds,
    )

pub returns-clause-adds : goal.returns-clause-adds
returns-clause-adds c = let l = c.loop-byte in
    let w = c.args.self.now in
    let s = c.args.bytes.now in
    let e : l.byte-index ≡ length s = omega arith in
    left_none s w.output.now w.at _ _ (rw (e, drop-length s) at l.invariant.1)
