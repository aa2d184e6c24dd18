-- What was written is in the output: the output afterwards starts with all of it.
use mathlib.Core.Path.{sym}
use lib.Seq.{length-take-le}
use Rattle.respacer.proofs.Theorems.{written_within}
use Rattle.example.proofs.respace.Goals as goal

pub slice_bounds-bytes-end : goal.slice_bounds-bytes-end
slice_bounds-bytes-end g c =
    let r = c.respace-answer in
    written_within c.args.text.now c.args.output.now r.new.output r.result r.ensures _ c.in-Accepted.is

pub slice_bounds-bytes-end-in-Accepted : goal.slice_bounds-bytes-end-in-Accepted
slice_bounds-bytes-end-in-Accepted g c =
    let r = c.respace-answer in
    sym
    (length-take-le c.in-Accepted.count r.new.output
    (written_within c.args.text.now c.args.output.now r.new.output r.result r.ensures _ c.in-Accepted.is))
