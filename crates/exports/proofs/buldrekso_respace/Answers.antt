-- `respacer::respace`, with its answer packed.
use lib.ListN.{length}
use Rattle.exports.proofs.Laws.{bytes_small}
use Rattle.exports.proofs.buldrekso_respace.Goals as goal

pub pack-requires : goal.pack-requires
pack-requires c = let a = c.args in
    rw c.respace.ensures.0 (bytes_small a.text.now (length a.output.now))

pub returns : goal.returns
returns c = (_, c.respace.ensures, c.pack.ensures)
