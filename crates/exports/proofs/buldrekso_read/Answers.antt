-- `reader::read`, with its answer packed.
use lib.ListN.{length}
use Rattle.exports.proofs.Laws.{count_small}
use Rattle.exports.proofs.buldrekso_read.Goals as goal

pub pack-requires : goal.pack-requires
pack-requires c = let a = c.args in
    rw c.read.ensures.0 (count_small a.text.now (length a.trees.now))

pub returns : goal.returns
returns c = (_, c.read.ensures, c.pack.ensures)
