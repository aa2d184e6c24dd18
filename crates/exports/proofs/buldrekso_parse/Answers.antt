-- `parser::parse`, with its answer packed.
use lib.ListN.{length}
use Rattle.exports.proofs.Laws.{parts_small}
use Rattle.exports.proofs.buldrekso_parse.Goals as goal

pub pack-requires : goal.pack-requires
pack-requires c = let a = c.args in
    rw c.parse.ensures.0 (parts_small a.text.now (length a.trees.now) (length a.syntax.now))

pub returns : goal.returns
returns c = (_, c.parse.ensures, c.pack.ensures)
