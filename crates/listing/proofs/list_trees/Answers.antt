-- What was read of the front is printed whole.
use native.Mathlib.Omega.{arith}
use lib.ListN.{length}
use Rattle.reading.specs.Read.{reading_for}
use Rattle.listing.proofs.ListingLaws.{trees_within, whole_printed}
use Rattle.listing.proofs.list_trees.Goals as goal

pub put_answer-requires : goal.put_answer-requires
put_answer-requires c = let r = c.read-answer.ensures in
    let t = c.args.trees.now in
    trees_within (reading_for _ (length t)) _ t _ r.0 r.1

pub returns-clause-lists_trees : goal.returns-clause-lists_trees
returns-clause-lists_trees c = let a = c.args in
    let r = c.read-answer.ensures in
    (whole_printed a.input.now a.count _ c.front.ensures a.output.now _ _ _ a.trees.now _ (omega arith) r.0 r.1 (c.put_answer.ensures.written, c.put_answer.ensures.answer_len_bound) (omega arith) (omega arith)).1
