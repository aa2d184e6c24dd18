-- What was read of the front is printed whole.
use native.Mathlib.Omega.{arith}
use Rattle.listing.specs.Listing.{short_reading}
use Rattle.listing.proofs.ListingLaws.{trees_within, short_printed}
use Rattle.listing.proofs.list_short.Goals as goal

pub put_answer-requires : goal.put_answer-requires
put_answer-requires c = let r = c.read_short-answer.ensures in
    trees_within (short_reading _) _ c.args.trees.now _ r.0 r.1

pub returns-clause-lists_trees : goal.returns-clause-lists_trees
returns-clause-lists_trees c = let a = c.args in
    let r = c.read_short-answer.ensures in
    (short_printed a.input.now a.count _ c.front.ensures a.output.now _ _ _ a.trees.now _ r.0 r.1 (c.put_answer.ensures.written, c.put_answer.ensures.answer_len_bound) (omega arith) (omega arith)).1
