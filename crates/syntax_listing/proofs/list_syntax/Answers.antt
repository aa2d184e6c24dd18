-- What was parsed of the front is printed whole.
use native.Mathlib.Omega.{arith}
use lib.ListN.{length}
use Rattle.parsing.specs.Parse.{parsing_for}
use Rattle.syntax_listing.proofs.SyntaxLaws.{syntax_within, syntax_printed}
use Rattle.syntax_listing.proofs.list_syntax.Goals as goal

pub put_answer-requires : goal.put_answer-requires
put_answer-requires c = let r = c.parse-answer.ensures in
    let a = c.args in
    syntax_within (parsing_for _ (length a.trees.now) (length a.syntax.now)) _ a.syntax.now _ r.0 r.2

pub returns : goal.returns
returns c = let a = c.args in
    let r = c.parse-answer.ensures in
    let both = syntax_printed a.input.now a.count _ c.front.ensures a.output.now _ _ _ a.trees.now _ a.syntax.now _ (omega arith) (omega arith) r.0 r.1 r.2 (c.put_answer.ensures.written, c.put_answer.ensures.answer_len_bound) (omega arith) (omega arith) in
    record { counts = both.0; lists_syntax = both.1 }
