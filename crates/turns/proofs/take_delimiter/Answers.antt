-- By what the delimiter makes of the state.
use borrow.Author.Rules.{rules}
use native.Mathlib.Omega.{arith}
use Rattle.std.proofs.lemmas.Result.{err_from_is_err_and}
use Rattle.keeping.proofs.KeepLaws.{tag_is, few_records}
use Rattle.turns.proofs.TakeLaws.{delimited, may_open, may_close, follows, opened_taken, closed_taken, stopped_taken}
use Rattle.turns.proofs.take_delimiter.Goals as goal

pub tag_for-tag-requires : goal.tag_for-tag-requires
tag_for-tag-requires c = let may = c.requires in
    (omega (arith, may.some, may.within, may.short), λ z. omega (arith, few_records _ _ _ _ _ _ _ may z, may.room_small))

pub keep_opener-to-requires : goal.keep_opener-to-requires
keep_opener-to-requires c = let may = c.requires in
    let t = c.tag_for-tag.ensures in
    may_open _ _ _ _ _ _ _ may _ (rw (c.in_ok-kind.was, c.in-Opened.is) at (delimited _ _ _ _ _ _ _ may _ _ _ c.delimit.ensures t.0 t.1))

pub keep_closer-to-requires : goal.keep_closer-to-requires
keep_closer-to-requires c = let may = c.requires in
    let t = c.tag_for-tag.ensures in
    may_close _ _ _ _ _ _ _ may _ (rw (c.in_ok-kind.was, c.in-Closed.is) at (delimited _ _ _ _ _ _ _ may _ _ _ c.delimit.ensures t.0 t.1))

pub returns-in-Opened-clause-takes : goal.returns-in-Opened-clause-takes
returns-in-Opened-clause-takes c = λ k was place levels near keeps.
    let t = c.tag_for-tag.ensures in
    let f = follows _ _ was _ _ _ _ place levels _ near keeps k _ _ _ c.delimit.ensures (tag_is _ was _ _ _ _ place levels _ _ _ t.0 t.1 keeps) in
    opened_taken _ _ was _ _ _ _ place levels _ near keeps _ (search rules) _ _ _ (rw (c.in_ok-kind.was, c.in-Opened.is) at f) c.keep_opener-to.ensures.keeps

pub returns-in-Closed-clause-takes : goal.returns-in-Closed-clause-takes
returns-in-Closed-clause-takes c = λ k was place levels near keeps.
    let t = c.tag_for-tag.ensures in
    let f = follows _ _ was _ _ _ _ place levels _ near keeps k _ _ _ c.delimit.ensures (tag_is _ was _ _ _ _ place levels _ _ _ t.0 t.1 keeps) in
    closed_taken _ _ was _ _ _ _ place levels _ near keeps _ (search rules) _ _ _ (rw (c.in_ok-kind.was, c.in-Closed.is) at f) c.keep_closer-to.ensures.keeps

pub returns-in_err-kind-clause-takes : goal.returns-in_err-kind-clause-takes
returns-in_err-kind-clause-takes c = λ k was place levels near keeps.
    let t = c.tag_for-tag.ensures in
    let f = follows _ _ was _ _ _ _ place levels _ near keeps k _ _ _ c.delimit.ensures (tag_is _ was _ _ _ _ place levels _ _ _ t.0 t.1 keeps) in
    let p = err_from_is_err_and c.from_residual.result c.from_residual.ensures.1 in
    rw (p.1, p.2) (stopped_taken _ _ was _ _ _ _ place levels _ near keeps _ (rw c.in_err-kind.was at f))
