-- What was respaced of the front is printed whole, or its refusal.
use native.Mathlib.Omega.{arith}
use Rattle.respaced_listing.proofs.RespacedLaws.{accepted_respaced, refused_respaced}
use Rattle.respaced_listing.proofs.list_respaced.Goals as goal

pub returns-in-Accepted : goal.returns-in-Accepted
returns-in-Accepted c = let a = c.args in
    let r = c.respace-answer.ensures in
    let both = accepted_respaced a.input.now a.count _ c.front.ensures a.output.now _ _ (omega arith) (omega arith) r.0 r.1 _ c.in-Accepted.is in
    record { counts = both.0; lists_respaced = both.1 }

pub returns-in-Refused : goal.returns-in-Refused
returns-in-Refused c = let a = c.args in
    let r = c.respace-answer.ensures in
    let p = c.put_refused.ensures in
    let both = refused_respaced a.input.now a.count _ c.front.ensures a.output.now _ _ (omega arith) (omega arith) r.0 r.1 _ _ _ _ c.in-Refused.is p.adds p.place_len_bound in
    record { counts = both.0; lists_respaced = both.1 }
