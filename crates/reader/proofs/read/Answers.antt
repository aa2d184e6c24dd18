-- Length first; then what `fill` answers, with the table cleared where it is refused.
use Rattle.answers.proofs.AnswerLaws.{same_tells}
use mathlib.Core.Path.{sym, ap, ◌∙◌}
use lib.ListN.{length, replicate}
use Rattle.answers.specs.Faults.{answered}
use Rattle.reading.specs.Read.{reading_for}
use Rattle.reader.proofs.ReadLaws.{read_accepted, read_refused, read_long}
use Rattle.reader.proofs.read.Goals as goal

pub returns-then-text-gt-MOST_BYTES : goal.returns-then-text-gt-MOST_BYTES
returns-then-text-gt-MOST_BYTES c = let a = c.args in
    let p = read_long a.text.now a.trees.now _ c.if-text-gt-MOST_BYTES.true c.clear.ensures in
    rw c.from.ensures (p.0, p.1, same_tells p.0)

pub returns-in-Ok : goal.returns-in-Ok
returns-in-Ok c = let f = c.fill.ensures in
    let a = c.args in
    let p = read_accepted (reading_for a.text.now (length a.trees.now)) a.trees.now _ _ (sym (ap answered c.in-Ok.is) ∙ f.0) f.1 in
    (p.0, p.1, same_tells p.0)

pub returns-in-Err : goal.returns-in-Err
returns-in-Err c = let f = c.fill.ensures in
    let same = c.trees-2-1.given in
    let a = c.args in
    let p = read_refused (reading_for a.text.now (length a.trees.now)) a.trees.now _ _ _ (sym (ap answered c.in-Err.is) ∙ f.0) (c.clear-in-Err.ensures ∙ ap (λ n. replicate n 0) same) in
    rw c.into.ensures (p.0, p.1, same_tells p.0)
