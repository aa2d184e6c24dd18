-- Length first; then what is written, with the output cleared where it is refused.
use Rattle.answers.proofs.AnswerLaws.{same_tells}
use mathlib.Core.Path.{sym, ap, ◌∙◌}
use lib.ListN.{length, replicate}
use Rattle.answers.specs.Faults.{answered}
use Rattle.answers.specs.declared.faults.Fault.{Fault}
use Rattle.reading.specs.Read.{most_bytes}
use Rattle.respacer.specs.Respace.{respacing_for}
use Rattle.respacer.proofs.CallLaws.{respace_accepted, respace_denied, text_denied, long_told}
use Rattle.respacer.proofs.respace.Goals as goal

pub returns-then-text-gt-MOST_BYTES : goal.returns-then-text-gt-MOST_BYTES
returns-then-text-gt-MOST_BYTES c = let a = c.args in
    let long = text_denied a.text.now a.output.now a.output.now (Fault.Long most_bytes) (long_told _ _ _ c.if-text-gt-MOST_BYTES.true) in
    let p = respace_denied (respacing_for a.text.now (length a.output.now)) a.output.now _ _ _ long.0 c.clear.ensures in
    rw c.from.ensures (p.0, p.1, same_tells p.0)

pub returns-in-Ok : goal.returns-in-Ok
returns-in-Ok c = let f = c.write_fitting.ensures in
    let a = c.args in
    let p = respace_accepted (respacing_for a.text.now (length a.output.now)) a.output.now _ _ (sym (ap answered c.in-Ok.is) ∙ f.0) f.1 in
    (p.0, p.1, same_tells p.0)

pub returns-in-Err : goal.returns-in-Err
returns-in-Err c = let f = c.write_fitting.ensures in
    let same = c.output-2-1.given in
    let a = c.args in
    let p = respace_denied (respacing_for a.text.now (length a.output.now)) a.output.now _ _ _ (sym (ap answered c.in-Err.is) ∙ f.0) (c.clear-in-Err.ensures ∙ ap (λ n. replicate n 0) same) in
    rw c.into.ensures (p.0, p.1, same_tells p.0)
